use Rattle.std.proofs.Common.{◌≡◌, ℕ, ◌+◌, ◌||◌, get_or, false, ◌∙◌, ap, min, length, subst, sym, arith}
use Rattle.trans_seq.specs.Windows.{is_known_in}
use Rattle.trans_seq.specs.Reach.{Leads, IsRepeated, IsParts, IsPart}
use Rattle.trans_seq.proofs.ReachLemmas.{parts-zero, parts-more, first-size, repeated-first, repeated-more, repeated-same, repeated-all}
use Rattle.trans_seq.proofs.reach.repeated.Goals as goal
use Rattle.trans_seq.proofs.reach.repeated.Goals.{then-low-m+in_ok-found-2, else-low-m}

pub loop-m-init : goal.loop-m-init
loop-m-init c =
    let p = is_known_in c.args.set.now in
    let blocks = c.args.blocks in
    let w = c.args.window.now in
    let cuts = c.args.cuts.now in
    let same : c.in_ok-now.now.items ≡ cuts = c.in_ok-now.ensures.items in
    record {
      now_size = ap length same ∙ c.requires;
      found_size = first-size w cuts c.in_ok-found.found.items c.args.low c.requires c.in_ok-found.ensures.here c.in_ok-found.ensures.none;
      now = subst (λ l. Leads (IsParts p blocks 0) w cuts l) (sym same) (parts-zero p blocks w cuts);
      found = repeated-first p blocks w cuts c.in_ok-found.found.items c.args.low c.in_ok-found.ensures.here c.in_ok-found.ensures.none;
    }

pub loop-m-preserved : goal.loop-m-preserved
loop-m-preserved c =
    let p = is_known_in c.args.set.now in
    let blocks = c.args.blocks in
    let w = c.args.window.now in
    let cuts = c.args.cuts.now in
    let low = c.args.low in
    let m = c.loop-m.m in
    let inv = c.loop-m.invariant in
    let found = c.loop-m.found.items in
    let next = c.in_ok-now-2.now.items in
    let led = c.in_ok-now-2.ensures.leads in
    let more = parts-more p blocks w cuts c.loop-m.now.items next m inv.now (subst (λ l. Leads (IsPart p blocks) w l next) c.as_slice.ensures.value led) in
    record {
      now_size = c.in_ok-now-2.ensures.size;
      found_size = elim c.if-low-m.branch [
        | then-low-m+in_ok-found-2 b ↦ ap (λ f. length f.items) b.found-is ∙ b.in_ok-found-2.ensures.size ∙ ap length b.as_slice-then-low-m.ensures.value ∙ inv.found_size
        | else-low-m b ↦ ap (λ f. length f.items) b.found-is ∙ inv.found_size
      ];
      now = more;
      found = elim c.if-low-m.branch [
        | then-low-m+in_ok-found-2 b ↦
            let each : (k : ℕ) → get_or c.if-low-m.found.items k false ≡ (get_or found k false || get_or next k false) = λ k.
            ap (λ f. get_or f.items k false) b.found-is ∙ b.in_ok-found-2.ensures.each k
            ∙ ap (λ l. get_or l k false || get_or b.as_slice-then-low-m-2.result.now k false) b.as_slice-then-low-m.ensures.value
            ∙ ap (λ l. get_or found k false || get_or l k false) b.as_slice-then-low-m-2.ensures.value in
            repeated-more p blocks w cuts found next c.if-low-m.found.items low m b.if-low-m.true each inv.found more
        | else-low-m b ↦ subst (λ f. Leads (IsRepeated p blocks low (m + 1)) w cuts f.items) (sym b.found-is) (repeated-same p blocks w cuts found low m (omega (arith, b.if-low-m.false)) inv.found)
      ];
    }

pub returns-clause-leads : goal.returns-clause-leads
returns-clause-leads c =
    let w = c.args.window.now in
    let all : c.loop-m.m ≡ min (length w) c.args.high = omega (arith, c.loop-m-test.false, c.loop-m.auto.m-end, c.min-most.ensures) in
    repeated-all (is_known_in c.args.set.now) c.args.blocks w c.args.cuts.now c.loop-m.found.items c.args.low c.loop-m.m c.args.high all c.loop-m.invariant.found
