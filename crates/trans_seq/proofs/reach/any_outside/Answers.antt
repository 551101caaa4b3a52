use Rattle.std.proofs.Common.{◌≡◌, ◌<◌, length, ◌+◌, ◌∙◌, ◌||◌, ◌&&◌, not, set, get_or, false, refl, ap, sym, arith}
use Rattle.std.proofs.lemmas.List.{length-set, length-replicate, get_or-set_same}
use Rattle.trans_seq.specs.Windows.{is_known_in}
use Rattle.trans_seq.proofs.ReachLemmas.{inside-at, opened, opened-more, set-more, outside-leads}
use Rattle.trans_seq.proofs.reach.any_outside.Goals as goal

pub loop-k-init : goal.loop-k-init
loop-k-init c =
    let p = is_known_in c.args.set.now in
    let w = c.args.window.now in
    let cuts = c.args.cuts.now in
    let none = c.in_ok-next.next.items in
    let size : length none ≡ length w + 1 = ap length c.in_ok-next.ensures ∙ length-replicate (length w + 1) false in
    record {
      len = length-set none 0 (get_or cuts 0 false) ∙ size;
      last = refl;
      done = λ j lt. let zero : j ≡ 0 = omega (arith, lt) in
          ap (λ i. get_or (set none 0 (get_or cuts 0 false)) i false) zero ∙ get_or-set_same none 0 (get_or cuts 0 false) false (omega (arith, size)) ∙ ap (λ i. opened p w cuts i) (sym zero);
    }

pub loop-k-preserved : goal.loop-k-preserved
loop-k-preserved c =
    let p = is_known_in c.args.set.now in
    let w = c.args.window.now in
    let cuts = c.args.cuts.now in
    let next = c.loop-k.next.items in
    let k = c.loop-k.k in
    let b = c.is_inside-outside.result in
    let inv = c.loop-k.invariant in
    let lt : k < length w = omega arith in
    let is = inside-at p w k c.index-window-k.result b lt c.index-window-k.is c.is_inside-outside.ensures in
    let value = get_or cuts (k + 1) false || (c.loop-k.reached && not b) in
    let here : value ≡ opened p w cuts (k + 1) = opened-more p w cuts k c.loop-k.reached b is inv.last in
    record {
      len = length-set next (k + 1) value ∙ inv.len;
      last = here;
      done = set-more next (k + 1) value (opened p w cuts) (omega (arith, lt, inv.len)) inv.done here;
    }

pub returns-clause-leads : goal.returns-clause-leads
returns-clause-leads c =
    let w = c.args.window.now in
    outside-leads (is_known_in c.args.set.now) w c.args.cuts.now c.loop-k.next.items
    (λ k le. c.loop-k.invariant.done k (omega (arith, le, c.loop-k-test.false)))
