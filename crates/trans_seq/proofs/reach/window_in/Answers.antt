use Rattle.std.proofs.Common.{◌≡◌, ◌↔◌, ◌+◌, ◌<◌, length, get_or, true, false, subst, sym, arith}
use Rattle.std.specs.Prelude.{nat_eq}
use Rattle.trans_seq.specs.Reach.{Leads}
use Rattle.trans_seq.specs.Windows.{InItem, InSeq}
use Rattle.trans_seq.proofs.ReachLemmas.{left-start, left-more, left-end, end-at}
use Rattle.trans_seq.proofs.reach.window_in.Goals as goal

pub loop-i-init : goal.loop-i-init
loop-i-init c = record {
  size = c.in_ok-cuts.ensures.size;
  left = left-start c.as_slice-items.result.now c.args.window.now c.in_ok-cuts.cuts.items c.in_ok-cuts.ensures.first c.in_ok-cuts.ensures.others;
}

pub loop-i-preserved : goal.loop-i-preserved
loop-i-preserved c =
    let items = c.as_slice-items.result.now in
    let w = c.args.window.now in
    let i = c.loop-i.i in
    let lt : i < length items = omega arith in
    let item = c.index-items-i.result in
    let last = nat_eq (i + 1) (length items) in
    let next = c.in_ok-cuts-2.cuts.items in
    let leads : Leads (InItem item last) w c.loop-i.cuts.items next = subst (λ l. Leads (InItem item last) w l next) c.as_slice.ensures.value c.in_ok-cuts-2.ensures.leads in
    record {
      size = c.in_ok-cuts-2.ensures.size;
      left = left-more items item w c.loop-i.cuts.items next i last lt c.index-items-i.is (end-at items i lt) c.loop-i.invariant.left leads;
    }

pub returns : goal.returns
returns c =
    let w = c.args.window.now in
    let end : c.as_slice-reached.result.now ≡ c.loop-i.cuts.items = c.as_slice-reached.ensures.value in
    let found = left-end c.as_slice-items.result.now w c.loop-i.cuts.items c.loop-i.i (omega arith) c.loop-i.invariant.left in
    subst (λ l. (get_or c.as_slice-reached.result.now (length w) false ≡ true) ↔ InSeq l w) c.as_slice-items.ensures
    (subst (λ l. (get_or l (length w) false ≡ true) ↔ InSeq c.as_slice-items.result.now w) (sym end) found)
