use Rattle.std.proofs.Common.{◌+◌, List, ℕ, length, drop, take, subst, sym, arith}
use Rattle.std.proofs.lemmas.Option.{slice_get_within}
use Rattle.std.proofs.lemmas.List.{take_all}
use Rattle.design_data.specs.declared.infos.ItemInfo.{ItemInfo}
use Rattle.design_data.specs.Bins.{bins_in, IsNumberedFrom}
use Rattle.cov_counting.specs.Steps.{Extends}
use Rattle.cov_counting.proofs.Done.{extends_none, extends_more, length_more, bins_more, numbered_at, item_next}
use Rattle.cov_counting.proofs.tally.add_items.Goals as goal

pub loop-item-init : goal.loop-item-init
loop-item-init c = record { next = c.requires.next; extends = extends_none c.args.counts.now; done = λ k item lt is. absurd (omega (arith, lt)) }

pub add_item-requires : goal.add_item-requires
add_item-requires c = record {
  items = c.requires.items;
  next = (numbered_at (length c.loop-item.counts) c.args.items.now c.loop-item.item-index c.item-item.result c.loop-item-test.true c.item-item.is c.loop-item.invariant.next).0;
}

pub loop-item-preserved : goal.loop-item-preserved
loop-item-preserved c =
    let inv = c.loop-item.invariant in
    let items = c.args.items.now in
    let i = c.loop-item.item-index in
    let item = c.item-item.result in
    let a = c.loop-item.counts in
    let b = c.add_item.new.counts in
    let ext : Extends a b (length item.bins) = c.in_ok-add_item.ensures.extends in
    record {
      next = subst (λ (n : ℕ). IsNumberedFrom n (drop (i + 1) items)) (sym (length_more a b (length item.bins) ext)) (numbered_at (length a) items i item c.loop-item-test.true c.item-item.is inv.next).1;
      extends = subst (Extends c.args.counts.now b) (sym (bins_more items i item c.loop-item-test.true c.item-item.is)) (extends_more c.args.counts.now a b (bins_in (take i items)) (length item.bins) inv.extends ext);
      done = item_next items c.args.samples.now a b i (length item.bins) item ext c.loop-item-test.true c.item-item.is c.in_ok-add_item.ensures.done inv.done;
    }

pub returns : goal.returns
returns c = record {
  extends = subst (λ (xs : List ItemInfo). Extends c.args.counts.now c.loop-item.counts (bins_in xs)) (take_all c.loop-item.item-index c.args.items.now c.loop-item-test.false) c.loop-item.invariant.extends;
  done = λ k item is. c.loop-item.invariant.done k item (omega (arith, slice_get_within c.args.items.now k item is, c.loop-item-test.false)) is;
}
