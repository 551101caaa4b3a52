use Rattle.std.proofs.Common.{◌∙◌, ap, sym, arith, refl, Some}
use Rattle.cov_base.proofs.Counts.{nth_none}
use Rattle.cov_base.proofs.Laws.{searchable, nth_is}
use Rattle.cov_base.proofs.sets.counts.nth.Goals as goal

pub returns-then-k-total : goal.returns-then-k-total
returns-then-k-total c = sym (nth_none c.args.intervals.now c.args.k (omega (arith, c.requires.count_is, c.if-k-total.true)))

pub place_of-place-requires-clause-some : goal.place_of-place-requires-clause-some
place_of-place-requires-clause-some c = (searchable _ _ _ _ _ refl c.requires c.if-k-total.false).some

pub place_of-place-requires-clause-first : goal.place_of-place-requires-clause-first
place_of-place-requires-clause-first c = (searchable _ _ _ _ _ refl c.requires c.if-k-total.false).first

pub place_of-place-requires-clause-ascends : goal.place_of-place-requires-clause-ascends
place_of-place-requires-clause-ascends c = (searchable _ _ _ _ _ refl c.requires c.if-k-total.false).ascends

pub bounds-intervals-place : goal.bounds-intervals-place
bounds-intervals-place c = omega (arith, c.place_of-place.ensures.within, (searchable _ _ _ _ _ refl c.requires c.if-k-total.false).same)

pub bounds-intervals-place-else-k-total : goal.bounds-intervals-place-else-k-total
bounds-intervals-place-else-k-total c = omega (arith, c.place_of-place.ensures.within, (searchable _ _ _ _ _ refl c.requires c.if-k-total.false).same)

pub plus-requires : goal.plus-requires
plus-requires c = (nth_is _ _ _ _ _ _ c.index-intervals-place.result refl c.requires c.if-k-total.false c.place_of-place.ensures.within c.place_of-place.ensures.reached c.place_of-place.ensures.above).small

pub returns : goal.returns
returns c =
    let number = nth_is _ _ _ _ _ _ c.index-intervals-place.result refl c.requires c.if-k-total.false c.place_of-place.ensures.within c.place_of-place.ensures.reached c.place_of-place.ensures.above in
    ap Some c.plus.ensures ∙ sym number.is
