use Rattle.std.proofs.Common.{◌≡◌, Bool, ◌↔◌, IsTrue, length, rules, subst, sym}
use Rattle.std.specs.Prelude.{◌&&◌}
use Rattle.cov_spec.specs.Ranges.{InRanges}
use Rattle.cov_base.specs.Sets.{is_in, written, least}
use Rattle.cov_base.proofs.Finds.{found_at, none_found, is_in_ranges, lows_ascend}
use Rattle.cov_base.proofs.sets.search.has.Goals as goal

pub returns-then-is_empty-clause-value : goal.returns-then-is_empty-clause-value
returns-then-is_empty-clause-value c =
    let none : length c.args.intervals.now ≡ 0 = search rules in
    none_found c.args.intervals.now c.args.v none

pub place_of-requires-clause-ascends : goal.place_of-requires-clause-ascends
place_of-requires-clause-ascends c = lows_ascend least c.args.intervals.now c.requires.normal

pub returns : goal.returns
returns c =
    let value : (c.at_most.result && c.at_most-2.result) ≡ is_in (written c.args.intervals.now) c.args.v =
    found_at c.args.intervals.now c.args.v c.place_of.result c.index-intervals-place_of.result _ _ c.requires c.place_of.ensures.within c.place_of.ensures.above c.place_of.ensures.below c.index-intervals-place_of.is c.at_most.ensures c.at_most-2.ensures in
    record {
      value = value;
      in_ranges = subst (λ (b : Bool). IsTrue b ↔ InRanges c.args.v c.args.intervals.now) (sym value) (is_in_ranges c.args.intervals.now c.args.v);
    }
