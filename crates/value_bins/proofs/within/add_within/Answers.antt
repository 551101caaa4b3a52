use Rattle.std.proofs.Common.{sym, subst}
use Rattle.std.proofs.lemmas.Result.{on_ok_weaker}
use Rattle.value_bins.specs.Clips.{StandInOrder}
use Rattle.value_bins.proofs.Clipping.{in_order_behind, rest_is, within_is}
use Rattle.value_bins.proofs.within.add_within.Goals as goal

pub add_clips-requires : goal.add_clips-requires
add_clips-requires c = subst StandInOrder (sym (rest_is c.args.intervals.now c.count_below-first.result)) (in_order_behind c.args.intervals.now c.count_below-first.result c.requires)

pub returns : goal.returns
returns c = on_ok_weaker c.add_clips.result (λ added. within_is (c.args.low, c.args.high) c.args.kept.now.items c.add_clips.new.kept.items c.args.intervals.now _ c.count_below-first.result c.requires c.count_below-first.ensures.below (rest_is c.args.intervals.now c.count_below-first.result) added) c.add_clips.ensures
