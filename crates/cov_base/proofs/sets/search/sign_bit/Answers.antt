use Rattle.std.proofs.Common.{◌∙◌, ap}
use Rattle.std.specs.Int.{cast_unsigned, w128}
use Rattle.std.proofs.lemmas.Int.{to_z-of_z}
use Rattle.cov_base.proofs.Search.{sign_below, sign_above}
use Rattle.cov_base.proofs.sets.search.sign_bit.Goals as goal

pub returns : goal.returns
returns c =
    let bits = c.cast_unsigned.ensures ∙ ap (cast_unsigned w128) (to_z-of_z w128 c.args.number c.ranges.number) in
    record {
      below = λ lt. sign_below c.args.number _ c.ranges.number bits lt;
      others = λ le. sign_above c.args.number _ c.ranges.number bits le;
    }
