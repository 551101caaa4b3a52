use Rattle.std.proofs.Common.{◌≡◌, arith, refl, Bool, true, false, cond, int_le}
use Rattle.std.proofs.lemmas.Int.{ints}
use Rattle.cov_base.proofs.sets.search.reaches.Goals as goal

pub returns : goal.returns
returns c = by (int_le c.args.low c.args.v) refl
  where
    by : (t : Bool) → int_le c.args.low c.args.v ≡ t → c.sign_bit.result ≡ cond t 1 0
    by true e = c.sign_bit.ensures.below (omega (arith, ints, e, c.get.ensures.value, c.get-2.ensures.value, c.get.ensures.range, c.get-2.ensures.range))
    by false e = c.sign_bit.ensures.others (omega (arith, ints, e, c.get.ensures.value, c.get-2.ensures.value, c.get.ensures.range, c.get-2.ensures.range))
