-- What a set keeps.
use Rattle.std.specs.Prelude.{◌≡◌, ℤ, ℕ, List}
use Rattle.cov_base.specs.Sets.{IsNormalForm}
use Rattle.cov_base.specs.Intervals.{starts, total}

-- intervals in normal form, how many numbers stand before each, and how many there are
pub record IsStored (intervals : List (ℤ × ℤ)) (before : List ℕ) (count : ℕ) : Type 0 where
  pub normal : IsNormalForm intervals
  pub before_is : before ≡ starts 0 intervals
  pub count_is : count ≡ total 0 intervals
