-- How the code counts the bins of each member. Public contracts cite none of it.
use Rattle.std.specs.Prelude.{◌≡◌, ◌<◌, ℕ, ◌+◌, nat_lt, List, length, slice_index, slice_set, Option, Some, None, if◌then◌else◌}
use Rattle.cross_holes.specs.Projected.{with_member}

-- one bin more, which has this member
abbrev pub counted : (member : Option ℕ) → List ℕ → List ℕ
counted None counts = counts
counted (Some member) counts = if nat_lt member (length counts) then slice_set counts member (slice_index counts member + 1) else counts

-- how many bins have each of so many members
pub record AreCounts (member_of : ℕ → Option ℕ) (members : ℕ) (bins counts : List ℕ) : Type 0 where
  pub long : length counts ≡ members
  pub each : (member : ℕ) → member < members → slice_index counts member ≡ with_member member_of member bins
