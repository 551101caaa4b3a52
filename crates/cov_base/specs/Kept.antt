-- What a set keeps, and how sets of the same numbers share it. Public contracts cite none of it.
use Rattle.std.specs.Prelude.{ℤ, List, [], ◌∷◌, Option, None, Some}
use Rattle.std.specs.declared.sync.Arc.{Arc}
use Rattle.std.specs.Arc.{arc_value}
use Rattle.cov_base.specs.declared.sets.kept.Kept.{Kept}
use Rattle.cov_base.specs.declared.sets.kept.Kept.TheVariants.{One, Many}
use Rattle.cov_base.specs.Sets.{IsNormalForm}
use Rattle.cov_base.specs.Stored.{IsStored}

-- the intervals
abbrev pub ranges_of : Kept → List (ℤ × ℤ)
ranges_of (One range) = range ∷ []
ranges_of (Many intervals counts) = intervals.items

-- they are in normal form, and counted where they are several
abbrev pub IsKept : Kept → Type 0
IsKept (One range) = IsNormalForm (range ∷ [])
IsKept (Many intervals counts) = IsStored intervals.items counts.starts.items counts.total

-- those of a set, which keeps nothing where it is empty
abbrev pub ranges_in : {Z : Type 0} → Option (Arc Kept Z) → List (ℤ × ℤ)
ranges_in None = []
ranges_in (Some kept) = ranges_of (arc_value kept)

abbrev pub IsKeptIn : {Z : Type 0} → Option (Arc Kept Z) → Type 0
IsKeptIn None = Unit {0}
IsKeptIn (Some kept) = IsKept (arc_value kept)
