-- Names with what they stand for.
pub use Rattle.name_map.specs.Names.{meaning_of, with_name, with_names}
use Rattle.std.specs.Prelude.{[], ◌∷◌, ◌++◌, Option, Some, None, codes}
use Rattle.name_map.specs.Names.{Pairs}
use Rattle.const_eval.specs.Typs.{Typ}
use Rattle.const_eval.specs.declared.meaning.Meaning.{Meaning}
use Rattle.const_eval.specs.declared.meaning.Meaning.TheVariants.{Signal}
use Rattle.const_eval.specs.Terms.{item_index}

-- pairs of a name and its meaning, of which the first of a name counts
abbrev pub Names : Type 0
Names = Pairs Meaning

-- Names at three levels: `item` where it has a type, inner names, and outer names.
pub record Levels : Type 0 where
  pub item : Option Typ
  pub inner : Names
  pub outer : Names

abbrev pub item_names : Option Typ → Names
item_names None = []
item_names (Some typ) = (codes "item", Signal item_index typ 0) ∷ []

-- all names, where `item` has this type or is no name of its own; an inner one hides an outer one
abbrev pub names_with : Option Typ → Levels → Names
names_with item levels = item_names item ++ (levels.inner ++ levels.outer)

-- all names
abbrev pub names_of : Levels → Names
names_of levels = names_with levels.item levels

abbrev pub first_of : Option Meaning → Option Meaning → Option Meaning
first_of None later = later
first_of (Some meaning) later = Some meaning
