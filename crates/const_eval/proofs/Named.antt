-- Names at levels.
use Rattle.std.proofs.Common.{◌≡◌, ℕ, List, ◌++◌, Option, Some, None, refl, ap, ◌∙◌}
use Rattle.name_map.proofs.Named as map
use Rattle.const_eval.specs.declared.meaning.Meaning.{Meaning}
use Rattle.const_eval.specs.Typs.{Typ}
use Rattle.const_eval.specs.Scopes.{Names, Levels, meaning_of, names_with, item_names, first_of}

same_first : (a b : Option Meaning) → map.first_of a b ≡ first_of a b
same_first None b = refl
same_first (Some m) b = refl

meaning_of-append : (a b : Names) (name : List ℕ) → meaning_of (a ++ b) name ≡ first_of (meaning_of a name) (meaning_of b name)
meaning_of-append a b name = map.meaning_of-append a b name ∙ same_first (meaning_of a name) (meaning_of b name)

pub levels_meaning : (item : Option Typ) (levels : Levels) (name : List ℕ) → meaning_of (names_with item levels) name ≡ first_of (meaning_of (item_names item) name) (first_of (meaning_of levels.inner name) (meaning_of levels.outer name))
levels_meaning item levels name = meaning_of-append (item_names item) (levels.inner ++ levels.outer) name ∙ ap (first_of (meaning_of (item_names item) name)) (meaning_of-append levels.inner levels.outer name)
