-- Words of the laws of declarations.
use Rattle.std.specs.Prelude.{◌≡◌, [], ◌∷◌, ◌++◌, true, None}
use Rattle.std.specs.List.{AllByRecursion}
use Rattle.name_map.specs.Names.{Pairs, meaning_of}
use Rattle.elab_decls.specs.declared.outside.Enumeration.{Enumeration}
use Rattle.elab_decls.specs.Shapes.{is_number}

-- no name of the pairs is one of those before it
abbrev pub AreNew : {M : Type 0} → (before pairs : Pairs M) → Type 0
AreNew before [] = Unit {0}
AreNew before (pair ∷ pairs) = (meaning_of before pair.0 ≡ None) × AreNew (before ++ pair ∷ []) pairs

-- names of one scope, each of which is there once
abbrev pub AreDistinct : {M : Type 0} → Pairs M → Type 0
AreDistinct pairs = AreNew [] pairs

-- each constant of an enumeration is a number of its base
abbrev pub AreOfBase : Enumeration → Type 0
AreOfBase e = AllByRecursion (λ constant. is_number e.typ constant.1 ≡ true) e.constants
