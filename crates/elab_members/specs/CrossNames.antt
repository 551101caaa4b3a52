-- The name of a cross, which its implicit points don't have (IEEE 1800-2017, 19.6).
use Rattle.std.specs.Prelude.{ℕ, ◌+◌, List, [], ◌∷◌, ◌++◌, length, codes, Bool, not, ◌&&◌, Option, Some, None, is_some, Result, Ok, if◌then◌else◌}
use Rattle.std.specs.Fmt.{decimal}
use Rattle.name_map.specs.Names.{Pairs, meaning_of, with_name}
use Rattle.cov_tree.specs.declared.groups.CrossDecl.{CrossDecl}
use Rattle.elab_base.specs.declared.fault.ElabKind.TheVariants as kind
use Rattle.elab_base.specs.declared.names.What.{What}
use Rattle.elab_base.specs.Gives.{Refusal, ◌>>=◌, needs}
use Rattle.elab_decls.specs.declared.outside.Outside.{Outside}
use Rattle.elab_crosses.specs.Axes.{Around, around, is_signal}
use Rattle.elab_members.specs.declared.items.Items.{Items}
use Rattle.elab_members.specs.declared.items.Inside.{Inside}

-- what stands around a cross of a group
abbrev pub around_cross : Outside → Inside → Items → Around
around_cross outside inside s = around s.items s.names inside.points inside.names outside.names

-- the label of a cross, or `cross_K` where so many items stand before it, its implicit points among them
abbrev pub cross_name : Option (List ℕ) → ℕ → List ℕ
cross_name (Some label) k = label
cross_name None k = codes "cross_" ++ decimal k

-- a name by which a cross makes an implicit point: of a signal, where no item before it and no point behind it has the name
abbrev pub makes_point : Around → List ℕ → Bool
makes_point around name =
    not (is_some (meaning_of around.names name)) && (not (is_some (meaning_of around.points name))
    && is_signal (meaning_of around.formals name) (meaning_of around.design name))

abbrev pub with_implicit : Around → List ℕ → Pairs (Unit {0}) → Pairs (Unit {0})
with_implicit around name made = if makes_point around name then with_name made name tt else made

-- the names of the implicit points that a cross of these names makes, each once, behind others
unfoldable pub implicit_names : Around → List (List ℕ) → Pairs (Unit {0}) → Pairs (Unit {0})
implicit_names around [] made = made
implicit_names around (name ∷ names) made = implicit_names around names (with_implicit around name made)

-- a name that neither an item before the cross has nor one of its implicit points
abbrev pub is_free : Pairs What → Pairs (Unit {0}) → List ℕ → Bool
is_free names made name = not (is_some (meaning_of names name)) && not (is_some (meaning_of made name))

abbrev pub free_name : Pairs What → Pairs (Unit {0}) → List ℕ → ℕ → Result (List ℕ) Refusal
free_name names made name at = do
  _ ← needs (is_free names made name) kind.DuplicateName at
  Ok name

-- the name of a cross behind these implicit points
unfoldable pub name_behind : Around → Pairs (Unit {0}) → CrossDecl → Result (List ℕ) Refusal
name_behind around made c = free_name around.names made (cross_name c.label (length around.items + length made)) c.at

-- the name of a cross
abbrev pub name_of_cross : Around → CrossDecl → Result (List ℕ) Refusal
name_of_cross around c = name_behind around (implicit_names around c.points []) c
