-- The declarations of a dump (IEEE 1800-2017, 21.7.2.3): scopes and variables.
use Rattle.std.specs.Prelude.{ℕ, List, [], ◌∷◌, ◌++◌, ◌-◌, ◌^◌, codes, length, take, drop, slice_index, nat_lt, nat_le, nat_eq, ◌==◌, ◌||◌, Option, Some, None, Bool, if◌then◌else◌}
use mathlib.Core.Bool.{◌&&◌}
use Rattle.std.specs.List.{list_all, position_or_len}
use Rattle.std.specs.Cmp.Lexicographic.{pointwise}
use Rattle.name_map.specs.Names.{Pairs, meaning_of, with_name}
use Rattle.vcd_dump.specs.declared.dump.DumpVar.{DumpVar}
use Rattle.vcd_dump.specs.declared.header.Code.{Code}
use Rattle.vcd_dump.specs.declared.header.Header.{Header}
use Rattle.vcd_dump.specs.declared.header.Keyword.{Keyword}
use Rattle.vcd_dump.specs.declared.header.Keyword.TheVariants.{Text, Scope, Upscope, Var, EndDefinitions, Other}
use Rattle.vcd_dump.specs.Numbers.{number_in}

-- the same bytes
abbrev pub is : List ℕ → List ℕ → Bool
is text other = pointwise nat_eq text other

-- what a declaration begins with
unfoldable pub keyword_of : List ℕ → Keyword
keyword_of text =
    if is text (codes "$var") then Var
    else if is text (codes "$scope") then Scope
    else if is text (codes "$upscope") then Upscope
    else if is text (codes "$comment") then Text
    else if is text (codes "$date") then Text
    else if is text (codes "$version") then Text
    else if is text (codes "$timescale") then Text
    else if is text (codes "$enddefinitions") then EndDefinitions
    else Other

-- ---- scopes, the innermost first, each with its names from the outermost on, joined by dots

abbrev pub joined : List (List ℕ) → List ℕ → List ℕ
joined [] name = name
joined (scope ∷ scopes) name = scope ++ (46 ∷ name)

-- the scope that a declaration stands in; a dot where it stands in none
abbrev pub scope_name : List (List ℕ) → List ℕ
scope_name [] = 46 ∷ []
scope_name (scope ∷ scopes) = scope

-- those that are left where the innermost ends
abbrev pub outer : List (List ℕ) → Option (List (List ℕ))
outer [] = None
outer (scope ∷ scopes) = Some scopes

-- ---- variables

-- a size in bits, from 1 to 2^32 - 1
abbrev pub sized : Option ℕ → Option ℕ
sized None = None
sized (Some size) = if nat_lt 0 size && nat_lt size (2 ^ 32) then Some size else None

unfoldable pub size_of : List ℕ → Option ℕ
size_of text = sized (number_in 10 text)

-- A code is numbered by its first declaration, and has the width that stands there.
abbrev pub code_or : Option Code → Code → Code
code_or None new = new
code_or (Some code) new = code

unfoldable pub code_of : Pairs Code → List ℕ → (width : ℕ) → Code
code_of codes text width = code_or (meaning_of codes text) (record { number = length codes; width = width })

unfoldable pub with_code : List ℕ → (width : ℕ) → Header → Header
with_code text width h = record h { codes = with_name h.codes text (record { number = length h.codes; width = width }) }

abbrev pub is_open : ℕ → Bool
is_open byte = byte == 91

abbrev pub is_decimal : ℕ → Bool
is_decimal byte = nat_le 48 byte && nat_le byte 57

-- a number in brackets, which takes a bit of a variable or a word of an array
unfoldable pub is_index : List ℕ → Bool
is_index text = nat_lt 2 (length text) && is_open (slice_index text 0) && slice_index text (length text - 1) == 93 && list_all is_decimal (take (length text - 2) (drop 1 text))

-- a reference up to its bracket
unfoldable pub name_in : List ℕ → List ℕ
name_in reference = take (position_or_len is_open reference) reference

-- a variable that is declared by this reference and by what stands behind it
unfoldable pub declared : List ℕ → List ℕ → Code → Header → DumpVar
declared reference select code h = record { scope = scope_name h.scopes; name = name_in reference; width = code.width; selected = is_index (drop (position_or_len is_open reference) reference) || is_index select; code = code.number }

unfoldable pub with_var : List ℕ → List ℕ → Code → Header → Header
with_var reference select code h = record h { vars = h.vars ++ declared reference select code h ∷ [] }
