-- A piece of XML or HTML as plain data, and its text.
use Rattle.std.specs.Prelude.{ℕ, ℤ, List, [], ◌∷◌, ◌++◌, codes, map, decimal, Bool, if◌then◌else◌}
use Rattle.std.specs.Fmt.{signed_decimal}
use Rattle.markup.specs.Escaping.{escape}

-- an attribute of this name and value
pub record Attribute : Type 0 where
  pub name : List ℕ
  pub value : List ℕ

-- Nothing; the end of a line; one piece behind another; an element with what stands in it; one that has nothing in it, and
-- no tag at its end; a text.
pub data Markup : Type 0 where
  Nothing : Markup
  Break : Markup
  Both : (first second : Markup) → Markup
  Element : (name : List ℕ) → List Attribute → (inside : Markup) → Markup
  Empty : (name : List ℕ) → List Attribute → Markup
  Text : List ℕ → Markup

-- ---- the text

-- `<NAME`
unfoldable pub tag_text : (name : List ℕ) → List ℕ
tag_text name = 60 ∷ name

-- ` NAME="VALUE"`
unfoldable pub attribute_text : Attribute → List ℕ
attribute_text a = 32 ∷ (a.name ++ 61 ∷ 34 ∷ (escape a.value ++ 34 ∷ []))

abbrev pub attributes_text : List Attribute → List ℕ
attributes_text [] = []
attributes_text (a ∷ rest) = attribute_text a ++ attributes_text rest

-- `>`, and `/>` where nothing stands in the element
unfoldable pub tag_end : List ℕ
tag_end = 62 ∷ []

unfoldable pub empty_end : List ℕ
empty_end = 47 ∷ 62 ∷ []

-- the first tag of an element
abbrev pub start_text : (name : List ℕ) → List Attribute → List ℕ
start_text name attributes = tag_text name ++ (attributes_text attributes ++ tag_end)

unfoldable pub line_end : List ℕ
line_end = 10 ∷ []

-- `</NAME>`
unfoldable pub end_text : (name : List ℕ) → List ℕ
end_text name = 60 ∷ 47 ∷ (name ++ 62 ∷ [])

abbrev pub markup_text : Markup → List ℕ
markup_text Nothing = []
markup_text Break = line_end
markup_text (Both first second) = markup_text first ++ markup_text second
markup_text (Element name attributes inside) = start_text name attributes ++ (markup_text inside ++ end_text name)
markup_text (Empty name attributes) = tag_text name ++ (attributes_text attributes ++ empty_end)
markup_text (Text bytes) = escape bytes

-- ---- making trees

-- a piece for each element of a list
abbrev pub each : {A : Type 0} → (A → Markup) → List A → Markup
each piece [] = Nothing
each piece (x ∷ xs) = Both (piece x) (each piece xs)

-- a piece for each two that stand at one place of two lists
abbrev pub each_pair : {A B : Type 0} → (A → B → Markup) → List A → List B → Markup
each_pair piece [] ys = Nothing
each_pair piece (x ∷ xs) [] = Nothing
each_pair piece (x ∷ xs) (y ∷ ys) = Both (piece x y) (each_pair piece xs ys)

-- a piece with the end of its line
abbrev pub line : Markup → Markup
line piece = Both piece Break

-- the attribute of this name with this value; with a number in decimal; with a truth value
abbrev pub attribute : (name value : List ℕ) → Attribute
attribute name value = record { name = name; value = value }

abbrev pub number : (name : List ℕ) → ℕ → Attribute
number name n = attribute name (decimal n)

abbrev pub integer : (name : List ℕ) → ℤ → Attribute
integer name z = attribute name (signed_decimal z)

abbrev pub truth_text : Bool → List ℕ
truth_text value = if value then codes "true" else codes "false"

abbrev pub truth : (name : List ℕ) → Bool → Attribute
truth name value = attribute name (truth_text value)

-- ---- the same without what it says

abbrev pub silent : Attribute → Attribute
silent a = attribute a.name []

-- the tree with all values and texts empty
abbrev pub silenced : Markup → Markup
silenced Nothing = Nothing
silenced Break = Break
silenced (Both first second) = Both (silenced first) (silenced second)
silenced (Element name attributes inside) = Element name (map silent attributes) (silenced inside)
silenced (Empty name attributes) = Empty name (map silent attributes)
silenced (Text bytes) = Text []
