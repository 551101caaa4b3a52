-- Small pieces of a page.
use Rattle.std.specs.Prelude.{ℕ, ◌/◌, ◌%◌, List, [], ◌∷◌, codes, decimal}
use Rattle.markup.specs.Trees.{Markup, Nothing, Both, Element, Text, Attribute, attribute, number, line}

abbrev pub of_class : (kind : List ℕ) → Attribute
of_class kind = attribute (codes "class") kind

-- a number in decimal
abbrev pub digits : ℕ → Markup
digits n = Text (decimal n)

-- an element of a class with a text in it; with a number
abbrev pub said : (name kind text : List ℕ) → Markup
said name kind text = Element name (of_class kind ∷ []) (Text text)

abbrev pub counted : (name kind : List ℕ) → ℕ → Markup
counted name kind n = said name kind (decimal n)

-- millionths as per cent with two digits behind the point, rounded down: all of it only where nothing is missing
unfoldable pub percent : (millionths : ℕ) → Markup
percent millionths =
    Both (digits (millionths / 10000)) (Both (Text (codes ".")) (Both (digits (millionths / 1000 % 10)) (Both (digits (millionths / 100 % 10)) (Text (codes "%")))))

-- millionths as a bar, of which a reader of screens hears nothing, as the number stands beside it
unfoldable pub bar : (millionths : ℕ) → Markup
bar millionths = Element (codes "progress") (number (codes "max") 1000000 ∷ number (codes "value") millionths ∷ attribute (codes "aria-hidden") (codes "true") ∷ []) Nothing

-- two numbers with a word between them
unfoldable pub ratio : (part : ℕ) → (word : List ℕ) → (whole : ℕ) → Markup
ratio part word whole = Both (digits part) (Both (Text word) (digits whole))

-- ---- the figures of the verdict: a label, and what stands behind it

unfoldable pub label_piece : (label : List ℕ) → Markup
label_piece label = Element (codes "dt") [] (Text label)

abbrev pub figure : (label : List ℕ) → Markup → Markup
figure label inside = line (Element (codes "div") [] (Both (label_piece label) (Element (codes "dd") [] inside)))

unfoldable pub figure_text : (label text : List ℕ) → Markup
figure_text label text = figure label (Text text)

unfoldable pub figure_count : (label : List ℕ) → ℕ → Markup
figure_count label n = figure label (digits n)

unfoldable pub figure_ratio : (label : List ℕ) → (part whole : ℕ) → Markup
figure_ratio label part whole = figure label (ratio part (codes " of ") whole)

-- ---- the coverage of all, and what is left out

unfoldable pub strong_percent : (millionths : ℕ) → Markup
strong_percent millionths = Element (codes "strong") [] (percent millionths)

-- `millionths` is the coverage of all
unfoldable pub overall : (millionths : ℕ) → Markup
overall millionths = line (Element (codes "p") (of_class (codes "overall") ∷ []) (Both (strong_percent millionths) (bar millionths)))

-- of so many bins only holes stand in a table, and there are so many more
unfoldable pub left_out : (bins more : ℕ) → Markup
left_out bins more =
    line (Element (codes "p") (of_class (codes "more") ∷ []) (Both (digits bins) (Both (Text (codes " bins, of which holes stand here, and ")) (Both (digits more) (Text (codes " more holes do not."))))))
