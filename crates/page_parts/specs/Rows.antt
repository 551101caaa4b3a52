-- Rows of tables. The first cell of a row is its head.
use Rattle.std.specs.Prelude.{ℕ, List, [], ◌∷◌, codes}
use Rattle.markup.specs.Trees.{Markup, Both, Element, Text, attribute, line}
use Rattle.page_parts.specs.Pieces.{of_class, said, counted}

abbrev pub row_head : (text : List ℕ) → Markup
row_head text = Element (codes "th") (attribute (codes "scope") (codes "row") ∷ []) (Text text)

abbrev pub text_cell : (text : List ℕ) → Markup
text_cell text = said (codes "td") (codes "t") text

abbrev pub number_cell : ℕ → Markup
number_cell n = counted (codes "td") (codes "n") n

-- a row of a class, which says its head and the cells behind it
abbrev pub row : (kind name : List ℕ) → Markup → Markup
row kind name cells = line (Element (codes "tr") (of_class kind ∷ []) (Both (row_head name) cells))

-- a bin: how often it was hit, how often it has to be (`option.at_least`, IEEE 1800-2017, 19.7), and how it stands
unfoldable pub bin_row : (name : List ℕ) → (count at_least : ℕ) → (state : List ℕ) → Markup
bin_row name count at_least state = row state name (Both (number_cell count) (Both (number_cell at_least) (text_cell state)))

-- an illegal bin that was hit (19.5.6)
unfoldable pub illegal_row : (path : List ℕ) → (count : ℕ) → Markup
illegal_row path count = row (codes "illegal") path (number_cell count)

unfoldable pub run_cells : (seed time : ℕ) → (user : List ℕ) → Markup
run_cells seed time user = Both (number_cell seed) (Both (number_cell time) (text_cell user))

-- a test: how it ended, the seed, the time and the user of its run
unfoldable pub test_row : (id status : List ℕ) → (seed time : ℕ) → (user : List ℕ) → Markup
test_row id status seed time user = row status id (Both (text_cell status) (run_cells seed time user))

-- a test of the ranking: how many bins it adds to those before it, and how many that makes
unfoldable pub ranked_row : (id : List ℕ) → (gain total : ℕ) → Markup
ranked_row id gain total = row (codes "ranked") id (Both (number_cell gain) (number_cell total))
