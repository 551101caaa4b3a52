-- How a type, an instance or an item stands: the line that opens to what it contains.
use Rattle.std.specs.Prelude.{ℕ, List, [], ◌∷◌, codes, if◌then◌else◌}
use Rattle.markup.specs.Trees.{Markup, Break, Both, Element, Text, Attribute, number, line}
use Rattle.page_parts.specs.declared.standing.Standing.{Standing}
use Rattle.page_parts.specs.Pieces.{of_class, digits, said, percent, bar, ratio}

-- out where it or what it stands in is excluded; else whether its goal is met
abbrev pub mark_of : Standing → List ℕ
mark_of s = if s.excluded then codes "out" else if s.met then codes "met" else codes "miss"

-- what is excluded is struck through
abbrev pub name_tag : Standing → List ℕ
name_tag s = if s.excluded then codes "s" else codes "span"

-- its goal in per cent (`option.goal`, IEEE 1800-2017, 19.7)
unfoldable pub goal_piece : (goal : ℕ) → Markup
goal_piece goal = Element (codes "span") (of_class (codes "goal") ∷ []) (Both (Text (codes "goal ")) (Both (digits goal) (Text (codes "%"))))

-- how many of its bins are covered
unfoldable pub share_piece : (covered bins : ℕ) → Markup
share_piece covered bins = line (Element (codes "span") (of_class (codes "share") ∷ []) (ratio covered (codes "/") bins))

-- its coverage as a bar and in per cent
unfoldable pub amount_piece : (millionths : ℕ) → Markup
amount_piece millionths = Both (line (bar millionths)) (line (Element (codes "b") [] (percent millionths)))

-- all of these, its goal, and whether that is met
unfoldable pub figures : Standing → Markup
figures s =
    Both (share_piece s.covered s.bins) (Both (amount_piece s.millionths) (Both (line (goal_piece s.goal)) (said (codes "span") (codes "mark") (mark_of s))))

unfoldable pub names : (word name : List ℕ) → Standing → Markup
names word name s = Both (line (said (codes "span") (codes "kind") word)) (line (said (name_tag s) (codes "name") name))

-- the line that is always seen; `word` says what it is
unfoldable pub summary : (word name : List ℕ) → Standing → Markup
summary word name s =
    line (Element (codes "summary") [] (Both (names word name s) (figures s)))

abbrev pub details_attributes : Standing → List Attribute
details_attributes s = of_class (mark_of s) ∷ number (codes "data-millionths") s.millionths ∷ []

-- the line with what opens under it
abbrev pub details_with : (word name : List ℕ) → Standing → (inside : Markup) → Markup
details_with word name s inside = line (Element (codes "details") (details_attributes s) (Both (summary word name s) inside))
