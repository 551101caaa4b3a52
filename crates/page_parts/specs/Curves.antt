-- The curve of a ranking: how many bins are covered by the first tests, for each number of them.
use Rattle.std.specs.Prelude.{ℕ, ◌+◌, List, [], ◌∷◌, ◌++◌, codes, decimal}
use Rattle.markup.specs.Trees.{Markup, Both, Element, Empty, Text, Attribute, attribute, line}
use Rattle.page_parts.specs.Pieces.{of_class, ratio}

-- X,Y behind a blank
unfoldable pub point_text : (x y : ℕ) → List ℕ
point_text x y = 32 ∷ (decimal x ++ 44 ∷ decimal y)

-- the points of these heights, from this place on
abbrev pub points_from : (x : ℕ) → (heights : List ℕ) → List ℕ
points_from x [] = []
points_from x (y ∷ heights) = point_text x y ++ points_from (x + 1) heights

-- the same from the corner on, where no test is taken yet
abbrev pub points_of : (heights : List ℕ) → List ℕ
points_of heights = codes "0,0" ++ points_from 1 heights

-- as wide as there are tests, and as high as there are bins
abbrev pub box_text : (tests bins : ℕ) → List ℕ
box_text tests bins = codes "0 0 " ++ (decimal tests ++ 32 ∷ decimal bins)

-- what a reader of screens hears of it
unfoldable pub picture_attributes : List Attribute
picture_attributes = attribute (codes "role") (codes "img") ∷ attribute (codes "aria-label") (codes "Covered bins by tests in ranked order") ∷ []

abbrev pub curve_attributes : (box : List ℕ) → List Attribute
curve_attributes box = attribute (codes "viewBox") box ∷ attribute (codes "preserveAspectRatio") (codes "none") ∷ picture_attributes

unfoldable pub drawing : (box points : List ℕ) → Markup
drawing box points = line (Element (codes "svg") (curve_attributes box) (Empty (codes "polyline") (attribute (codes "points") points ∷ [])))

-- a label of an axis
unfoldable pub axis_label : (kind : List ℕ) → (amount : ℕ) → (word : List ℕ) → Markup
axis_label kind amount word = line (Element (codes "p") (of_class kind ∷ []) (Both (Text (decimal amount)) (Text word)))

-- the curve through these points, with what its axes count
unfoldable pub curve : (tests bins : ℕ) → (points : List ℕ) → Markup
curve tests bins points =
    line (Element (codes "div") (of_class (codes "curve") ∷ []) (Both (axis_label (codes "y") bins (codes " live bins")) (Both (drawing (box_text tests bins) points) (axis_label (codes "x") tests (codes " tests in ranked order")))))
