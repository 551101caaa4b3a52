-- What stands around rows and around parts: tables, sections, lists of figures, and the curve of a ranking.
use Rattle.std.specs.Prelude.{ℕ, List, [], ◌∷◌, ◌++◌, codes, decimal}
use Rattle.markup.specs.Trees.{Markup, Both, Element, Empty, Text, Attribute, attribute, number, each, line, start_text, end_text, line_end, markup_text}
use Rattle.page_parts.specs.declared.standing.Standing.{Standing}
use Rattle.page_parts.specs.Pieces.{of_class, percent, bar, ratio}
use Rattle.page_parts.specs.Standings.{summary, details_attributes}

-- ---- tables

-- the head of a column
abbrev pub column : (name : List ℕ) → Markup
column name = Element (codes "th") (attribute (codes "scope") (codes "col") ∷ []) (Text name)

unfoldable pub caption_piece : (caption : List ℕ) → Markup
caption_piece caption = line (Element (codes "caption") [] (Text caption))

unfoldable pub column_heads : (columns : List (List ℕ)) → Markup
column_heads columns = Element (codes "tr") [] (each column columns)

-- a table's caption and the heads of its columns
unfoldable pub table_head : (caption : List ℕ) → (columns : List (List ℕ)) → Markup
table_head caption columns =
    Both (caption_piece caption) (line (Element (codes "thead") [] (column_heads columns)))

abbrev pub table_with : (caption : List ℕ) → (columns : List (List ℕ)) → (rows : Markup) → Markup
table_with caption columns rows = line (Element (codes "table") [] (Both (table_head caption columns) (Element (codes "tbody") [] rows)))

-- ---- sections

unfoldable pub heading : (title : List ℕ) → Markup
heading title = line (Element (codes "h2") [] (Text title))

abbrev pub section_with : (id title : List ℕ) → (inside : Markup) → Markup
section_with id title inside = line (Element (codes "section") (attribute (codes "id") id ∷ []) (Both (heading title) inside))

-- an element in lines of its own
abbrev pub block : (name : List ℕ) → (inside : Markup) → Markup
block name inside = line (Element name [] inside)

-- a paragraph
unfoldable pub paragraph : (text : List ℕ) → Markup
paragraph text = block (codes "p") (Text text)

-- ---- their first and last tags

unfoldable pub table_begin : (caption : List ℕ) → (columns : List (List ℕ)) → List ℕ
table_begin caption columns = start_text (codes "table") [] ++ (markup_text (table_head caption columns) ++ start_text (codes "tbody") [])

unfoldable pub table_end : List ℕ
table_end = end_text (codes "tbody") ++ (end_text (codes "table") ++ line_end)

unfoldable pub section_begin : (id title : List ℕ) → List ℕ
section_begin id title = start_text (codes "section") (attribute (codes "id") id ∷ []) ++ markup_text (heading title)

unfoldable pub details_begin : (word name : List ℕ) → Standing → List ℕ
details_begin word name s = start_text (codes "details") (details_attributes s) ++ markup_text (summary word name s)

unfoldable pub block_begin : (name : List ℕ) → List ℕ
block_begin name = start_text name []

unfoldable pub block_end : (name : List ℕ) → List ℕ
block_end name = end_text name ++ line_end
