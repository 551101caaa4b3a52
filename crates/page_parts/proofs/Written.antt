-- What was written piece by piece is the whole.
use Rattle.std.proofs.Common.{◌≡◌, ℕ, List, [], ◌∷◌, ◌++◌, codes, refl, sym, ◌∙◌, ap, append_assoc}
use Rattle.markup.specs.Trees.{Markup, Attribute, attribute, markup_text, start_text, end_text, line_end}
use Rattle.page_parts.specs.declared.standing.Standing.{Standing}
use Rattle.page_parts.specs.Standings.{summary, details_attributes, details_with}
use Rattle.page_parts.specs.Frames.{table_head, heading, table_with, section_with, block, table_begin, table_end, section_begin, details_begin, block_begin, block_end}

-- two pieces behind a text; three
module _ (old : List ℕ) where
  pub two : (x y m n : List ℕ) → m ≡ old ++ x → n ≡ m ++ y → n ≡ old ++ (x ++ y)
  two x y m n p q = q ∙ ap (λ (bytes : List ℕ). bytes ++ y) p ∙ append_assoc old x y

  pub three : (x y z m n o : List ℕ) → m ≡ old ++ x → n ≡ m ++ y → o ≡ n ++ z → o ≡ old ++ (x ++ (y ++ z))
  three x y z m n o p q r = two x (y ++ z) m o p (r ∙ ap (λ (bytes : List ℕ). bytes ++ z) q ∙ append_assoc m y z)

line_around : (begin inside close : List ℕ) → (begin ++ (inside ++ close)) ++ line_end ≡ begin ++ (inside ++ (close ++ line_end))
line_around begin inside close = append_assoc begin (inside ++ close) line_end ∙ ap (λ (bytes : List ℕ). begin ++ bytes) (append_assoc inside close line_end)

-- an element with a head in it, and what stands behind that
headed : (begin head inside close : List ℕ) → (begin ++ ((head ++ inside) ++ close)) ++ line_end ≡ (begin ++ head) ++ (inside ++ (close ++ line_end))
headed begin head inside close =
    line_around begin (head ++ inside) close
    ∙ ap (λ (bytes : List ℕ). begin ++ bytes) (append_assoc head inside (close ++ line_end))
    ∙ sym (append_assoc begin head (inside ++ (close ++ line_end)))

block_text : (name : List ℕ) (inside : Markup) → markup_text (block name inside) ≡ block_begin name ++ (markup_text inside ++ block_end name)
unfolding block_begin block_end
block_text name inside = line_around (start_text name []) (markup_text inside) (end_text name)

section_text : (id title : List ℕ) (inside : Markup) → markup_text (section_with id title inside) ≡ section_begin id title ++ (markup_text inside ++ block_end (codes "section"))
unfolding section_begin block_end
section_text id title inside = headed (start_text (codes "section") (attribute (codes "id") id ∷ [])) (markup_text (heading title)) (markup_text inside) (end_text (codes "section"))

details_text : (word name : List ℕ) (s : Standing) (inside : Markup) → markup_text (details_with word name s inside) ≡ details_begin word name s ++ (markup_text inside ++ block_end (codes "details"))
unfolding details_begin block_end
details_text word name s inside = headed (start_text (codes "details") (details_attributes s)) (markup_text (summary word name s)) (markup_text inside) (end_text (codes "details"))

table_text : (caption : List ℕ) (columns : List (List ℕ)) (rows : Markup) → markup_text (table_with caption columns rows) ≡ table_begin caption columns ++ (markup_text rows ++ table_end)
unfolding table_begin table_end
table_text caption columns rows =
    let table = start_text (codes "table") [] in
    let head = markup_text (table_head caption columns) in
    let body = start_text (codes "tbody") [] in
    let inside = markup_text rows in
    let ends = end_text (codes "tbody") in
    headed table head (body ++ (inside ++ ends)) (end_text (codes "table"))
    ∙ ap (λ (bytes : List ℕ). (table ++ head) ++ bytes) (append_assoc body (inside ++ ends) (end_text (codes "table") ++ line_end) ∙ ap (λ (bytes : List ℕ). body ++ bytes) (append_assoc inside ends (end_text (codes "table") ++ line_end)))
    ∙ sym (append_assoc (table ++ head) body (inside ++ (ends ++ (end_text (codes "table") ++ line_end))))
    ∙ ap (λ (bytes : List ℕ). bytes ++ (inside ++ (ends ++ (end_text (codes "table") ++ line_end)))) (append_assoc table head body)

module _ (old begun written ended : List ℕ) (inside : Markup) where
  pub block_written : (name : List ℕ) → begun ≡ old ++ block_begin name → written ≡ begun ++ markup_text inside → ended ≡ written ++ block_end name → ended ≡ old ++ markup_text (block name inside)
  block_written name p q r = three old _ _ _ begun written ended p q r ∙ ap (λ (bytes : List ℕ). old ++ bytes) (sym (block_text name inside))

  pub section_written : (id title : List ℕ) → begun ≡ old ++ section_begin id title → written ≡ begun ++ markup_text inside → ended ≡ written ++ block_end (codes "section") → ended ≡ old ++ markup_text (section_with id title inside)
  section_written id title p q r = three old _ _ _ begun written ended p q r ∙ ap (λ (bytes : List ℕ). old ++ bytes) (sym (section_text id title inside))

  pub details_written : (word name : List ℕ) (s : Standing) → begun ≡ old ++ details_begin word name s → written ≡ begun ++ markup_text inside → ended ≡ written ++ block_end (codes "details") → ended ≡ old ++ markup_text (details_with word name s inside)
  details_written word name s p q r = three old _ _ _ begun written ended p q r ∙ ap (λ (bytes : List ℕ). old ++ bytes) (sym (details_text word name s inside))

  pub table_written : (caption : List ℕ) (columns : List (List ℕ)) → begun ≡ old ++ table_begin caption columns → written ≡ begun ++ markup_text inside → ended ≡ written ++ table_end → ended ≡ old ++ markup_text (table_with caption columns inside)
  table_written caption columns p q r = three old _ _ _ begun written ended p q r ∙ ap (λ (bytes : List ℕ). old ++ bytes) (sym (table_text caption columns inside))
