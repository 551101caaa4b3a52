-- The marks of a page are those of its front, of its tree without what it says, and of its end.
use Rattle.std.proofs.Common.{◌≡◌, ℕ, List, ◌++◌, refl, sym, ◌∙◌, ap}
use Rattle.std.specs.Prelude.{filter}
use Rattle.std.proofs.lemmas.List.Elements.{filter-append}
use Rattle.markup.specs.Trees.{Markup, markup_text, silenced}
use Rattle.markup.specs.Laws.{is_mark}
use Rattle.markup.proofs.Marks as markup
use Rattle.page_parts.specs.Fixed.{front, back}
use Rattle.design_data.specs.declared.design.Design.{Design}
use Rattle.cov_history.specs.declared.entry.Entry.{Entry}
use Rattle.export_page.specs.Page.{page_tree, page_text}
use Rattle.export_page.specs.Laws.{IsMarkedAlike}

around : (begin end : List ℕ) (tree : Markup) → filter is_mark (begin ++ (markup_text tree ++ end)) ≡ filter is_mark begin ++ (filter is_mark (markup_text (silenced tree)) ++ filter is_mark end)
around begin end tree =
    filter-append is_mark begin (markup_text tree ++ end)
    ∙ ap (λ (bytes : List ℕ). filter is_mark begin ++ bytes) (filter-append is_mark (markup_text tree) end ∙ ap (λ (bytes : List ℕ). bytes ++ filter is_mark end) (markup.marked_alike tree))

pub marked_alike : (opening : Design) (h : List Entry) (digest : List ℕ) → IsMarkedAlike opening h digest
unfolding page_text
marked_alike opening h digest = around front back (page_tree opening h digest)
