-- What holds of each page.
use Rattle.std.specs.Prelude.{◌≡◌, ℕ, List, ◌++◌, filter}
use Rattle.markup.specs.Trees.{markup_text, silenced}
use Rattle.markup.specs.Laws.{is_mark}
use Rattle.page_parts.specs.Fixed.{front, back}
use Rattle.design_data.specs.declared.design.Design.{Design}
use Rattle.cov_history.specs.declared.entry.Entry.{Entry}
use Rattle.export_page.specs.Page.{page_tree, page_text}

-- The marks of a page, `<`, `>`, `"` and `'`, are those of its front, of its tree with all values and texts empty, and of its
-- end: no name, id, user or path of a history makes a tag, ends one, or ends a value.
abbrev pub IsMarkedAlike : (opening : Design) → List Entry → (digest : List ℕ) → Type 0
IsMarkedAlike opening h digest =
    filter is_mark (page_text opening h digest) ≡ filter is_mark front ++ (filter is_mark (markup_text (silenced (page_tree opening h digest))) ++ filter is_mark back)
