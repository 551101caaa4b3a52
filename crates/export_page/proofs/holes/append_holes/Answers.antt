use Rattle.std.proofs.Common.{ℕ, List, ◌++◌, codes, ap, ◌∙◌}
use Rattle.markup.specs.Trees.{Text, markup_text}
use Rattle.page_parts.specs.Frames.{block}
use Rattle.page_parts.proofs.Written.{section_written}
use Rattle.merge_store.specs.Stores.{opening_of, entries_of}
use Rattle.export_lists.specs.Holes.{holes_text}
use Rattle.export_page.specs.Page.{holes_part}
use Rattle.export_page.proofs.holes.append_holes.Goals as goal

pub returns : goal.returns
unfolding holes_part
returns c =
    let store = c.args.store.now in
    section_written c.args.text.now.items _ _ _ (block (codes "pre") (Text (holes_text (opening_of store) (entries_of store)))) (codes "holes") (codes "Holes") c.in_ok-begin_section.ensures
    (c.in_ok-append_lines.ensures ∙ ap (λ (lines : List ℕ). c.begin_section.new.text.items ++ markup_text (block (codes "pre") (Text lines))) (c.as_slice.ensures.value ∙ c.in_ok-lines.ensures))
    c.in_ok-end_block.ensures
