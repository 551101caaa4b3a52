use Rattle.std.proofs.Common.{codes}
use Rattle.markup.specs.Trees.{each}
use Rattle.page_parts.specs.Frames.{table_with}
use Rattle.page_parts.proofs.Written.{section_written}
use Rattle.merge_store.specs.Stores.{opening_of, entries_of}
use Rattle.export_page.specs.Page.{illegal_row, illegal_columns, illegal_table}
use Rattle.export_page.proofs.illegal.append_section.Goals as goal

pub returns : goal.returns
unfolding illegal_table
returns c =
    let rows = each (illegal_row (opening_of c.args.store.now) (entries_of c.args.store.now)) c.args.bins.now in
    section_written c.args.text.now.items _ _ _ (table_with (codes "Illegal bins that were hit") illegal_columns rows) (codes "illegal") (codes "Illegal bins hit") c.in_ok-begin_section.ensures c.in_ok-append_table.ensures c.in_ok-end_block.ensures
