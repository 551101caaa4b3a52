use Rattle.std.proofs.Common.{codes}
use Rattle.markup.specs.Trees.{each}
use Rattle.page_parts.proofs.Written.{table_written}
use Rattle.merge_store.specs.Stores.{opening_of, entries_of}
use Rattle.export_page.specs.Page.{illegal_row, illegal_columns}
use Rattle.export_page.proofs.illegal.append_table.Goals as goal

pub returns : goal.returns
returns c =
    let rows = each (illegal_row (opening_of c.args.store.now) (entries_of c.args.store.now)) c.args.bins.now in
    table_written c.args.text.now.items _ _ _ rows (codes "Illegal bins that were hit") illegal_columns c.in_ok-begin_table.ensures c.in_ok-append_rows.ensures c.in_ok-end_table.ensures
