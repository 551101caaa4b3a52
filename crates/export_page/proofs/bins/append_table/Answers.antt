use Rattle.std.proofs.Common.{ℕ}
use Rattle.markup.specs.Trees.{each}
use Rattle.page_parts.proofs.Written.{table_written}
use Rattle.merge_store.specs.Stores.{opening_of, entries_of}
use Rattle.export_page.specs.Page.{bin_row, bin_columns, bin_table}
use Rattle.export_page.proofs.bins.append_table.Goals as goal

pub returns : goal.returns
unfolding bin_table
returns c =
    let rows = each (bin_row (opening_of c.args.store.now) (entries_of c.args.store.now)) c.args.bins.now in
    table_written c.args.text.now.items _ _ _ rows c.args.caption.now bin_columns c.in_ok-begin_table.ensures c.in_ok-append_rows.ensures c.in_ok-end_table.ensures
