use Rattle.std.proofs.Common.{codes}
use Rattle.markup.specs.Trees.{each}
use Rattle.page_parts.proofs.Written.{table_written}
use Rattle.export_json.specs.Export.{ids_in, with_totals}
use Rattle.export_page.specs.Page.{ranked_row, ranked_columns, ranked_table}
use Rattle.export_page.proofs.ranking.append_table.Goals as goal

pub returns : goal.returns
unfolding ranked_table
returns c =
    table_written c.args.text.now.items _ _ _ (each (ranked_row (ids_in c.args.tests.now)) (with_totals 0 c.args.rows.now)) (codes "The best test first: the bins that each adds, and the sum") ranked_columns c.in_ok-begin_table.ensures c.in_ok-append_rows.ensures c.in_ok-end_table.ensures
