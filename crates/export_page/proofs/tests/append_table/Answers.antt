use Rattle.std.proofs.Common.{codes}
use Rattle.markup.specs.Trees.{each}
use Rattle.page_parts.proofs.Written.{table_written}
use Rattle.export_page.specs.Page.{test_row, test_columns}
use Rattle.export_page.proofs.tests.append_table.Goals as goal

pub returns : goal.returns
returns c =
    table_written c.args.text.now.items _ _ _ (each test_row c.args.tests.now) (codes "Tests in order of admission") test_columns c.in_ok-begin_table.ensures c.in_ok-append_rows.ensures c.in_ok-end_table.ensures
