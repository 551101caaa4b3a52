use Rattle.std.proofs.Common.{codes}
use Rattle.markup.specs.Trees.{each}
use Rattle.page_parts.specs.Frames.{table_with}
use Rattle.page_parts.proofs.Written.{section_written}
use Rattle.export_page.specs.Page.{test_row, test_columns, tests_part}
use Rattle.export_page.proofs.tests.append_tests.Goals as goal

pub returns : goal.returns
unfolding tests_part
returns c =
    let table = table_with (codes "Tests in order of admission") test_columns (each test_row c.args.tests.now) in
    section_written c.args.text.now.items _ _ _ table (codes "tests") (codes "Tests") c.in_ok-begin_section.ensures c.in_ok-append_table.ensures c.in_ok-end_block.ensures
