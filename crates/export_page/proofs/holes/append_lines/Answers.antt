use Rattle.std.proofs.Common.{codes}
use Rattle.markup.specs.Trees.{Text}
use Rattle.page_parts.proofs.Written.{block_written}
use Rattle.export_page.proofs.holes.append_lines.Goals as goal

pub returns : goal.returns
returns c =
    block_written c.args.text.now.items _ _ _ (Text c.args.lines.now) (codes "pre") c.in_ok-begin_block.ensures c.in_ok-append_escaped.ensures c.in_ok-end_block.ensures
