use Rattle.std.proofs.Common.{codes, length}
use Rattle.markup.specs.Trees.{Both}
use Rattle.page_parts.specs.Curves.{points_of, curve}
use Rattle.page_parts.proofs.Written.{two, section_written}
use Rattle.export_json.specs.Export.{ids_in}
use Rattle.export_page.specs.Page.{ranked_table, heights_of, ranking_part}
use Rattle.export_page.proofs.ranking.append_ranking.Goals as goal

pub returns : goal.returns
unfolding ranking_part
returns c =
    let inside = Both (curve (length c.args.rows.now) c.args.bins (points_of (heights_of c.args.rows.now))) (ranked_table (ids_in c.args.tests.now) c.args.rows.now) in
    section_written c.args.text.now.items _ _ _ inside (codes "ranking") (codes "Ranking") c.in_ok-begin_section.ensures
    (two c.begin_section.new.text.items _ _ _ _ c.in_ok-append_drawing.ensures c.in_ok-append_table.ensures) c.in_ok-end_block.ensures
