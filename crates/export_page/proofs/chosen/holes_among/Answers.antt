use Rattle.std.proofs.Common.{length}
use Rattle.merge_store.specs.Now.{nodes_now, count_now, excluded_now}
use Rattle.export_page.specs.Views.{is_hole}
use Rattle.export_page.proofs.Inside.{chosen_inside}
use Rattle.export_page.proofs.chosen.holes_among.Goals as goal

pub returns-clause-inside : goal.returns-clause-inside
returns-clause-inside c =
    let store = c.args.store.now in
    chosen_inside (is_hole (nodes_now store) (count_now store) (excluded_now store)) (length (nodes_now store)) c.args.bins.now c.in_ok-holes.holes.items c.requires c.in_ok-holes.ensures
