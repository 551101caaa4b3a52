use Rattle.std.proofs.Common.{length}
use Rattle.merge_store.specs.Now.{nodes_now, count_now}
use Rattle.store_views.specs.Views.{is_illegal_hit}
use Rattle.export_page.proofs.Inside.{chosen_inside}
use Rattle.export_page.proofs.chosen.illegal_bins.Goals as goal

pub returns-clause-inside : goal.returns-clause-inside
returns-clause-inside c =
    let store = c.args.store.now in
    chosen_inside (is_illegal_hit (nodes_now store) (count_now store)) (length (nodes_now store)) c.bins_under-bins.result.now c.in_ok-hit.hit.items c.bins_under-bins.ensures.inside c.in_ok-hit.ensures
