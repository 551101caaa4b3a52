use Rattle.std.proofs.Common.{ℕ, List, length, ap, ◌∙◌}
use Rattle.std.specs.Prelude.{filter}
use Rattle.cov_history.specs.Coverage.{is_live}
use Rattle.merge_store.specs.Now.{nodes_now, excluded_now}
use Rattle.export_lists.proofs.Inside.{filtered_inside}
use Rattle.export_lists.proofs.live.live_under.Goals as goal

pub returns-clause-inside : goal.returns-clause-inside
returns-clause-inside c =
    filtered_inside (is_live (nodes_now c.args.store.now) (excluded_now c.args.store.now)) (length (nodes_now c.args.store.now)) c.bins_under-bins.result.now c.in_ok-live.live.items c.bins_under-bins.ensures.inside c.in_ok-live.ensures
