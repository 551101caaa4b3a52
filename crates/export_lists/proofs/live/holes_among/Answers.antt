use Rattle.std.proofs.Common.{length, not}
use Rattle.cov_history.specs.Coverage.{is_covered}
use Rattle.merge_store.specs.Now.{nodes_now, count_now}
use Rattle.export_lists.proofs.Inside.{filtered_inside}
use Rattle.export_lists.proofs.live.holes_among.Goals as goal

pub returns-clause-inside : goal.returns-clause-inside
returns-clause-inside c =
    filtered_inside (λ m. not (is_covered (nodes_now c.args.store.now) (count_now c.args.store.now) m)) (length (nodes_now c.args.store.now)) c.args.live.now c.in_ok-holes.holes.items c.requires c.in_ok-holes.ensures
