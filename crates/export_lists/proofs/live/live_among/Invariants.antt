use Rattle.std.proofs.Common.{◌≡◌, take}
use Rattle.std.specs.Prelude.{filter}
use Rattle.cov_history.specs.Coverage.{is_live}
use Rattle.merge_store.specs.Now.{nodes_now, excluded_now}
use Rattle.export_lists.proofs.live.live_among.Given as goal

abbrev pub invariant-loop-bin : goal.invariant-loop-bin
invariant-loop-bin l = l.live.items ≡ filter (is_live (nodes_now l.store) (excluded_now l.store)) (take l.bin-index l.bins)
