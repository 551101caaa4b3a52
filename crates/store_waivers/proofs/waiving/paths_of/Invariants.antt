use Rattle.std.proofs.Common.{◌≡◌, map}
use Rattle.std.specs.List.{range_with_len}
use Rattle.ucis_model.specs.Paths.{path_of}
use Rattle.merge_store.specs.Now.{nodes_now}
use Rattle.store_waivers.proofs.waiving.paths_of.Given as goal

abbrev pub invariant-loop-node : goal.invariant-loop-node
invariant-loop-node l = l.paths.items ≡ map (path_of (nodes_now l.store)) (range_with_len 0 l.node)
