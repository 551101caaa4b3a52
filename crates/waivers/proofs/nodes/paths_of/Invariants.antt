use Rattle.std.proofs.Common.{◌≡◌, ◌<◌, ◌≤◌, length}
use Rattle.waivers.proofs.Places.{AreFirstPaths}
use Rattle.waivers.proofs.nodes.paths_of.Given as goal

abbrev pub invariant-loop-node : goal.invariant-loop-node
invariant-loop-node l = record {
  first : AreFirstPaths l.tree l.node l.paths.items;
  within : l.node ≤ l.node-end;
  all : l.node-end ≡ length l.tree;
  few : l.node-end < 4294967296;
}
