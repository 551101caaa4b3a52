use Rattle.std.proofs.Common.{◌≡◌, ◌≤◌, ◌*◌, take}
use Rattle.rank_report.specs.Steps.{added_by}
use Rattle.rank_report.proofs.hits.gain_of.Given as goal

abbrev pub invariant-loop-index : goal.invariant-loop-index
invariant-loop-index l = record {
  so_far : l.gain ≡ added_by (take l.index-index l.pairs) l.missing;
  few : l.gain ≤ l.index-index * 4294967295;
}
