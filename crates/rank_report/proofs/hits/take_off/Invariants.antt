use Rattle.std.proofs.Common.{◌≡◌, drop}
use Rattle.rank_report.specs.Steps.{less_by}
use Rattle.rank_report.proofs.hits.take_off.Given as goal

abbrev pub invariant-loop-index : goal.invariant-loop-index
invariant-loop-index l = less_by (drop l.index-index l.pairs) l.missing ≡ less_by l.pairs l.initial.missing
