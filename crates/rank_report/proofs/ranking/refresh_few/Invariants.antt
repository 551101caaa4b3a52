use Rattle.std.specs.Prelude.{map}
use Rattle.rank_report.specs.Steps.{added_by, StandAbove}
use Rattle.rank_report.proofs.Lazy.{FreshBelow}
use Rattle.rank_report.proofs.ranking.refresh_few.Given as goal

abbrev pub invariant-loop-index : goal.invariant-loop-index
invariant-loop-index l = record {
  above : StandAbove (map (λ hits. added_by hits l.missing) l.hits) l.taken l.gains;
  fresh : FreshBelow (map (λ hits. added_by hits l.missing) l.hits) l.taken l.floor l.index l.gains;
}
