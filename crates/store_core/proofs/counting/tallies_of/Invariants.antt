use Rattle.std.proofs.Common.{◌≡◌, map, take}
use Rattle.std.specs.Arc.{arc_value}
use Rattle.tally.specs.Rows.{rows_from}
use Rattle.cov_history.specs.Tallies.{tally}
use Rattle.store_core.proofs.counting.tallies_of.Given as goal

abbrev pub invariant-loop-content : goal.invariant-loop-content
invariant-loop-content l = map arc_value l.tallies.items ≡ map (λ content. rows_from 0 (tally l.fn.design (arc_value content))) (take l.content-index l.records)
