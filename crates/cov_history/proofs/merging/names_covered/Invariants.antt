use Rattle.std.proofs.Common.{◌≡◌, ℕ, ◌≤◌, List, take}
use Rattle.std.specs.Prelude.{slice_index, count_by}
use Rattle.cov_history.specs.Coverage as meant
use Rattle.cov_history.proofs.merging.names_covered.Given as goal

abbrev pub invariant-loop-name : goal.invariant-loop-name
invariant-loop-name l = (l.covered ≡ count_by (λ (name : List ℕ). meant.is_covered_as_one l.nodes (slice_index l.counts) (meant.named (meant.bin_name l.nodes) name l.bins)) (take l.name-index l.names)) × (l.covered ≤ l.name-index)
