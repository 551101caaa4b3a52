use Rattle.std.proofs.Common.{◌≡◌, ◌++◌, length, map}
use Rattle.std.specs.Prelude.{slice_index_or}
use Rattle.vcd_reader.specs.Held.{unknown}
use Rattle.vcd_reader.proofs.moments.values.Given as goal

abbrev pub invariant-loop-code : goal.invariant-loop-code
invariant-loop-code l = l.values.items ++ map (λ code. (slice_index_or l.table code unknown).value) l.rest ≡ map (λ code. (slice_index_or l.table code unknown).value) l.codes

abbrev pub decreases-loop-code : goal.decreases-loop-code
decreases-loop-code l = length l.rest
