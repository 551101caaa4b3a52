use Rattle.std.proofs.Common.{vec_len}
use Rattle.value_bins.proofs.Taking.{IsTaken}
use Rattle.value_bins.proofs.arrays.take_numbers.Given as goal

abbrev pub invariant-loop-missing : goal.invariant-loop-missing
invariant-loop-missing l = IsTaken l.initial.bin.items l.initial.rest.items l.fn.count l.bin.items l.rest.items l.missing

abbrev pub decreases-loop-missing : goal.decreases-loop-missing
decreases-loop-missing l = vec_len l.rest
