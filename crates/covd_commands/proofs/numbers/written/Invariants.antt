use Rattle.std.proofs.Common.{◌≡◌, ◌<◌, ◌^◌, length}
use Rattle.covd_commands.specs.Digits.{in_64_bits, number_from}
use Rattle.covd_commands.proofs.numbers.written.Given as goal

abbrev pub invariant-loop-digit : goal.invariant-loop-digit
invariant-loop-digit l = record {
  same : in_64_bits (number_from l.number l.rest) ≡ in_64_bits (number_from 0 l.word);
  fits : l.number < 2 ^ 64;
}

abbrev pub decreases-loop-digit : goal.decreases-loop-digit
decreases-loop-digit l = length l.rest
