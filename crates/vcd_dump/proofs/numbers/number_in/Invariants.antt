use Rattle.std.proofs.Common.{◌≡◌, ◌<◌, ◌^◌, length}
use Rattle.vcd_dump.specs.Numbers.{in_64_bits, number_from}
use Rattle.vcd_dump.proofs.numbers.number_in.Given as goal

abbrev pub invariant-loop-digit : goal.invariant-loop-digit
invariant-loop-digit l = record {
  same : in_64_bits (number_from l.base l.number l.rest) ≡ in_64_bits (number_from l.base 0 l.digits);
  fits : l.number < 2 ^ 64;
}

abbrev pub decreases-loop-digit : goal.decreases-loop-digit
decreases-loop-digit l = length l.rest
