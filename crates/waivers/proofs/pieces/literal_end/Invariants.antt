use Rattle.std.proofs.Common.{◌≡◌, ◌+◌, drop}
use Rattle.std.specs.List.{position_or_len}
use Rattle.waivers.specs.Pieces.{is_star}
use Rattle.waivers.proofs.pieces.literal_end.Given as goal

abbrev pub invariant-loop-byte : goal.invariant-loop-byte
invariant-loop-byte l = record {
  counted : l.«end» ≡ l.byte-index;
  so_far : l.«end» + position_or_len is_star (drop l.byte-index l.pattern) ≡ position_or_len is_star l.pattern;
}
