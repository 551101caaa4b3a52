use Rattle.std.proofs.Common.{◌≡◌, ◌+◌, drop}
use Rattle.std.specs.List.{position_or_len}
use Rattle.waivers.specs.Lines.{is_quote}
use Rattle.waivers.proofs.words.quote_end.Given as goal

abbrev pub invariant-loop-byte : goal.invariant-loop-byte
invariant-loop-byte l = record {
  counted : l.«end» ≡ l.byte-index;
  so_far : l.«end» + position_or_len is_quote (drop l.byte-index l.bytes) ≡ position_or_len is_quote l.bytes;
}
