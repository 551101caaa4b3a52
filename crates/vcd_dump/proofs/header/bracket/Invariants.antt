use Rattle.std.proofs.Common.{◌≡◌, ◌+◌, drop}
use Rattle.std.specs.List.{position_or_len}
use Rattle.vcd_dump.specs.Header.{is_open}
use Rattle.vcd_dump.proofs.header.bracket.Given as goal

abbrev pub invariant-loop-byte : goal.invariant-loop-byte
invariant-loop-byte l = record {
  counted : l.«end» ≡ l.byte-index;
  so_far : l.«end» + position_or_len is_open (drop l.byte-index l.text) ≡ position_or_len is_open l.text;
}
