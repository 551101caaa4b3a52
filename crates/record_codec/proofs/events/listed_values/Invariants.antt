use Rattle.std.proofs.Common.{◌≡◌, length}
use Rattle.std.specs.Prelude.{vec_len, vec_capacity}
use Rattle.record_codec.proofs.ValueLoops.{ValuesSoFar}
use Rattle.record_codec.proofs.Readers.{IsBytes}
use Rattle.record_codec.proofs.events.listed_values.Given as goal

abbrev pub invariant-loop-arg : goal.invariant-loop-arg
invariant-loop-arg l = record {
  so_far : ValuesSoFar l.args l.bytes l.values.items l.rest l.arg-index;
  fits : IsBytes l.rest;
  room : vec_capacity l.values ≡ length l.args;
  long : vec_len l.values ≡ l.arg-index;
}
