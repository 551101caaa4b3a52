-- What was read so far stands in `bytes`.
use Rattle.std.proofs.Common.{◌≡◌, ◌≤◌, ◌+◌, ◌-◌, vec_len}
use Rattle.std.specs.Io.KnownBytes.{Consumes}
use Rattle.cov_net.proofs.shelf.read_whole.Given as goal

abbrev pub invariant-loop-file : goal.invariant-loop-file
invariant-loop-file g l = record {
  room : vec_len l.room ≡ 65536;
  most : vec_len l.bytes ≤ l.most;
  bytes : Consumes (g.F.Read.remaining l.initial.file) (g.F.Read.remaining l.file) l.bytes.items;
}

abbrev pub decreases-loop-file : goal.decreases-loop-file
decreases-loop-file g l = l.most + 1 - vec_len l.bytes
