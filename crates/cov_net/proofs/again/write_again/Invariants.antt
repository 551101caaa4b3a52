-- So many writes were interrupted, and have appended nothing.
use Rattle.std.proofs.Common.{ℕ}
use Rattle.std.specs.Io.KnownBytes.{Keeps}
use Rattle.cov_net.specs.Calls.{IsInterrupted, Passes, Repeats}
use Rattle.cov_net.proofs.again.write_again.Given as goal

abbrev pub invariant-loop-tried : goal.invariant-loop-tried
invariant-loop-tried g l = record {
  kept : Keeps (g.W.Write.contents l.initial.writer) (g.W.Write.contents l.writer);
  passed : Repeats (Passes {T = ℕ} IsInterrupted (g.W.WriteCall.writes l.bytes)) l.tried l.initial.writer l.writer;
}
