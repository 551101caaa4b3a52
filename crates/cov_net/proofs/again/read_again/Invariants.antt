-- So many reads were interrupted, and have consumed nothing.
use Rattle.std.proofs.Common.{◌≡◌, ℕ, List, length}
use Rattle.std.specs.Io.KnownBytes.{Keeps}
use Rattle.cov_net.specs.Calls.{IsInterrupted, Passes, Repeats}
use Rattle.cov_net.proofs.again.read_again.Given as goal

abbrev pub invariant-loop-tried : goal.invariant-loop-tried
invariant-loop-tried g l = record {
  room : length l.into ≡ length l.initial.into;
  kept : Keeps (g.R.Read.remaining l.initial.reader) (g.R.Read.remaining l.reader);
  passed : Repeats (Passes {T = ℕ} IsInterrupted g.R.ReadCall.reads) l.tried (l.initial.reader, l.initial.into) (l.reader, l.into);
}
