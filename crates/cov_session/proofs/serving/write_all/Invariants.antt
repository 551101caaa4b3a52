use Rattle.std.proofs.Common.{◌≡◌, ◌≤◌, ◌-◌, length, take}
use Rattle.cov_spec.specs.Told.{Grows}
use Rattle.cov_session.proofs.serving.write_all.Given as goal

abbrev pub invariant-loop-at : goal.invariant-loop-at
invariant-loop-at g l = record {
  within : l.at ≤ length l.bytes;
  grown : Grows (g.L.Link.written l.initial.link) (g.L.Link.written l.link) (take l.at l.bytes);
  left : g.L.Link.left l.link ≡ g.L.Link.left l.initial.link;
  later : g.L.Link.write_faults l.initial.link ≤ g.L.Link.write_faults l.link;
  same : g.L.Link.read_faults l.link ≡ g.L.Link.read_faults l.initial.link;
}

abbrev pub decreases-loop-at : goal.decreases-loop-at
decreases-loop-at g l = length l.bytes - l.at
