use Rattle.std.proofs.Common.{◌≡◌, ◌≤◌, ◌<◌, length, take}
use Rattle.std.specs.Prelude.{IfSome}
use Rattle.point_tables.specs.Tables.{covering, AreEntriesOf}
use Rattle.point_tables.proofs.entries.entry_list.Given as goal

abbrev pub invariant-loop-place : goal.invariant-loop-place
invariant-loop-place l = record {
  number : l.number ≡ length (covering (take l.place l.bins));
  few : l.number ≤ l.place;
  before : IfSome l.guard (λ earlier. earlier < length l.bins);
  entries : AreEntriesOf l.bins l.place l.entries.items;
}
