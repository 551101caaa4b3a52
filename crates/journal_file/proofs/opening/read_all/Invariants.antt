use Rattle.std.proofs.Common.{◌≡◌, ◌-◌, ◌*◌, ◌^◌, [], true, map, drop}
use Rattle.journal_bytes.specs.Sums.{sums_of}
use Rattle.journal_file.specs.Looking.{Looks}
use Rattle.journal_file.specs.Stands.{Begins}
use Rattle.journal_file.specs.Damage.{whole}
use Rattle.journal_file.specs.Ending.{IsRoomy, item_of}
use Rattle.journal_file.specs.Outcomes.{ReadTo}
use Rattle.journal_file.proofs.opening.read_all.Given as goal

abbrev pub invariant-items : goal.invariant-items
invariant-items g l = record {
  sound : g.D.Disk.faults l.disk ≡ 0;
  room : IsRoomy l.end;
  looks : Looks g.D.Disk.told g.D.Disk.seen g.D.Disk.may_leave g.D.Disk.moment g.D.Disk.left_since l.initial.disk l.disk;
  read : g.D.Disk.told l.initial.disk ≡ true → Begins l.digest [] (g.D.Disk.seen l.initial.disk) → ReadTo l.digest l.sums (map item_of l.entries.items) l.end (g.D.Disk.seen l.initial.disk);
  missing : g.D.Disk.told l.initial.disk ≡ true → Begins l.digest [] (g.D.Disk.seen l.initial.disk) → l.missing.items ≡ drop (32 * whole l.sums) (sums_of l.digest (map item_of l.entries.items));
}

abbrev pub decreases-items : goal.decreases-items
decreases-items g l = 2 ^ 62 - l.end.place
