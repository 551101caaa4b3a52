use Rattle.std.proofs.Common.{◌≤◌, length, take}
use Rattle.point_tables.specs.Tables.{machines_from}
use Rattle.point_tables.specs.Divided.{BinsDivided}
use Rattle.point_tables.proofs.transitions.divided_of.Given as goal

abbrev pub invariant-loop-place : goal.invariant-loop-place
invariant-loop-place l = record {
  are : BinsDivided l.removers (machines_from 0 (take l.place l.item.bins)) l.divided;
  few : length l.divided.rows.items ≤ l.place;
}
