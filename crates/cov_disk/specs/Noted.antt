-- The calls that a file in memory keeps.
use Rattle.std.specs.Prelude.{List, length, map, reverse}
use Rattle.cov_disk.specs.declared.memory.Call.{Call}
use Rattle.cov_disk.specs.declared.memory.Call.TheVariants.{Look, Write, Sync}
use Rattle.cov_disk.specs.Calls.{Done, Looked, Wrote, Synced}

abbrev pub done : Call → Done
done Look = Looked
done (Write offset bytes) = Wrote offset (length bytes.items)
done (Sync file) = Synced file.items

-- the newest first
abbrev pub done_of : List Call → List Done
done_of calls = reverse (map done calls)
