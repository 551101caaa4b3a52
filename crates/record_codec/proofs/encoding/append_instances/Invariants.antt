use Rattle.std.proofs.Common.{◌≡◌, ◌++◌, take}
use Rattle.std.specs.List.{flat_map}
use Rattle.record_codec.specs.Bytes.{inst_row}
use Rattle.record_codec.proofs.encoding.append_instances.Given as goal

abbrev pub invariant-loop-row : goal.invariant-loop-row
invariant-loop-row l = l.out.items ≡ l.initial.out.items ++ flat_map (inst_row l.version) (take l.row-index l.rows)
