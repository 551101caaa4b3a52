use Rattle.std.proofs.Common.{◌≡◌, ◌≤◌, ◌*◌, length, take}
use Rattle.std.specs.List.{flat_map}
use Rattle.record_codec.specs.Bytes.{set_value}
use Rattle.record_codec.proofs.encoding.values_size.Given as goal

abbrev pub invariant-loop-value : goal.invariant-loop-value
invariant-loop-value l = record {
  is : l.size ≡ length (flat_map set_value (take l.value-index l.values));
  few : l.size ≤ 9 * l.value-index;
}
