use Rattle.std.proofs.Common.{[], ap, ◌∙◌}
use Rattle.vcd_dump.specs.Packing.{items_in}
use Rattle.vcd_dump.proofs.Unpacked.{no_items, whole_at_first, whole_as}
use Rattle.vcd_dump.proofs.packed.Packed.with_room.Goals as goal

pub invariant_of-result : goal.invariant_of-result
invariant_of-result c = whole_as c.in_ok-bytes.bytes.items [] c.in_ok-bytes.ensures.items whole_at_first

pub returns : goal.returns
returns c = ap items_in c.in_ok-bytes.ensures.items ∙ no_items
