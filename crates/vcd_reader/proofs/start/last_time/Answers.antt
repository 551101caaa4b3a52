use Rattle.std.proofs.Common.{ap, ◌∙◌}
use Rattle.vcd_dump.specs.Packing.{items_in}
use Rattle.vcd_reader.specs.Starting.{last_time}
use Rattle.vcd_reader.proofs.Begun.{last_of_begun}
use Rattle.vcd_reader.proofs.start.last_time.Goals as goal

pub loop-next-init : goal.loop-next-init
loop-next-init c = last_of_begun (items_in c.as_bytes-rest.result.now) ∙ ap (last_time 0) c.as_bytes-rest.ensures
