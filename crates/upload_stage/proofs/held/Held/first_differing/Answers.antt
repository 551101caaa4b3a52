use Rattle.std.proofs.Common.{ap, arith}
use Rattle.std.specs.Prelude.{length}
use Rattle.upload_stage.proofs.Places.{length-places_of}
use Rattle.upload_stage.proofs.held.Held.first_differing.Goals as goal

pub differing-requires-clause-long : goal.differing-requires-clause-long
differing-requires-clause-long c = omega (arith, c.requires, length-places_of c.self.inside.marks.items c.self.inside.bytes.items c.self.inside.len, ap length c.self.view_is)
