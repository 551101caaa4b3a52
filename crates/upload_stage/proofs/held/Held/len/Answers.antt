use Rattle.std.proofs.Common.{sym, ap, ◌∙◌}
use Rattle.std.specs.Prelude.{length}
use Rattle.upload_stage.proofs.Places.{length-places_of}
use Rattle.upload_stage.proofs.held.Held.len.Goals as goal

pub returns : goal.returns
returns c = sym (length-places_of c.self.inside.marks.items c.self.inside.bytes.items c.self.inside.len) ∙ ap length c.self.view_is
