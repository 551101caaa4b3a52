use Rattle.std.proofs.Common.{ap, ◌∙◌}
use Rattle.upload_stage.specs.Places.{first_missing, bytes_in}
use Rattle.upload_stage.proofs.Places.{bytes_are}
use Rattle.upload_stage.proofs.held.Held.into_bytes.Goals as goal

pub returns-clause-items : goal.returns-clause-items
returns-clause-items c =
    bytes_are c.self.inside.marks.items c.self.inside.bytes.items c.self.inside.len c.self.invariant.there c.self.invariant.long (ap (first_missing 0) c.self.view_is ∙ c.requires)
    ∙ ap bytes_in c.self.view_is
