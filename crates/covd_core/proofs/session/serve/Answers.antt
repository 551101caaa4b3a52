use Rattle.std.proofs.Common.{inl, inr}
use Rattle.covd_core.specs.Command.{ends_of}
use Rattle.covd_core.proofs.Unserved.{refused_leaves}
use Rattle.covd_core.proofs.session.serve.Goals as goal

pub returns-in-Ok-Refused-clause-leaves : goal.returns-in-Ok-Refused-clause-leaves
returns-in-Ok-Refused-clause-leaves g c =
    let ends = ends_of g.L.Link.left g.L.Link.written g.L.Link.read_faults g.L.Link.write_faults in
    let none = rw c.in-Ok-Refused.field-0-is at c.in-Ok-Refused.ensures.had in
    inl (
      record { left = c.refuse.ensures.left; read_faults = c.refuse.ensures.read_faults },
      refused_leaves (g.F.Shelf.files c.args.shelf.now) (g.F.Shelf.faults c.args.shelf.now) (g.F.Shelf.faults c.had_design.new.shelf) c.args.design.now c.in-Ok-Refused.answer.text.items
          (ends c.args.link.now) (ends c.refuse.new.link) c.refuse.result c.in-Ok-Refused.answer.status none c.refuse.ensures.line,
    )

pub returns-in-Ok-clause-leaves : goal.returns-in-Ok-clause-leaves
returns-in-Ok-clause-leaves g c = inr (c.in-Ok-Compiled.design, rw c.in-Ok-Compiled.field-0-is at c.in-Ok-Compiled.ensures.had, c.in-Ok.ended, c.status_of.ensures, c.in-Ok.ensures.conducted)
