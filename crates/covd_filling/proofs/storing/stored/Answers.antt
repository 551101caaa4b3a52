use Rattle.std.proofs.Common.{Err, subst, ◌∙◌}
use Rattle.std.proofs.lemmas.Result.{err_from_is_err_and}
use Rattle.std.specs.Arc.{arc_value}
use Rattle.design_data.specs.declared.design.Design.{Design}
use Rattle.covd_commands.specs.FromFiles.{Files}
use Rattle.covd_commands.specs.Options.{options_in}
use Rattle.covd_commands.specs.Origins.{origins_of}
use Rattle.covd_filling.specs.Steps.{IsPlain, filled_of, Leads, Stops}
use Rattle.covd_filling.proofs.storing.stored.Goals as goal

pub returns-in_err-left-clause-stored : goal.returns-in_err-left-clause-stored
returns-in_err-left-clause-stored g c =
    let files : Files = g.F.Shelf.files c.args.shelf.now in
    let before = g.F.Shelf.faults c.args.shelf.now in
    let now = g.F.Shelf.faults c.fill.new.shelf in
    let same = c.design.ensures ∙ c.in_ok-planned.ensures.design in
    let p = err_from_is_err_and c.from_residual-in_err-left.result c.from_residual-in_err-left.ensures.1 in
    rw (p.1, p.2)
    (subst (λ (d : Design). Stops (options_in c.args.options) files before now d (origins_of c.args.origins) c.in_err-left.field-0.0) same c.in_err-left.ensures.filled)

pub returns-clause-stored : goal.returns-clause-stored
returns-clause-stored g c =
    let files : Files = g.F.Shelf.files c.args.shelf.now in
    let before = g.F.Shelf.faults c.args.shelf.now in
    let now = g.F.Shelf.faults c.fill.new.shelf in
    let filled = filled_of c.fill.new.store c.in_ok-left.left in
    let same = c.design.ensures ∙ c.in_ok-planned.ensures.design in (
      subst (λ (d : Design). IsPlain d c.fill.new.store) same c.in_ok-left.ensures.plain,
      subst (λ (d : Design). Leads (options_in c.args.options) files before now d (origins_of c.args.origins) filled) same c.in_ok-left.ensures.filled,
    )
