use Rattle.std.proofs.Common.{◌≡◌, ℕ, Ok, Err, true, false, sym, ap, subst, ◌∙◌}
use Rattle.std.specs.Prelude.{◌==◌, ◌||◌, not}
use Rattle.std.proofs.lemmas.Result.{err_from_is_err_and}
use Rattle.std.specs.Arc.{arc_value}
use Rattle.merge_store.specs.Stores.{entries_of}
use Rattle.covd_commands.specs.Origins.{origin_of}
use Rattle.covd_commands.proofs.Found.{found_fits}
use Rattle.covd_filling.specs.declared.admitting.Taking.TheVariants as taking
use Rattle.covd_filling.specs.Outcomes.{may_pass}
use Rattle.covd_filling.specs.Steps.{Takes}
use Rattle.covd_filling.proofs.Fillings.{unfound, unpassed, unadmitted, taken}
use Rattle.covd_filling.proofs.filling.take_counted.Goals as goal

pub admit_counted-requires-clause-fits : goal.admit_counted-requires-clause-fits
admit_counted-requires-clause-fits g c =
    found_fits (g.F.Shelf.files c.args.shelf.now) (arc_value c.args.terms.design.now) c.args.k (origin_of c.args.origin) c.in_ok-counted.counted.rec c.in_ok-counted.ensures.next.0

pub returns-then-not-may_pass-clause-takes : goal.returns-then-not-may_pass-clause-takes
returns-then-not-may_pass-clause-takes g c =
    let files = g.F.Shelf.files c.args.shelf.now in
    let before = g.F.Shelf.faults c.args.shelf.now in
    let now = g.F.Shelf.faults c.next_counted.new.shelf in
    let d = arc_value c.args.terms.design.now in
    let origin = origin_of c.args.origin in
    let rec' = c.in_ok-counted.counted.rec in
    let h = entries_of c.args.store.now in
    let no : may_pass c.args.terms.passed rec' ≡ false = ap (λ (status : ℕ). not c.args.terms.passed || status == 0) (sym c.status.ensures) ∙ sym c.may_pass.ensures ∙ c.if-not-may_pass.true in
    subst (λ (status : ℕ). Takes c.args.terms.passed files before now d c.args.k h origin h (Ok (taking.Unpassed status))) (sym c.status-then-not-may_pass.ensures)
    (unpassed c.args.terms.passed files before now d c.args.k h origin rec' c.in_ok-counted.ensures.next.0 no)

pub returns-in_err-admit_counted-clause-takes : goal.returns-in_err-admit_counted-clause-takes
returns-in_err-admit_counted-clause-takes g c =
    let files = g.F.Shelf.files c.args.shelf.now in
    let before = g.F.Shelf.faults c.args.shelf.now in
    let now = g.F.Shelf.faults c.next_counted.new.shelf in
    let d = arc_value c.args.terms.design.now in
    let origin = origin_of c.args.origin in
    let rec' = c.in_ok-counted.counted.rec in
    let may : may_pass c.args.terms.passed rec' ≡ true = ap (λ (status : ℕ). not c.args.terms.passed || status == 0) (sym c.status.ensures) ∙ sym c.may_pass.ensures ∙ c.if-not-may_pass.false in
    let p = err_from_is_err_and c.from_residual-in_err-admit_counted.result c.from_residual-in_err-admit_counted.ensures.1 in
    rw (p.1, p.2)
    (unadmitted c.args.terms.passed files before now d c.args.k (entries_of c.args.store.now) origin (entries_of c.admit_counted.new.store) rec'
    c.in_ok-counted.ensures.next.0 may c.in_err-admit_counted.field-0.0 c.in_err-admit_counted.ensures.admits)

pub returns-clause-takes : goal.returns-clause-takes
returns-clause-takes g c =
    let files = g.F.Shelf.files c.args.shelf.now in
    let before = g.F.Shelf.faults c.args.shelf.now in
    let now = g.F.Shelf.faults c.next_counted.new.shelf in
    let d = arc_value c.args.terms.design.now in
    let origin = origin_of c.args.origin in
    let rec' = c.in_ok-counted.counted.rec in
    let may : may_pass c.args.terms.passed rec' ≡ true = ap (λ (status : ℕ). not c.args.terms.passed || status == 0) (sym c.status.ensures) ∙ sym c.may_pass.ensures ∙ c.if-not-may_pass.false in
    taken c.args.terms.passed files before now d c.args.k (entries_of c.args.store.now) origin (entries_of c.admit_counted.new.store) rec'
    c.in_ok-counted.ensures.next.0 may c.in_ok-admit_counted.ensures.admits

pub returns-in_err-counted-clause-takes : goal.returns-in_err-counted-clause-takes
returns-in_err-counted-clause-takes g c =
    let h = entries_of c.args.store.now in
    let p = err_from_is_err_and c.from_residual.result c.from_residual.ensures.1 in
    rw (p.1, p.2)
    (unfound c.args.terms.passed (g.F.Shelf.files c.args.shelf.now) (g.F.Shelf.faults c.args.shelf.now) (g.F.Shelf.faults c.next_counted.new.shelf) (arc_value c.args.terms.design.now) c.args.k h (origin_of c.args.origin) c.in_err-counted.field-0.0 c.in_err-counted.ensures.next)
