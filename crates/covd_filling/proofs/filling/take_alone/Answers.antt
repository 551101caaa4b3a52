use Rattle.std.proofs.Common.{Ok, Err, sym, subst, ◌∙◌}
use Rattle.std.proofs.lemmas.Result.{err_from_is_err_and}
use Rattle.std.specs.Arc.{arc_value}
use Rattle.design_data.specs.declared.design.Design.{Design}
use Rattle.merge_store.specs.Stores.{entries_of}
use Rattle.covd_commands.specs.Origins.{origin_of, IsFoundIn}
use Rattle.covd_commands.proofs.Found.{found_fits}
use Rattle.covd_filling.proofs.Fillings.{unfound, unpassed, unadmitted, taken}
use Rattle.covd_filling.proofs.filling.take_alone.Goals as goal

pub admit_record-requires-clause-fits : goal.admit_record-requires-clause-fits
admit_record-requires-clause-fits g c _ _ =
    let files = g.F.Shelf.files c.args.shelf.now in
    let origin = origin_of c.args.origin in
    found_fits files (arc_value c.args.terms.design.now) c.args.k origin c.in_ok-rec.rec
    (subst (λ (d : Design). IsFoundIn d c.args.k c.in_ok-source.source (Ok c.in_ok-rec.rec)) c.deref.ensures c.in_ok-rec.ensures files 0 0 origin c.in_ok-source.ensures.read)

pub returns-in_err-source-clause-takes : goal.returns-in_err-source-clause-takes
returns-in_err-source-clause-takes g c =
    let h = entries_of c.args.store.now in
    let d = arc_value c.args.terms.design.now in
    let p = err_from_is_err_and c.from_residual.result c.from_residual.ensures.1 in
    rw (p.1, p.2)
    (unfound c.args.terms.passed (g.F.Shelf.files c.args.shelf.now) (g.F.Shelf.faults c.args.shelf.now) (g.F.Shelf.faults c.read.new.shelf) d c.args.k h (origin_of c.args.origin) c.in_err-source.field-0.0
    (c.in_err-source.ensures.unread d c.args.k))

pub returns-in_err-rec-clause-takes : goal.returns-in_err-rec-clause-takes
returns-in_err-rec-clause-takes g c =
    let files = g.F.Shelf.files c.args.shelf.now in
    let before = g.F.Shelf.faults c.args.shelf.now in
    let now = g.F.Shelf.faults c.read.new.shelf in
    let d = arc_value c.args.terms.design.now in
    let origin = origin_of c.args.origin in
    let stop = c.in_err-rec.field-0.0 in
    let h = entries_of c.args.store.now in
    let p = err_from_is_err_and c.from_residual-in_err-rec.result c.from_residual-in_err-rec.ensures.1 in
    rw (p.1, p.2)
    (unfound c.args.terms.passed files before now d c.args.k h origin stop
    (subst (λ (x : Design). IsFoundIn x c.args.k c.in_ok-source.source (Err stop)) c.deref.ensures c.in_err-rec.ensures files before now origin c.in_ok-source.ensures.read))

pub returns-then-not-may_pass-clause-takes : goal.returns-then-not-may_pass-clause-takes
returns-then-not-may_pass-clause-takes g c =
    let files = g.F.Shelf.files c.args.shelf.now in
    let before = g.F.Shelf.faults c.args.shelf.now in
    let now = g.F.Shelf.faults c.read.new.shelf in
    let d = arc_value c.args.terms.design.now in
    let origin = origin_of c.args.origin in
    let rec' = c.in_ok-rec.rec in
    unpassed c.args.terms.passed files before now d c.args.k (entries_of c.args.store.now) origin rec'
    (subst (λ (x : Design). IsFoundIn x c.args.k c.in_ok-source.source (Ok rec')) c.deref.ensures c.in_ok-rec.ensures files before now origin c.in_ok-source.ensures.read)
    (sym c.may_pass.ensures ∙ c.if-not-may_pass.true)

pub returns-in_err-admit_record-clause-takes : goal.returns-in_err-admit_record-clause-takes
returns-in_err-admit_record-clause-takes g c =
    let files = g.F.Shelf.files c.args.shelf.now in
    let before = g.F.Shelf.faults c.args.shelf.now in
    let now = g.F.Shelf.faults c.read.new.shelf in
    let d = arc_value c.args.terms.design.now in
    let origin = origin_of c.args.origin in
    let rec' = c.in_ok-rec.rec in
    let p = err_from_is_err_and c.from_residual-in_err-admit_record.result c.from_residual-in_err-admit_record.ensures.1 in
    rw (p.1, p.2)
    (unadmitted c.args.terms.passed files before now d c.args.k (entries_of c.args.store.now) origin (entries_of c.admit_record.new.store) rec'
    (subst (λ (x : Design). IsFoundIn x c.args.k c.in_ok-source.source (Ok rec')) c.deref.ensures c.in_ok-rec.ensures files before now origin c.in_ok-source.ensures.read)
    (sym c.may_pass.ensures ∙ c.if-not-may_pass.false)
    c.in_err-admit_record.field-0.0 c.in_err-admit_record.ensures.admits)

pub returns-clause-takes : goal.returns-clause-takes
returns-clause-takes g c =
    let files = g.F.Shelf.files c.args.shelf.now in
    let before = g.F.Shelf.faults c.args.shelf.now in
    let now = g.F.Shelf.faults c.read.new.shelf in
    let d = arc_value c.args.terms.design.now in
    let origin = origin_of c.args.origin in
    let rec' = c.in_ok-rec.rec in
    taken c.args.terms.passed files before now d c.args.k (entries_of c.args.store.now) origin (entries_of c.admit_record.new.store) rec'
    (subst (λ (x : Design). IsFoundIn x c.args.k c.in_ok-source.source (Ok rec')) c.deref.ensures c.in_ok-rec.ensures files before now origin c.in_ok-source.ensures.read)
    (sym c.may_pass.ensures ∙ c.if-not-may_pass.false)
    c.in_ok-admit_record.ensures.admits
