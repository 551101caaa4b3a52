use Rattle.std.proofs.Common.{ℕ, List, [], sym, subst, ◌∙◌, arith}
use Rattle.std.specs.Prelude.{Ok}
use Rattle.std.proofs.lemmas.Result.{err_from_is_err_and}
use Rattle.journal_file.specs.Stands.{Begins}
use Rattle.journal_file.specs.Outcomes.{Refuses, Reads}
use Rattle.journal_file.proofs.Finished.{opened_right}
use Rattle.journal_file.proofs.opening.open.Goals as goal

pub returns-in_err-check_header-clause-opens : goal.returns-in_err-check_header-clause-opens
returns-in_err-check_header-clause-opens g c = λ t.
    let p = err_from_is_err_and c.from_residual-in_err-check_header.result c.from_residual-in_err-check_header.ensures.1 in
    rw (p.1, p.2) (subst (λ (f : List ℕ). Refuses c.args.digest.now c.args.sums.now f c.in_err-check_header.field-0.0) (c.settle.ensures.seen c.in_ok-settle.ensures.faults)
    (c.in_err-check_header.ensures.header (c.settle.ensures.keeps.told_on ∙ t) c.args.sums.now))

pub returns-clause-opens : goal.returns-clause-opens
returns-clause-opens g c = λ t.
    let digest = c.args.digest.now in
    let sums = c.args.sums.now in
    let opened = c.in_ok-opened.opened in
    let told = c.settle.ensures.keeps.told_on ∙ t in
    let looks = c.check_header.ensures.looks in
    let begins = subst (λ (f : List ℕ). Begins digest [] f) (sym looks.seen_on) (c.in_ok-check_header.ensures.header told) in
    let reads = subst (λ (f : List ℕ). Reads digest sums f (Ok opened)) (looks.seen_on ∙ c.settle.ensures.seen c.in_ok-settle.ensures.faults) (c.in_ok-opened.ensures.reads (looks.told_on ∙ told) begins) in
    opened_right digest sums (g.D.Disk.seen c.args.disk.now) opened reads (omega (arith, c.if-whole_sums-opened.false, c.whole_sums.ensures))
