use Rattle.std.proofs.Common.{◌∙◌, ap, length, arith, List}
use Rattle.history_answers.specs.declared.keeping.Kept.{Kept}
use Rattle.history_answers.specs.Kept.{hit_by}
use Rattle.history_answers.proofs.Worked.{few_kept, hit_fits, hit_is}
use Rattle.history_answers.proofs.changes.with_revision.Goals as goal

pub hit_by-requires-clause-few : goal.hit_by-requires-clause-few
hit_by-requires-clause-few c =
    let e = ap (λ (ts : List Kept). length ts) (c.as_slice-3.ensures.value ∙ c.in_ok-tests.ensures) in
    let f = few_kept c.args.revision.now.design c.args.entries.now in
    let most = c.requires.few in
    omega (arith, e, f, most)

pub hit_by-requires-clause-fits : goal.hit_by-requires-clause-fits
hit_by-requires-clause-fits c =
    let e = ap hit_by (c.as_slice-3.ensures.value ∙ c.in_ok-tests.ensures) in
    let f = hit_fits c.args.revision.now.design c.args.entries.now c.requires.few in
    omega (arith, e, f)

pub returns-clause-entries : goal.returns-clause-entries
returns-clause-entries c = c.hit_by.ensures ∙ ap hit_by (c.as_slice-3.ensures.value ∙ c.in_ok-tests.ensures) ∙ hit_is c.args.revision.now.design c.args.entries.now
