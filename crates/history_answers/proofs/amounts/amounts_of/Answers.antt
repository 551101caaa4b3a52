use Rattle.std.proofs.Common.{◌∙◌, ◌+◌, ap, length, arith, List, ℕ}
use Rattle.std.specs.Prelude.{sum_by}
use Rattle.ucis_model.specs.declared.answers.Which.TheVariants.{Bytes, History}
use Rattle.design_data.specs.declared.design.Design.{Design}
use Rattle.cov_history.specs.History.{bins_hit, contents}
use Rattle.history_answers.specs.declared.keeping.Kept.{Kept}
use Rattle.history_answers.specs.Kept.{hit_by}
use Rattle.history_answers.proofs.Worked.{few_kept, hit_fits, hit_is, kept_length}
use Rattle.history_answers.proofs.Amounting.{amounts_are}
use Rattle.history_answers.proofs.amounts.amounts_of.Goals as goal

pub bytes_of-requires-clause-fits : goal.bytes_of-requires-clause-fits
bytes_of-requires-clause-fits c = let most = c.requires.within Bytes in omega (arith, most)

pub hit_by-requires-clause-few : goal.hit_by-requires-clause-few
hit_by-requires-clause-few c =
    let e = ap (λ (ts : List Kept). length ts) (c.as_slice-kept.ensures.value ∙ c.in_ok-tests.ensures) in
    let f = few_kept c.design_at.result.now c.args.entries.now in
    let most = c.requires.few in
    omega (arith, e, f, most)

pub hit_by-requires-clause-fits : goal.hit_by-requires-clause-fits
hit_by-requires-clause-fits c =
    let e = ap hit_by (c.as_slice-kept.ensures.value ∙ c.in_ok-tests.ensures) in
    let f = hit_fits c.design_at.result.now c.args.entries.now c.requires.few in
    omega (arith, e, f)

pub overflow_add-result : goal.overflow_add-result
overflow_add-result c =
    let most = c.requires.within History in
    let n = c.changes.ensures.is in
    let o = ap (λ (ps : List (List ℕ)). length ps) (c.as_slice-paths.ensures.value ∙ c.in_ok-out.ensures) in
    omega (arith, most, n, o)

pub returns : goal.returns
returns c =
    let d = c.design_at.result.now in
    let h = c.args.entries.now in
    let kept = c.as_slice-kept.ensures.value ∙ c.in_ok-tests.ensures in
    let out = c.as_slice-paths.ensures.value ∙ c.in_ok-out.ensures in
    amounts_are c.args.opening.now h _ (ap (λ (ts : List Kept). length ts) kept ∙ kept_length d h) c.in_ok-bytes.ensures
    (c.hit_by.ensures ∙ ap hit_by kept ∙ hit_is d h ∙ ap (λ (x : Design). sum_by (bins_hit x) (contents h)) c.design_at.ensures)
    (λ i. c.changes.ensures.is i + ap (λ (ps : List (List ℕ)). length ps) out i)
