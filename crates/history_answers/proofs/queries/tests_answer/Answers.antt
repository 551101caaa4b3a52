use Rattle.history_answers.proofs.Worked.{few_kept}
use Rattle.std.proofs.Common.{◌≡◌, ◌∙◌, ap, length, map, take, drop, List, arith}
use Rattle.history_answers.specs.declared.keeping.Kept.{Kept}
use Rattle.history_answers.specs.Kept.{kept_from}
use Rattle.history_answers.proofs.Asked.{tests_are}
use Rattle.history_answers.proofs.queries.tests_answer.Goals as goal

pub returns : goal.returns
returns c =
    let d = c.design_at.result.now in
    let h = c.args.entries.now in
    let all = c.as_slice-all.ensures.value ∙ c.in_ok-tests.ensures in
    let part : c.page-part.result.now ≡ take 1024 (drop c.args.first (kept_from d 0 h)) = c.page-part.ensures ∙ ap (λ (ts : List Kept). take 1024 (drop c.args.first ts)) all in
    tests_are d h c.args.first _ c.of.result (ap (λ (ts : List Kept). length ts) all) (c.of.ensures ∙ c.in_ok-rows.ensures ∙ ap (map (λ (k : Kept). k.row)) part)

pub overflow_cast-result : goal.overflow_cast-result
overflow_cast-result c =
    let many = ap (λ (ts : List Kept). length ts) (c.as_slice-all.ensures.value ∙ c.in_ok-tests.ensures) in
    let few = few_kept c.design_at.result.now c.args.entries.now in
    let most = c.requires in
    omega (arith, many, few, most)
