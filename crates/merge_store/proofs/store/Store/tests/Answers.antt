use Rattle.std.proofs.Common.{◌≡◌, ◌∙◌, ◌+◌, ◌-◌, ap, inl, map, take, drop, ℕ, arith}
use Rattle.ucis_model.specs.declared.answers.Answer.TheVariants as answer
use Rattle.cov_history.specs.History.{tests_of}
use Rattle.cov_history.specs.Answers.{test_row}
use Rattle.merge_store.specs.Stores.{entries_of}
use Rattle.merge_store.proofs.store.Store.tests.Goals as goal

pub returns : goal.returns
returns c =
    let h = entries_of c.args.self.now in
    let n : (c.args.first + 1024) - c.args.first ≡ 1024 = omega arith in
    let rows = c.of.ensures ∙ c.in_ok-rows.ensures ∙ ap (λ (k : ℕ). map test_row (take k (drop c.args.first (tests_of h)))) n in
    inl (λ i. answer.TestRows (c.test_count.ensures.tests i) (rows i))
