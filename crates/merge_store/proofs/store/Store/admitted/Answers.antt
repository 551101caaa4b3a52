use Rattle.std.proofs.Common.{◌≡◌, ◌∙◌, ◌-◌, ap, sym, subst, ℕ, length, Some, None}
use Rattle.cov_history.specs.History.{tests_of}
use Rattle.store_parts.specs.Keeps.{IsLast}
use Rattle.store_parts.specs.Lasts.{is_test}
use Rattle.store_parts.specs.Words.{test_of}
use Rattle.merge_store.specs.Stores.{opening_of, entries_of}
use Rattle.store_parts.proofs.Latest.{last_test, last_there}
use Rattle.merge_store.proofs.store.Store.admitted.Goals as goal

pub returns-in-Some : goal.returns-in-Some
returns-in-Some c =
    let s = c.args.self.now in
    let h = entries_of s in
    let place : c.saturating_sub.result ≡ length (tests_of h) - 1 = c.saturating_sub.ensures ∙ ap (λ (n : ℕ). n - 1) c.test_count.ensures.tests in
    subst (λ (n : ℕ). IsLast is_test h n) (sym (last_there h (Some (test_of c.in-Some.test.now)) c.saturating_sub.result place c.in-Some.ensures.test)) (last_test (opening_of s) h s.keeps.legal)

pub returns-in-None : goal.returns-in-None
returns-in-None c =
    let s = c.args.self.now in
    let h = entries_of s in
    let place : c.saturating_sub.result ≡ length (tests_of h) - 1 = c.saturating_sub.ensures ∙ ap (λ (n : ℕ). n - 1) c.test_count.ensures.tests in
    subst (λ (n : ℕ). IsLast is_test h n) (sym (last_there h None c.saturating_sub.result place c.in-None.ensures.test)) (last_test (opening_of s) h s.keeps.legal)
