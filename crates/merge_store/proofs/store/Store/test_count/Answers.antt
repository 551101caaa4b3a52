use Rattle.std.proofs.Common.{◌≡◌, ◌∙◌, ap, sym, length, List, ℕ, arith}
use Rattle.std.proofs.lemmas.List.{length-map}
use Rattle.std.specs.declared.vec.Vec.{Vec}
use Rattle.std.specs.declared.alloc.Global.{Global}
use Rattle.ucis_model.specs.declared.answers.Which.TheVariants.{Tests}
use Rattle.cov_history.specs.History.{Test, tests_of}
use Rattle.store_parts.specs.declared.held.Kept.{Kept}
use Rattle.store_parts.specs.Words.{test_of}
use Rattle.merge_store.specs.Stores.{entries_of}
use Rattle.merge_store.proofs.store.Store.test_count.Goals as goal

pub returns-clause-few : goal.returns-clause-few
returns-clause-few c =
    let s = c.args.self.now in
    let view : (Vec ℕ Global × Kept) → List ℕ × Test = λ e. (e.0.items, test_of e.1) in
    let tests : length s.tests.entries ≡ length (tests_of (entries_of s)) = sym (length-map s.tests.entries view) ∙ ap (λ (ts : List (List ℕ × Test)). length ts) s.keeps.tests_are ∙ length-map (tests_of (entries_of s)) (λ (t : Test). (t.content.id, t)) in
    omega (arith, c.len.ensures.len, tests, s.keeps.within Tests)
