use Rattle.std.proofs.Common.{◌≡◌, ◌∙◌, ap, sym, length, List, ℕ, ◌+◌}
use Rattle.std.proofs.lemmas.List.{length-map}
use Rattle.std.specs.declared.vec.Vec.{Vec}
use Rattle.std.specs.declared.alloc.Global.{Global}
use Rattle.cov_history.specs.History.{Test, tests_of}
use Rattle.store_parts.specs.declared.held.Kept.{Kept}
use Rattle.store_parts.specs.Words.{entry_of, test_of}
use Rattle.merge_store.specs.Stores.{entries_of}
use Rattle.store_parts.proofs.Excluding.{history_is}
use Rattle.merge_store.proofs.store.Store.amounts.Goals as goal

pub returns : goal.returns
returns c =
    let s = c.args.self.now in
    let k = s.keeps in
    let h = entries_of s in
    let view : (Vec ℕ Global × Kept) → List ℕ × Test = λ e. (e.0.items, test_of e.1) in
    let tests : length s.tests.entries ≡ length (tests_of h) = sym (length-map s.tests.entries view) ∙ ap (λ (ts : List (List ℕ × Test)). length ts) k.tests_are ∙ length-map (tests_of h) (λ (t : Test). (t.content.id, t)) in
    let len : length c.as_slice.result.now ≡ length h = ap length c.as_slice.ensures.value ∙ sym (length-map s.entries.items entry_of) in
    record {
      tests = c.len.ensures.len ∙ tests;
      bytes = k.bytes_are;
      entries = k.entries_are;
      history = ap (λ (n : ℕ). n + s.outs) len ∙ sym (history_is k);
    }
