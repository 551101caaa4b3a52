use Rattle.std.proofs.Common.{◌≡◌, ◌∙◌, ◌+◌, ◌++◌, ◌∷◌, [], ◌<◌, ap, sym, subst, length, map, List, ℕ, None, nat_eq}
use Rattle.std.specs.Prelude.{All}
use Rattle.std.specs.Map.{lookup}
use Rattle.std.specs.Cmp.Lexicographic.{pointwise}
use Rattle.std.specs.Arc.{arc_value}
use Rattle.std.specs.declared.vec.Vec.{Vec}
use Rattle.std.specs.declared.alloc.Global.{Global}
use Rattle.std.proofs.lemmas.List.{length-map}
use Rattle.design_data.specs.declared.design.Design.{Design}
use Rattle.record_codec.specs.declared.record.Record.{Record}
use Rattle.tally.specs.declared.tally.Tally.{Tally}
use Rattle.tally.specs.Rows.{rows_from, count_in, Adds, HasRoom}
use Rattle.sampler.specs.Plans.{IsTallyOf}
use Rattle.cov_history.specs.Tallies.{tally}
use Rattle.cov_history.specs.History.{Test, design_of}
use Rattle.cov_history.specs.declared.entry.Event.TheVariants.{Admit}
use Rattle.cov_history.specs.Answers.{by}
use Rattle.store_parts.specs.declared.held.Held.{Held}
use Rattle.store_parts.specs.declared.held.HeldEvent.TheVariants as HeldEvent
use Rattle.store_parts.specs.declared.held.Kept.{Kept}
use Rattle.store_parts.specs.Words.{entry_of, test_of}
use Rattle.merge_store.specs.Stores.{opening_of, entries_of}
use Rattle.store_parts.proofs.ById.{none_kept}
use Rattle.store_sums.proofs.Ranges.{map_more}
use Rattle.store_parts.proofs.Tallied.{rows_are, all_inside}
use Rattle.store_parts.proofs.Admitting.{counts_room, admit_keeps, test_at}
use Rattle.merge_store.proofs.store.Store.take_in.Goals as goal

pub add-requires-clause-inside : goal.add-requires-clause-inside
add-requires-clause-inside c =
    let s = c.args.self.now in
    let p = c.args.prepared in
    let d = design_of (opening_of s) (entries_of s) in
    let tallied : IsTallyOf d p.of p.counted = subst (λ (x : Design). IsTallyOf x p.of p.counted) c.requires.same c.into_parts-rec.ensures.counted in
    let rows : c.deref.result.now ≡ rows_from 0 (tally d p.of) = c.deref.ensures ∙ c.into_parts-rec.ensures.tally ∙ rows_are d p.of p.counted tallied in
    subst (λ (n : ℕ). All (λ (row : ℕ × ℕ). row.0 < n) c.deref.result.now) (sym s.keeps.sums.same_len) (subst (λ (xs : List (ℕ × ℕ)). All (λ (row : ℕ × ℕ). row.0 < d.bin_count) xs) (sym rows) (all_inside d p.of))

pub add-requires-clause-room : goal.add-requires-clause-room
add-requires-clause-room c =
    let s = c.args.self.now in
    let p = c.args.prepared in
    let d = design_of (opening_of s) (entries_of s) in
    let tallied : IsTallyOf d p.of p.counted = subst (λ (x : Design). IsTallyOf x p.of p.counted) c.requires.same c.into_parts-rec.ensures.counted in
    let rows : c.deref.result.now ≡ rows_from 0 (tally d p.of) = c.deref.ensures ∙ c.into_parts-rec.ensures.tally ∙ rows_are d p.of p.counted tallied in
    subst (λ (xs : List (ℕ × ℕ)). HasRoom (count_in xs) s.sums.counts.items) (sym rows) (counts_room s.keeps p.of)

pub add_test-requires-clause-new : goal.add_test-requires-clause-new
add_test-requires-clause-new c =
    let s = c.args.self.now in
    let r = c.args.prepared.of in
    let id : c.in-Ok.id.items ≡ r.id = c.in-Ok.ensures.items ∙ c.as_slice.ensures ∙ c.id.ensures in
    let none : lookup (λ (x : Vec ℕ Global). pointwise nat_eq r.id x.items) s.tests.entries ≡ None = none_kept s.tests.entries (entries_of s) r.id s.keeps.tests_are c.requires.is_new in
    let unchanged : lookup (λ (x : Vec ℕ Global). pointwise nat_eq r.id x.items) c.reserve-2.new.self.entries ≡ None = ap (lookup (λ (x : Vec ℕ Global). pointwise nat_eq r.id x.items)) c.reserve-2.ensures.entries ∙ none in
    subst (λ (i : List ℕ). lookup (λ (x : Vec ℕ Global). pointwise nat_eq i x.items) c.reserve-2.new.self.entries ≡ None) (sym id) unchanged

pub invariant_of-self-2-clause-keeps : goal.invariant_of-self-2-clause-keeps
invariant_of-self-2-clause-keeps c =
    let s = c.args.self.now in
    let p = c.args.prepared in
    let r = p.of in
    let h = entries_of s in
    let caller = c.args.caller in
    let d = design_of (opening_of s) h in
    let tallied : IsTallyOf d r p.counted = subst (λ (x : Design). IsTallyOf x r p.counted) c.requires.same c.into_parts-rec.ensures.counted in
    let kept_rows : arc_value c.into_parts-rec.result.1 ≡ rows_from 0 (tally d r) = c.into_parts-rec.ensures.tally ∙ rows_are d r p.counted tallied in
    let id : c.in-Ok.id.items ≡ r.id = c.in-Ok.ensures.items ∙ c.as_slice.ensures ∙ c.id.ensures in
    let point : length c.as_slice-2.result.now ≡ length h = ap length (c.as_slice-2.ensures.value ∙ c.reserve.ensures.items) ∙ sym (length-map s.entries.items entry_of) in
    let held : Held = record { caller = caller; event = HeldEvent.Admit c.in-Ok-clone.content } in
    let items : c.put.new.entries.items ≡ s.entries.items ++ held ∷ [] = c.put.ensures.items ∙ ap (λ (xs : List Held). xs ++ held ∷ []) c.reserve.ensures.items in
    let shared : arc_value c.in-Ok-clone.content ≡ r = c.in-Ok-clone.ensures.cases ∙ c.record.ensures in
    let grown : map entry_of c.put.new.entries.items ≡ h ++ by caller (Admit r) ∷ [] = map_more entry_of s.entries.items c.put.new.entries.items held (by caller (Admit r)) items (ap (λ (x : Record). by caller (Admit x)) shared) in
    let view : (Vec ℕ Global × Kept) → List ℕ × Test = λ e. (e.0.items, test_of e.1) in
    let seen : (Vec ℕ Global × Kept) → Tally = λ e. arc_value e.1.tally in
    let tests : map view c.add_test.new.tests.entries ≡ map view s.tests.entries ++ (r.id, test_at (length h + 1) r) ∷ [] = c.add_test.ensures.tests ∙ (λ i. map view (c.reserve-2.ensures.entries i) ++ (id i, test_at (point i + 1) (c.into_parts-rec.ensures.of i)) ∷ []) in
    let tallies : map seen c.add_test.new.tests.entries ≡ map seen s.tests.entries ++ rows_from 0 (tally d r) ∷ [] = c.add_test.ensures.tallies ∙ (λ i. map seen (c.reserve-2.ensures.entries i) ++ kept_rows i ∷ []) in
    let adds : Adds (count_in (rows_from 0 (tally d r))) s.sums.counts.items c.add.new.self.counts.items = subst (λ (rows : List (ℕ × ℕ)). Adds (count_in rows) s.sums.counts.items c.add.new.self.counts.items) (c.deref.ensures ∙ kept_rows) c.add.ensures.counts in
    rw (grown, tests, tallies, c.add.ensures.design, c.add.ensures.out) (admit_keeps s.keeps caller r p.under c.args.after c.requires c.add.new.self.counts.items adds)
