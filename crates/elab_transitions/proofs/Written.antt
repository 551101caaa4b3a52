-- The repetitions that steps give have each value at least once, so that a sequence with an empty set has no window.
use Rattle.std.proofs.Common.{◌≡◌, ℕ, zero, suc, ◌≤◌, ◌+◌, ℤ, pos, negsuc, List, [], ◌∷◌, ◌++◌, length, take, drop, Bool, true, false, Option, Some, None, refl, subst, arith, int_le, Ok}
use Rattle.std.specs.Prelude.{◌&&◌, ◌||◌, ◌-◌}
use Rattle.std.specs.List.{All, AllByRecursion, list_all, list_any}
use Rattle.std.proofs.lemmas.Bool.{or_parts, false≢true, true≢false}
use Rattle.std.proofs.lemmas.Int.{ints}
use Rattle.std.proofs.lemmas.List.Elements.{All-head}
use Rattle.cov_base.specs.Sets.{written}
use Rattle.cov_tree.specs.declared.expr.Expr.{Expr}
use Rattle.cov_tree.specs.declared.bins.Step.{Step}
use Rattle.cov_tree.specs.declared.bins.Times.{Times}
use Rattle.cov_tree.specs.declared.bins.Times.TheVariants as times
use Rattle.const_eval.specs.Scopes.{Levels}
use Rattle.trans_seq.specs.declared.seq.Item.{Item}
use Rattle.trans_seq.specs.declared.seq.Seq.{Seq}
use Rattle.trans_seq.specs.declared.seq.Repeat.{Repeat}
use Rattle.trans_seq.specs.declared.seq.Repeat.TheVariants.{Once, Consec, Goto, NonConsec}
use Rattle.trans_lists.specs.Lists.{goes_on, is_endless, has_endless}
use Rattle.trans_seq.specs.Windows.{IsOne, IsBlocks, IsGoto, InRepeat, InSeq, is_known_in, is_end}
use Rattle.design_data.specs.Left.{has_numbers}
use Rattle.elab_base.specs.declared.fault.ElabKind.TheVariants as kind
use Rattle.elab_base.specs.Gives.{needs, each_at}
use Rattle.elab_base.specs.Steps.{number_in}
use Rattle.elab_base.proofs.Keeps.{bind_ok, ok_is, each_keeps, needs_ok, and_first, all_push, all_as}
use Rattle.elab_values.specs.declared.domain.Domain.{Domain}
use Rattle.elab_values.specs.Listed.{listed_in, numbers_listed}
use Rattle.elab_transitions.specs.declared.steps.ListedStep.{ListedStep}
use Rattle.elab_transitions.specs.Bins.{any_goes_on}
use Rattle.elab_transitions.specs.Steps.{capped, is_repetition, ends_of, repeat_of, step_of, with_step, steps_of, with_sequence, sequences_of, item_of, with_item, items_of, with_seq, seqs_of}

-- ---- repetitions

abbrev pub IsOften : Repeat → Type 0
IsOften Once = Unit {0}
IsOften (Consec low high) = 1 ≤ low
IsOften (Goto low high) = 1 ≤ low
IsOften (NonConsec low high) = 1 ≤ low

abbrev pub AreOften : List Item → Type 0
AreOften items = AllByRecursion (λ item. IsOften item.repeat) items

abbrev pub AllOften : List Seq → Type 0
AllOften seqs = AllByRecursion (λ seq. AreOften seq.items) seqs

capped_some : (n : ℤ) → int_le (pos 1) n ≡ true → 1 ≤ capped n
capped_some (pos n) e = grind (arith, ints, e)
capped_some (negsuc n) e = absurd (false≢true e)

ends_often : (levels : Levels) (low high : Expr) (at : ℕ) (ends : ℕ × ℕ) → ends_of levels low high at ≡ Ok ends → 1 ≤ ends.0
unfolding ends_of
ends_often levels low high at ends e =
    let l = bind_ok (number_in levels low) _ ends e in
    let h = bind_ok (number_in levels high) _ ends l.2 in
    let n = bind_ok (needs (is_repetition l.0 h.0) kind.BadRepeat at) _ ends h.2 in
    let holds = needs_ok (is_repetition l.0 h.0) kind.BadRepeat at n.0 n.1 in
    let some = capped_some l.0 (and_first (int_le (pos 1) l.0) (int_le l.0 h.0) holds) in
    let same = ok_is _ ends n.2 in
    subst (λ (x : ℕ × ℕ). 1 ≤ x.0) same some

repeat_often : (levels : Levels) (t : Times) (at : ℕ) (repeat : Repeat) → repeat_of levels t at ≡ Ok repeat → IsOften repeat
unfolding repeat_of
repeat_often levels times.Once at repeat e = subst IsOften (ok_is Once repeat e) tt
repeat_often levels (times.Consec low high) at repeat e =
    let b = bind_ok (ends_of levels low high at) _ repeat e in
    subst IsOften (ok_is (Consec b.0.0 b.0.1) repeat b.2) (ends_often levels low high at b.0 b.1)
repeat_often levels (times.Goto low high) at repeat e =
    let b = bind_ok (ends_of levels low high at) _ repeat e in
    subst IsOften (ok_is (Goto b.0.0 b.0.1) repeat b.2) (ends_often levels low high at b.0 b.1)
repeat_often levels (times.NonConsec low high) at repeat e =
    let b = bind_ok (ends_of levels low high at) _ repeat e in
    subst IsOften (ok_is (NonConsec b.0.0 b.0.1) repeat b.2) (ends_often levels low high at b.0 b.1)

-- ---- the steps of a declaration

module _ (levels : Levels) (domain : Domain) (wildcard : Bool) (R : ListedStep → Type 0) (one : (step : Step) (listed : ListedStep) → step_of levels domain wildcard step ≡ Ok listed → R listed) where
  step_has : (step : Step) (steps new : List ListedStep) → with_step levels domain wildcard step steps ≡ Ok new → AllByRecursion R steps → AllByRecursion R new
  unfolding with_step
  step_has step steps new e all =
      let s = bind_ok (step_of levels domain wildcard step) _ new e in
      subst (AllByRecursion R) (ok_is (steps ++ s.0 ∷ []) new s.2) (all_push R steps s.0 all (one step s.0 s.1))

  sequence_has : (steps : List Step) (sequences new : List (List ListedStep)) → with_sequence levels domain wildcard steps sequences ≡ Ok new
      → AllByRecursion (AllByRecursion R) sequences → AllByRecursion (AllByRecursion R) new
  unfolding with_sequence steps_of
  sequence_has steps sequences new e all =
      let s = bind_ok (steps_of levels domain wildcard steps) _ new e in
      let each : AllByRecursion R s.0 = each_keeps (λ k. with_step levels domain wildcard) (AllByRecursion R) (λ k x a b e p. step_has x a b e p) 0 steps [] s.0 s.1 tt in
      subst (AllByRecursion (AllByRecursion R)) (ok_is (sequences ++ s.0 ∷ []) new s.2) (all_push (AllByRecursion R) sequences s.0 all each)

  sequences_have : (written : List (List Step)) (sequences : List (List ListedStep)) → sequences_of levels domain wildcard written ≡ Ok sequences → AllByRecursion (AllByRecursion R) sequences
  unfolding sequences_of
  sequences_have written sequences e = each_keeps (λ k. with_sequence levels domain wildcard) (AllByRecursion (AllByRecursion R)) (λ k x a b e p. sequence_has x a b e p) 0 written [] sequences e tt

one_often : (levels : Levels) (domain : Domain) (wildcard : Bool) (step : Step) (listed : ListedStep) → step_of levels domain wildcard step ≡ Ok listed → IsOften listed.repeat
unfolding step_of
one_often levels domain wildcard step listed e =
    let n = bind_ok (listed_in levels domain wildcard step.elems) _ listed e in
    let r = bind_ok (repeat_of levels step.times step.at) _ listed n.2 in
    subst (λ (x : ListedStep). IsOften x.repeat) (ok_is _ listed r.2) (repeat_often levels step.times step.at r.0 r.1)

pub sequences_often : (levels : Levels) (domain : Domain) (wildcard : Bool) (written : List (List Step)) (sequences : List (List ListedStep)) → sequences_of levels domain wildcard written ≡ Ok sequences
    → AllByRecursion (AllByRecursion (λ (step : ListedStep). IsOften step.repeat)) sequences
sequences_often levels domain wildcard = sequences_have levels domain wildcard (λ (step : ListedStep). IsOften step.repeat) (one_often levels domain wildcard)

-- ---- its sequences repeat as its steps do

module _ (domain : Domain) (at : ℕ) (Q : Repeat → Type 0) where
  items_keep : (k : ℕ) (steps : List ListedStep) (items new : List Item) → each_at (λ k. with_item domain at) k steps items ≡ Ok new
      → AllByRecursion (λ (step : ListedStep). Q step.repeat) steps → AllByRecursion (λ (item : Item). Q item.repeat) items → AllByRecursion (λ (item : Item). Q item.repeat) new
  unfolding each_at with_item item_of
  items_keep k [] items new e steps all = subst (AllByRecursion (λ (item : Item). Q item.repeat)) (ok_is items new e) all
  items_keep k (step ∷ rest) items new e steps all =
      let w = bind_ok (with_item domain at step items) (each_at (λ k. with_item domain at) (k + 1) rest) new e in
      let i = bind_ok (item_of domain step at) _ w.0 w.1 in
      let n = bind_ok (numbers_listed domain step.elements at) _ i.0 i.1 in
      let here : Q i.0.repeat = subst (λ (x : Item). Q x.repeat) (ok_is _ i.0 n.2) steps.0 in
      let more = subst (AllByRecursion (λ (item : Item). Q item.repeat)) (ok_is (items ++ i.0 ∷ []) w.0 i.2) (all_push (λ (item : Item). Q item.repeat) items i.0 all here) in
      items_keep (k + 1) rest w.0 new w.2 steps.1 more

  seqs_keep : (k : ℕ) (sequences : List (List ListedStep)) (seqs new : List Seq) → each_at (λ k. with_seq domain at) k sequences seqs ≡ Ok new
      → AllByRecursion (AllByRecursion (λ (step : ListedStep). Q step.repeat)) sequences → AllByRecursion (λ (seq : Seq). AllByRecursion (λ (item : Item). Q item.repeat) seq.items) seqs
      → AllByRecursion (λ (seq : Seq). AllByRecursion (λ (item : Item). Q item.repeat) seq.items) new
  unfolding each_at with_seq items_of
  seqs_keep k [] seqs new e sequences all = subst (AllByRecursion (λ (seq : Seq). AllByRecursion (λ (item : Item). Q item.repeat) seq.items)) (ok_is seqs new e) all
  seqs_keep k (steps ∷ rest) seqs new e sequences all =
      let w = bind_ok (with_seq domain at steps seqs) (each_at (λ k. with_seq domain at) (k + 1) rest) new e in
      let i = bind_ok (items_of domain at steps) _ w.0 w.1 in
      let here : AllByRecursion (λ (item : Item). Q item.repeat) i.0 = items_keep 0 steps [] i.0 i.1 sequences.0 tt in
      let seq : Seq = record { items = i.0 } in
      let more = subst (AllByRecursion (λ (s : Seq). AllByRecursion (λ (item : Item). Q item.repeat) s.items)) (ok_is (seqs ++ seq ∷ []) w.0 i.2)
      (all_push (λ (s : Seq). AllByRecursion (λ (item : Item). Q item.repeat) s.items) seqs seq all here) in
      seqs_keep (k + 1) rest w.0 new w.2 sequences.1 more

  pub seqs_repeat : (sequences : List (List ListedStep)) (seqs : List Seq) → seqs_of domain sequences at ≡ Ok seqs → AllByRecursion (AllByRecursion (λ (step : ListedStep). Q step.repeat)) sequences
      → AllByRecursion (λ (seq : Seq). AllByRecursion (λ (item : Item). Q item.repeat) seq.items) seqs
  unfolding seqs_of
  seqs_repeat sequences seqs e all = seqs_keep 0 sequences [] seqs e all tt

-- ---- sequences without lists of any length

none_there : {X : Type 0} (p : X → Bool) (xs : List X) → list_any p xs ≡ false → AllByRecursion (λ (x : X). p x ≡ false) xs
none_there p [] e = tt
none_there p (x ∷ xs) e = let parts = or_parts (p x) (list_any p xs) e in (parts.0, none_there p xs parts.1)

both_false : (a b : Bool) → a ≡ false → b ≡ false → (a || b) ≡ false
both_false true b e f = absurd (true≢false e)
both_false false b e f = f

none_back : {X : Type 0} (p : X → Bool) (xs : List X) → AllByRecursion (λ (x : X). p x ≡ false) xs → list_any p xs ≡ false
none_back p [] all = refl
none_back p (x ∷ xs) all = both_false (p x) (list_any p xs) all.0 (none_back p xs all.1)

pub seqs_bounded : (domain : Domain) (at : ℕ) (sequences : List (List ListedStep)) (seqs : List Seq) → seqs_of domain sequences at ≡ Ok seqs → list_any any_goes_on sequences ≡ false → list_any has_endless seqs ≡ false
seqs_bounded domain at sequences seqs e bounded =
    let steps = all_as (λ (steps : List ListedStep). any_goes_on steps ≡ false) (AllByRecursion (λ (step : ListedStep). goes_on step.repeat ≡ false)) (λ steps h. none_there (λ (step : ListedStep). goes_on step.repeat) steps h) sequences (none_there any_goes_on sequences bounded) in
    let items = seqs_repeat domain at (λ (r : Repeat). goes_on r ≡ false) sequences seqs e steps in
    none_back has_endless seqs (all_as (λ (seq : Seq). AllByRecursion (λ (item : Item). goes_on item.repeat ≡ false) seq.items) (λ (seq : Seq). has_endless seq ≡ false) (λ seq h. none_back is_endless seq.items h) seqs items)

-- ---- empty sets

none_known : (v : Option ℤ) → is_known_in [] v ≡ true → ⊥
unfolding written
none_known None e = false≢true e
none_known (Some v) e = false≢true e

none_one : (w : List (Option ℤ)) → IsOne (is_known_in []) w → ⊥
none_one [] h = omega (arith, h.0)
none_one (v ∷ w) h = none_known v (All-head (λ (x : Option ℤ). is_known_in [] x ≡ true) v w h.1)

none_run : (low : ℕ) (w : List (Option ℤ)) → 1 ≤ low → low ≤ length w → All (λ (x : Option ℤ). is_known_in [] x ≡ true) w → ⊥
none_run low [] some long all = omega (arith, some, long)
none_run low (v ∷ w) some long all = none_known v (All-head (λ (x : Option ℤ). is_known_in [] x ≡ true) v w all)

none_blocks : (m : ℕ) (w : List (Option ℤ)) → 1 ≤ m → IsBlocks (is_known_in []) m w → ⊥
none_blocks zero w some h = omega (arith, some)
none_blocks (suc m) w some h = none_one _ h.rest.rest

none_goto : (low high : ℕ) (w : List (Option ℤ)) → 1 ≤ low → IsGoto (is_known_in []) low high w → ⊥
none_goto low high w some h = none_blocks h.0 w (omega (arith, some, h.1)) h.3

none_repeat : (repeat : Repeat) (last : Bool) (w : List (Option ℤ)) → IsOften repeat → InRepeat (is_known_in []) repeat last w → ⊥
none_repeat Once last w often h = none_one w h
none_repeat (Consec low high) last w often h = none_run low w often h.0 h.2
none_repeat (Goto low high) last w often h = none_goto low high w often h
none_repeat (NonConsec low high) true w often h = none_goto low high w often h
none_repeat (NonConsec low high) false w often h = none_goto low high _ often h.first

no_numbers : (set : List (ℤ × ℤ)) → has_numbers set ≡ false → set ≡ []
no_numbers [] e = refl
no_numbers (range ∷ ranges) e = absurd (true≢false e)

first_none : (item : Item) (items : List Item) (w : List (Option ℤ)) → IsOften item.repeat → item.set ≡ [] → InSeq (item ∷ items) w → ⊥
first_none item items w often none h = none_repeat item.repeat (is_end items) (take h.cut w) often (subst (λ (set : List (ℤ × ℤ)). InRepeat (is_known_in set) item.repeat (is_end items) (take h.cut w)) none h.first)

none_among : (item : Item) (items : List Item) (w : List (Option ℤ)) (b : Bool) → has_numbers item.set ≡ b → (b && list_all (λ (x : Item). has_numbers x.set) items) ≡ false
    → IsOften item.repeat → (list_all (λ (x : Item). has_numbers x.set) items ≡ false → (v : List (Option ℤ)) → InSeq items v → ⊥) → InSeq (item ∷ items) w → ⊥
none_among item items w true is rest often later h = later rest (drop h.cut w) h.rest
none_among item items w false is rest often later h = first_none item items w often (no_numbers item.set is) h

-- a sequence with an item whose set is empty has no window
pub no_window : (items : List Item) (w : List (Option ℤ)) → AreOften items → list_all (λ (item : Item). has_numbers item.set) items ≡ false → InSeq items w → ⊥
no_window [] w often e h = true≢false e
no_window (item ∷ items) w often e h = none_among item items w (has_numbers item.set) refl e often.0 (λ rest v k. no_window items v often.1 rest k) h
