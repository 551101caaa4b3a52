-- One item's cells, by the last sample.
use Rattle.std.proofs.Common.{◌≡◌, ℕ, ◌+◌, ◌*◌, ◌<◌, ◌≤◌, ◌⊎◌, ◌↔◌, List, [], ◌∷◌, ◌++◌, length, drop, refl, sym, ◌∙◌, inl, inr, arith, Bool, true, false, not, zero, suc}
use Rattle.std.proofs.lemmas.Bool.{and_parts, and_from, or_cases, or_left, or_right, not-true, not_from_false}
use Rattle.trans_seq.specs.declared.seq.Repeat.{Repeat}
use Rattle.trans_seq.specs.declared.seq.Repeat.TheVariants.{Once, Consec, Goto, NonConsec}
use Rattle.trans_seq.specs.Windows.{Then, AllOutside, IsBlock, IsGap, IsRun, IsBlocks, IsGoto, InRepeat}
use Rattle.trans_seq.proofs.Cuts.{then-map, then-assoc, then-assoc_back}
use Rattle.trans_seq.proofs.Blocks.{run-zero, blocks-zero, at-push, at-push_back, after-push, after-push_back, run_at-push, run_at-push_back, open-cases, open-from}
use Rattle.trans_auto.specs.Masks.{has_bit, RunsHold, BlocksHold, RepeatHolds}
use Rattle.trans_auto.specs.Steps.{run_bit, at_bit, from_bit, RunsStep, BlocksStep, RepeatSteps, Leaves}

module _ {X : Type 0} (p : X → Bool) (E : List X → Type 0) (base old : ℕ) (enter : Bool) (w : List X) (entered : (enter ≡ true) ↔ E w) where
  run_bit-means : (high : ℕ) → RunsHold p E base old w high → (m : ℕ) → m ≤ high → (run_bit enter base old m ≡ true) ↔ Then E (IsRun p m) w
  run_bit-means high holds zero h = ((λ b. (run-zero p E w).0 (entered.0 b)), (λ t. entered.1 ((run-zero p E w).1 t)))
  run_bit-means high holds (suc m) h = holds m (omega arith)

  at_bit-means : (high gaps : ℕ) → BlocksHold p E base old w high gaps → (m : ℕ) → m ≤ high → (at_bit enter base old m ≡ true) ↔ Then E (IsBlocks p m) w
  at_bit-means high gaps holds zero h = ((λ b. (blocks-zero p E w).0 (entered.0 b)), (λ t. entered.1 ((blocks-zero p E w).1 t)))
  at_bit-means high gaps holds (suc m) h = holds.at m (omega arith)

  from_bit-means : (high gaps : ℕ) → BlocksHold p E base old w high gaps → (m : ℕ) → m ≤ high → m < gaps → (from_bit enter base old m ≡ true) ↔ (Then E (IsBlocks p m) w ⊎ Then (Then E (IsBlocks p m)) (IsGap p) w)
  from_bit-means high gaps holds m h g =
      let at = at_bit-means high gaps holds m h in
      let after = holds.after m g in (
        (λ b. elim (or_cases (at_bit enter base old m) (has_bit old (base + 2 * m)) b) [ inl x ↦ inl (at.0 x) | inr y ↦ inr (after.0 y) ]),
        (λ c. elim c [
          | inl x ↦ or_left (at_bit enter base old m) (has_bit old (base + 2 * m)) (at.1 x)
          | inr y ↦ or_right (at_bit enter base old m) (has_bit old (base + 2 * m)) (after.1 y)
        ]),
      )

  runs-step : (v : X) (new high : ℕ) → RunsHold p E base old w high → RunsStep enter base old (p v) new high → RunsHold p E base new (w ++ v ∷ []) high
  runs-step v new high holds step m h =
      let means = run_bit-means high holds m (omega arith) in (
        (λ b. let both = and_parts (p v) (run_bit enter base old m) (sym (step m h) ∙ b) in run_at-push_back p E m w v both.0 (means.0 both.1)),
        (λ t. let both = run_at-push p E m w v t in step m h ∙ and_from (p v) (run_bit enter base old m) both.0 (means.1 both.1)),
      )

  blocks-step : (v : X) (new high gaps : ℕ) → high ≤ gaps → gaps ≤ high + 1 → BlocksHold p E base old w high gaps → BlocksStep enter base old (p v) new high gaps → BlocksHold p E base new (w ++ v ∷ []) high gaps
  blocks-step v new high gaps le ge holds step = record {
    at = λ m h.
        let means = from_bit-means high gaps holds m (omega arith) (omega arith) in
        let B = Then E (IsBlocks p m) in (
          (λ b. let both = and_parts (p v) (from_bit enter base old m) (sym (step.at m h) ∙ b) in
              then-assoc E (IsBlocks p m) (IsBlock p) (w ++ v ∷ []) (at-push_back p B w v both.0 (means.0 both.1))),
          (λ t. let both = at-push p B w v (then-assoc_back E (IsBlocks p m) (IsBlock p) (w ++ v ∷ []) t) in
              step.at m h ∙ and_from (p v) (from_bit enter base old m) both.0 (means.1 both.1)),
        );
    after = λ m h.
        let means = from_bit-means high gaps holds m (omega arith) h in
        let B = Then E (IsBlocks p m) in (
          (λ b. let both = and_parts (not (p v)) (from_bit enter base old m) (sym (step.after m h) ∙ b) in
              after-push_back p B w v (not-true (p v) both.0) (means.0 both.1)),
          (λ t. let both = after-push p B w v t in
              step.after m h ∙ and_from (not (p v)) (from_bit enter base old m) (not_from_false (p v) both.0) (means.1 both.1)),
        );
  }

  pub repeat-step : (v : X) (new : ℕ) (r : Repeat) → RepeatHolds p E base old w r → RepeatSteps enter base old (p v) new r → RepeatHolds p E base new (w ++ v ∷ []) r
  repeat-step v new Once holds step = runs-step v new 1 holds step
  repeat-step v new (Consec low high) holds step = runs-step v new high holds step
  repeat-step v new (Goto low high) holds step = blocks-step v new high high (omega arith) (omega arith) holds step
  repeat-step v new (NonConsec low high) holds step = blocks-step v new high (high + 1) (omega arith) (omega arith) holds step

  -- a list of E, then from low to high blocks
  goto-parts : (low high : ℕ) → Then E (IsGoto p low high) w ↔ ((m : ℕ) × (low ≤ m) × (m ≤ high) × Then E (IsBlocks p m) w)
  goto-parts low high = (
    (λ t. (t.rest.0, t.rest.1, t.rest.2, record { cut = t.cut; within = t.within; first = t.first; rest = t.rest.3 })),
    (λ s. record { cut = s.3.cut; within = s.3.within; first = s.3.first; rest = (s.0, s.1, s.2, s.3.rest) }),
  )

  goto-leaves : (low high gaps : ℕ) → BlocksHold p E base old w high gaps → ((m : ℕ) × (low ≤ m) × (m ≤ high) × (at_bit enter base old m ≡ true)) ↔ Then E (IsGoto p low high) w
  goto-leaves low high gaps holds = (
    (λ s. (goto-parts low high).1 (s.0, s.1, s.2, (at_bit-means high gaps holds s.0 s.2).0 s.3)),
    (λ t. let s = (goto-parts low high).0 t in (s.0, s.1, s.2, (at_bit-means high gaps holds s.0 s.2).1 s.3)),
  )

  pub leaves-means : (r : Repeat) (last : Bool) → RepeatHolds p E base old w r → Leaves enter base old r last ↔ Then E (InRepeat p r last) w
  leaves-means Once last holds = run_bit-means 1 holds 1 (omega arith)
  leaves-means (Consec low high) last holds = (
    (λ s. let t = (run_bit-means high holds s.0 s.2).0 s.3 in
        let lo : low ≤ s.0 = s.1 in let hi : s.0 ≤ high = s.2 in
        record { cut = t.cut; within = t.within; first = t.first; rest = (omega (arith, t.rest.0, lo), omega (arith, t.rest.0, hi), t.rest.1) }),
    (λ t. let n = length (drop t.cut w) in
        (n, t.rest.0, t.rest.1, (run_bit-means high holds n t.rest.1).1 (record { cut = t.cut; within = t.within; first = t.first; rest = (refl, t.rest.2) }))),
  )
  leaves-means (Goto low high) last holds = goto-leaves low high high holds
  leaves-means (NonConsec low high) true holds = goto-leaves low high (high + 1) holds
  leaves-means (NonConsec low high) false holds = (
    (λ s. let hi : s.0 ≤ high = s.2 in
        let o = open-from p (Then E (IsBlocks p s.0)) w ((from_bit-means high (high + 1) holds s.0 s.2 (omega (arith, hi))).0 s.3) in
        then-map E (Then (IsBlocks p s.0) (AllOutside p)) E (Then (IsGoto p low high) (AllOutside p)) (λ u e. e)
        (λ u t. then-map (IsBlocks p s.0) (AllOutside p) (IsGoto p low high) (AllOutside p) (λ x b. (s.0, s.1, s.2, b)) (λ x a. a) u t)
        w (then-assoc E (IsBlocks p s.0) (AllOutside p) w o)),
    (λ t. let g = t.rest.first in
        let hi : g.0 ≤ high = g.2 in
        let u : Then E (Then (IsBlocks p g.0) (AllOutside p)) w = record { cut = t.cut; within = t.within; first = t.first; rest = record { cut = t.rest.cut; within = t.rest.within; first = g.3; rest = t.rest.rest } } in
        let o = open-cases p (Then E (IsBlocks p g.0)) w (then-assoc_back E (IsBlocks p g.0) (AllOutside p) w u) in
        (g.0, g.1, g.2, (from_bit-means high (high + 1) holds g.0 g.2 (omega (arith, hi))).1 o)),
  )
