-- An item may be complete where one of its marked cells is reached, or without a sample.
use Rattle.std.proofs.Common.{◌≡◌, ℕ, ◌+◌, ◌-◌, ◌*◌, ◌/◌, ◌%◌, ◌<◌, ◌≤◌, ◌⊎◌, ◌&&◌, ◌||◌, Bool, true, false, not, ap, sym, ◌∙◌, inl, inr, arith, refl, zero, suc}
use Rattle.std.specs.Prelude.{eqb, leb}
use Rattle.std.proofs.lemmas.Bool.{cases_lt, false≢true, and_parts, and_from, or_cases, or_left, or_right, eqb-true, eq-eqb, leb-true, le-leb}
use Rattle.trans_seq.specs.declared.seq.Repeat.{Repeat}
use Rattle.trans_seq.specs.declared.seq.Repeat.TheVariants.{Once, Consec, Goto, NonConsec}
use Rattle.trans_seq.specs.Cells.{cells_of_repeat}
use Rattle.trans_auto.specs.declared.marks.Mark.TheVariants.{Done}
use Rattle.trans_auto.specs.Masks.{has_bit}
use Rattle.trans_auto.specs.Steps.{at_bit, from_bit, done_bit, Leaves}
use Rattle.trans_auto.specs.Layout.{is_done, skips, IsMarkedAlone}

abbrev pub Common : ℕ → ℕ → Type 0
Common a b = (k : ℕ) × (has_bit a k ≡ true) × (has_bit b k ≡ true)

module _ (enter : Bool) (base old : ℕ) where
  at-odd : (j : ℕ) → j % 2 ≡ 1 → has_bit old (base + j) ≡ true → at_bit enter base old (suc (j / 2)) ≡ true
  at-odd j odd b = let place : base + 2 * (j / 2) + 1 ≡ base + j = omega (arith, odd) in ap (has_bit old) place ∙ b

  from-even : (j : ℕ) → j % 2 ≡ 0 → has_bit old (base + j) ≡ true → from_bit enter base old (j / 2) ≡ true
  from-even j even b =
      let place : base + 2 * (j / 2) ≡ base + j = omega (arith, even) in
      or_right (at_bit enter base old (j / 2)) (has_bit old (base + 2 * (j / 2))) (ap (has_bit old) place ∙ b)

  goto-cell : (low high j : ℕ) → j < 2 * high → (eqb (j % 2) 1 && leb low ((j + 1) / 2)) ≡ true → has_bit old (base + j) ≡ true → (m : ℕ) × (low ≤ m) × (m ≤ high) × (at_bit enter base old m ≡ true)
  goto-cell low high j lt done b =
      let both = and_parts (eqb (j % 2) 1) (leb low ((j + 1) / 2)) done in
      let odd : j % 2 ≡ 1 = eqb-true (j % 2) 1 both.0 in
      let le : low ≤ (j + 1) / 2 = leb-true low ((j + 1) / 2) both.1 in
      (suc (j / 2), omega (arith, odd, le), omega (arith, odd, lt), at-odd j odd b)

  open-even : (last : Bool) (j : ℕ) → j % 2 ≡ 0 → not last ≡ true → has_bit old (base + j) ≡ true → done_bit enter base old (not last) (j / 2) ≡ true
  open-even true j even h b = absurd (false≢true h)
  open-even false j even h b = from-even j even b

  done-odd : (last : Bool) (j : ℕ) → j % 2 ≡ 1 → has_bit old (base + j) ≡ true → done_bit enter base old (not last) (suc (j / 2)) ≡ true
  done-odd true j odd b = at-odd j odd b
  done-odd false j odd b = or_left (at_bit enter base old (suc (j / 2))) (has_bit old (base + 2 * suc (j / 2))) (at-odd j odd b)

  at-cell : (r : Repeat) (last : Bool) (j : ℕ) → j < cells_of_repeat r → is_done r last j ≡ true → has_bit old (base + j) ≡ true → Leaves enter base old r last
  at-cell Once last j lt done b = let none : base + j ≡ base + 0 = omega (arith, lt) in ap (has_bit old) (sym none) ∙ b
  at-cell (Consec low high) last j lt done b = let le : low ≤ j + 1 = leb-true low (j + 1) done in (suc j, omega (arith, le), omega (arith, lt), b)
  at-cell (Goto low high) last j lt done b = goto-cell low high j lt done b
  at-cell (NonConsec low high) last j lt done b =
      let both = and_parts (eqb (j % 2) 1 || not last) (leb low ((j + 1) / 2)) done in
      let le : low ≤ (j + 1) / 2 = leb-true low ((j + 1) / 2) both.1 in
      elim (cases_lt (j % 2) 1) [
        | inl lt2 ↦
            let even : j % 2 ≡ 0 = omega (arith, lt2) in
            (j / 2, omega (arith, even, le), omega (arith, even, lt), open-even last j even (sym (ap (λ x. eqb x 1 || not last) even) ∙ both.0) b)
        | inr ge ↦
            let odd : j % 2 ≡ 1 = omega (arith, ge) in
            (suc (j / 2), omega (arith, odd, le), omega (arith, odd, lt), done-odd last j odd b)
      ]

  pub leaves-at : (r : Repeat) (last : Bool) (done : ℕ) → IsMarkedAlone Done base r last done → Common old done → Leaves enter base old r last
  leaves-at r last done alone common =
      let k = common.0 in
      elim (cases_lt k base) [
        | inl lt ↦ absurd (false≢true (sym (alone.below k lt) ∙ common.2))
        | inr ge ↦ elim (cases_lt k (base + cells_of_repeat r)) [
          | inl lt ↦
              let place : k ≡ base + (k - base) = omega (arith, ge) in
              let small : k - base < cells_of_repeat r = omega (arith, lt, ge) in
              at-cell r last (k - base) small (sym (alone.here (k - base) small) ∙ ap (has_bit done) (sym place) ∙ common.2) (ap (has_bit old) (sym place) ∙ common.1)
          | inr far ↦ absurd (false≢true (sym (alone.above k far) ∙ common.2))
        ]
      ]

  pub leaves-skipping : (r : Repeat) (last : Bool) → skips r ≡ true → enter ≡ true → Leaves enter base old r last
  leaves-skipping Once last skip e = absurd (false≢true skip)
  leaves-skipping (Consec low high) last skip e = let none : low ≡ 0 = eqb-true low 0 skip in (0, omega (arith, none), omega arith, e)
  leaves-skipping (Goto low high) last skip e = let none : low ≡ 0 = eqb-true low 0 skip in (0, omega (arith, none), omega arith, e)
  leaves-skipping (NonConsec low high) true skip e = let none : low ≡ 0 = eqb-true low 0 skip in (0, omega (arith, none), omega arith, e)
  leaves-skipping (NonConsec low high) false skip e = let none : low ≡ 0 = eqb-true low 0 skip in (0, omega (arith, none), omega arith, or_left enter (has_bit old (base + 2 * 0)) e)

  -- and back
  module _ (done : ℕ) where
    abbrev pub Left : Repeat → Type 0
    Left r = Common old done ⊎ ((skips r ≡ true) × (enter ≡ true))

    at-left : (r : Repeat) (last : Bool) (low high : ℕ) → IsMarkedAlone Done base r last done → 2 * high ≤ cells_of_repeat r → ((j : ℕ) → j % 2 ≡ 1 → low ≤ (j + 1) / 2 → is_done r last j ≡ true) → (low ≡ 0 → skips r ≡ true) → (m : ℕ) → low ≤ m → m ≤ high → at_bit enter base old m ≡ true → Left r
    at-left r last low high alone size is skip zero lo hi b = inr (skip (omega (arith, lo)), b)
    at-left r last low high alone size is skip (suc m) lo hi b =
        let place : base + 2 * m + 1 ≡ base + (2 * m + 1) = omega arith in
        inl (base + (2 * m + 1), ap (has_bit old) (sym place) ∙ b, alone.here (2 * m + 1) (omega (arith, hi, size)) ∙ is (2 * m + 1) (omega arith) (omega (arith, lo)))

    odd-done : (low : ℕ) (last : Bool) (j : ℕ) → j % 2 ≡ 1 → low ≤ (j + 1) / 2 → ((eqb (j % 2) 1 || not last) && leb low ((j + 1) / 2)) ≡ true
    odd-done low last j odd le = and_from (eqb (j % 2) 1 || not last) (leb low ((j + 1) / 2)) (or_left (eqb (j % 2) 1) (not last) (eq-eqb (j % 2) 1 odd)) (le-leb low ((j + 1) / 2) le)

    pub leaves-left : (r : Repeat) (last : Bool) → IsMarkedAlone Done base r last done → Leaves enter base old r last → Left r
    leaves-left Once last alone b = inl (base + 0, b, alone.here 0 (omega arith))
    leaves-left (Consec low high) last alone (zero, lo, hi, b) = inr (eq-eqb low 0 (omega (arith, lo)), b)
    leaves-left (Consec low high) last alone (suc m, lo, hi, b) = inl (base + m, b, alone.here m (omega (arith, hi)) ∙ le-leb low (m + 1) (omega (arith, lo)))
    leaves-left (Goto low high) last alone (m, lo, hi, b) =
        at-left (Goto low high) last low high alone (omega arith) (λ j odd le. and_from (eqb (j % 2) 1) (leb low ((j + 1) / 2)) (eq-eqb (j % 2) 1 odd) (le-leb low ((j + 1) / 2) le)) (λ none. eq-eqb low 0 none) m lo hi b
    leaves-left (NonConsec low high) true alone (m, lo, hi, b) = at-left (NonConsec low high) true low high alone (omega arith) (odd-done low true) (λ none. eq-eqb low 0 none) m lo hi b
    leaves-left (NonConsec low high) false alone (m, lo, hi, b) = elim (or_cases (at_bit enter base old m) (has_bit old (base + 2 * m)) b) [
      | inl at ↦ at-left (NonConsec low high) false low high alone (omega arith) (odd-done low false) (λ none. eq-eqb low 0 none) m lo hi at
      | inr gap ↦ inl (base + 2 * m, gap, alone.here (2 * m) (omega (arith, hi)) ∙ and_from (eqb (2 * m % 2) 1 || true) (leb low ((2 * m + 1) / 2)) (or_right (eqb (2 * m % 2) 1) true refl) (le-leb low ((2 * m + 1) / 2) (omega (arith, lo))))
    ]
