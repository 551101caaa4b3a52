-- One sample on all cells at once is one sample on the cells of each item.
use Rattle.std.proofs.Common.{◌≡◌, ℕ, ◌+◌, ◌*◌, ◌%◌, ◌<◌, ◌≤◌, ◌&&◌, ◌||◌, not, Bool, true, false, ap, ◌∙◌, refl, arith, inl, inr, zero, suc, List, [], ◌∷◌, Option}
use Rattle.std.specs.Prelude.{ℤ, eqb}
use Rattle.std.proofs.lemmas.Bool.{cases_lt, eq-eqb, ne_eqb}
use Rattle.std.proofs.Math.Bool.{and-true, and-false, or-false}
use Rattle.trans_seq.specs.declared.seq.Item.{Item}
use Rattle.trans_seq.specs.declared.seq.Seq.{Seq}
use Rattle.trans_seq.specs.declared.seq.Repeat.{Repeat}
use Rattle.trans_seq.specs.declared.seq.Repeat.TheVariants.{Once, Consec, Goto, NonConsec}
use Rattle.trans_seq.specs.Windows.{is_end, is_known_in}
use Rattle.trans_seq.specs.Cells.{cells_of_repeat, cells_of_items, cells_of_seqs}
use Rattle.trans_auto.specs.declared.marks.Mark.TheVariants.{Later, Run, Gap, End}
use Rattle.trans_auto.specs.declared.steps.Masks.{Masks}
use Rattle.trans_auto.specs.Masks.{has_bit}
use Rattle.trans_auto.specs.Steps.{run_bit, at_bit, from_bit, BlocksStep, RepeatSteps, ItemsStep, SeqsStep}
use Rattle.trans_auto.specs.Layout.{IsMarked, ItemsMarked, SeqsMarked, ItemsInside, SeqsInside, ItemsEnter, SeqsEnter, bit_before, stands_before, open_before, moved_bit}
use Rattle.trans_auto.proofs.Adding.{Cells}

-- the three parts of a moved bit, by what the cell is
run-rest : (s o i x : Bool) → (s && true && i || o && false && i || (x && false) && not i) ≡ (i && s)
run-rest true true true true = refl
run-rest true true true false = refl
run-rest true true false true = refl
run-rest true true false false = refl
run-rest true false true true = refl
run-rest true false true false = refl
run-rest true false false true = refl
run-rest true false false false = refl
run-rest false true true true = refl
run-rest false true true false = refl
run-rest false true false true = refl
run-rest false true false false = refl
run-rest false false true true = refl
run-rest false false true false = refl
run-rest false false false true = refl
run-rest false false false false = refl

gap-rest : (s o i x : Bool) → (s && false && i || o && false && i || (x && true) && not i) ≡ (not i && x)
gap-rest true true true true = refl
gap-rest true true true false = refl
gap-rest true true false true = refl
gap-rest true true false false = refl
gap-rest true false true true = refl
gap-rest true false true false = refl
gap-rest true false false true = refl
gap-rest true false false false = refl
gap-rest false true true true = refl
gap-rest false true true false = refl
gap-rest false true false true = refl
gap-rest false true false false = refl
gap-rest false false true true = refl
gap-rest false false true false = refl
gap-rest false false false true = refl
gap-rest false false false false = refl

end-rest : (s o i x : Bool) → (s && false && i || o && true && i || (x && false) && not i) ≡ (i && o)
end-rest true true true true = refl
end-rest true true true false = refl
end-rest true true false true = refl
end-rest true true false false = refl
end-rest true false true true = refl
end-rest true false true false = refl
end-rest true false false true = refl
end-rest true false false false = refl
end-rest false true true true = refl
end-rest false true true false = refl
end-rest false true false true = refl
end-rest false true false false = refl
end-rest false false true true = refl
end-rest false false true false = refl
end-rest false false false true = refl
end-rest false false false false = refl

no-rest : (s o i x : Bool) → (s && false && i || o && false && i || (x && false) && not i) ≡ false
no-rest true true true true = refl
no-rest true true true false = refl
no-rest true true false true = refl
no-rest true true false false = refl
no-rest true false true true = refl
no-rest true false true false = refl
no-rest true false false true = refl
no-rest true false false false = refl
no-rest false true true true = refl
no-rest false true true false = refl
no-rest false true false true = refl
no-rest false true false false = refl
no-rest false false true true = refl
no-rest false false true false = refl
no-rest false false false true = refl
no-rest false false false false = refl

part : (s o i x r e g r' e' g' : Bool) → r ≡ r' → e ≡ e' → g ≡ g' → (s && r && i || o && e && i || (x && g) && not i) ≡ (s && r' && i || o && e' && i || (x && g') && not i)
part s o i x r e g r' e' g' rs es gs =
    ap (λ r. s && r && i || o && e && i || (x && g) && not i) rs
    ∙ ap (λ e. s && r' && i || o && e && i || (x && g) && not i) es
    ∙ ap (λ g. s && r' && i || o && e' && i || (x && g) && not i) gs

module _ (masks : Masks) (inside enters old new : ℕ) (bits : (k : ℕ) → k < 128 → has_bit new k ≡ moved_bit masks inside enters old k) where
  abbrev stands : ℕ → Bool
  stands = stands_before masks inside enters old

  parts : (k : ℕ) (r e g : Bool) → k < 128 → has_bit masks.runs k ≡ r → has_bit masks.ends k ≡ e → has_bit masks.gaps k ≡ g
      → has_bit new k ≡ (stands k && r && has_bit inside k || open_before masks inside enters old k && e && has_bit inside k || ((stands k || has_bit old k) && g) && not (has_bit inside k))
  parts k r e g lt rs es gs = bits k lt ∙ part (stands k) (open_before masks inside enters old k) (has_bit inside k) (stands k || has_bit old k) (has_bit masks.runs k) (has_bit masks.ends k) (has_bit masks.gaps k) r e g rs es gs

  module _ (enter i : Bool) (base n : ℕ) (fits : base + n ≤ 128) (later : Cells base n (λ k. not (eqb k 0)) masks.later) (within : Cells base n (λ k. i) inside) (begins : Cells base n (λ k. enter && eqb k 0) enters) where
    stands-run : (m : ℕ) → m < n → stands (base + m) ≡ run_bit enter base old m
    stands-run zero lt =
        ap (λ b. b || bit_before old (base + 0) && has_bit masks.later (base + 0)) (begins 0 lt ∙ and-true enter)
        ∙ ap (λ b. enter || bit_before old (base + 0) && b) (later 0 lt) ∙ ap (λ b. enter || b) (and-false (bit_before old (base + 0))) ∙ or-false enter
    stands-run (suc m) lt =
        let up : base + suc m ≡ suc (base + m) = omega arith in
        let none : eqb (suc m) 0 ≡ false = ne_eqb (suc m) 0 (λ e. omega (arith, e)) in
        ap (λ b. b || bit_before old (base + suc m) && has_bit masks.later (base + suc m)) (begins (suc m) lt ∙ ap (λ b. enter && b) none ∙ and-false enter)
        ∙ ap (λ b. bit_before old (base + suc m) && b) (later (suc m) lt ∙ ap not none) ∙ and-true (bit_before old (base + suc m)) ∙ ap (bit_before old) up

    stands-at : (m : ℕ) → 2 * m < n → stands (base + 2 * m) ≡ at_bit enter base old m
    stands-at zero lt = stands-run 0 lt
    stands-at (suc m) lt =
        let up : 2 * suc m ≡ suc (2 * m + 1) = omega arith in
        let place : base + (2 * m + 1) ≡ base + 2 * m + 1 = omega arith in
        ap (λ k. stands (base + k)) up ∙ stands-run (suc (2 * m + 1)) (omega (arith, lt)) ∙ ap (has_bit old) place

    runs-moved : Cells base n (λ k. true) masks.runs → Cells base n (λ k. false) masks.gaps → Cells base n (λ k. false) masks.ends → (m : ℕ) → m < n → has_bit new (base + m) ≡ (i && run_bit enter base old m)
    runs-moved runs gaps ends m lt =
        let k = base + m in
        parts k true false false (omega (arith, fits, lt)) (runs m lt) (ends m lt) (gaps m lt)
        ∙ run-rest (stands k) (open_before masks inside enters old k) (has_bit inside k) (stands k || has_bit old k)
        ∙ ap (λ b. b && stands k) (within m lt) ∙ ap (λ b. i && b) (stands-run m lt)

    module _ (high gaps : ℕ) (size : high + gaps ≡ n) (least : high ≤ gaps) (most : gaps ≤ high + 1) (no-run : Cells base n (λ k. false) masks.runs) (gap : Cells base n (λ k. eqb (k % 2) 0) masks.gaps) (end : Cells base n (λ k. eqb (k % 2) 1) masks.ends) where
      open-from : (m : ℕ) → 2 * m < n → (stands (base + 2 * m) || has_bit old (base + 2 * m)) ≡ from_bit enter base old m
      open-from m lt = ap (λ b. b || has_bit old (base + 2 * m)) (stands-at m lt)

      gap-moved : (m : ℕ) → 2 * m < n → has_bit new (base + 2 * m) ≡ (not i && from_bit enter base old m)
      gap-moved m lt =
          let k = base + 2 * m in
          parts k false false true (omega (arith, fits, lt)) (no-run (2 * m) lt) (end (2 * m) lt ∙ ne_eqb (2 * m % 2) 1 (λ e. omega (arith, e))) (gap (2 * m) lt ∙ eq-eqb (2 * m % 2) 0 (omega arith))
          ∙ gap-rest (stands k) (open_before masks inside enters old k) (has_bit inside k) (stands k || has_bit old k)
          ∙ ap (λ b. not b && (stands k || has_bit old k)) (within (2 * m) lt) ∙ ap (λ b. not i && b) (open-from m lt)

      end-moved : (m : ℕ) → 2 * m + 1 < n → has_bit new (base + (2 * m + 1)) ≡ (i && from_bit enter base old m)
      end-moved m lt =
          let k = base + (2 * m + 1) in
          let j = base + 2 * m in
          let less : 2 * m < n = omega (arith, lt) in
          let up : base + (2 * m + 1) ≡ suc (base + 2 * m) = omega arith in
          parts k false true false (omega (arith, fits, lt)) (no-run (2 * m + 1) lt) (end (2 * m + 1) lt ∙ eq-eqb ((2 * m + 1) % 2) 1 (omega arith)) (gap (2 * m + 1) lt ∙ ne_eqb ((2 * m + 1) % 2) 0 (λ e. omega (arith, e)))
          ∙ end-rest (stands k) (open_before masks inside enters old k) (has_bit inside k) (stands k || has_bit old k)
          ∙ ap (λ b. b && open_before masks inside enters old k) (within (2 * m + 1) lt)
          ∙ ap (λ b. i && open_before masks inside enters old b) up
          ∙ ap (λ b. i && ((stands j || has_bit old j) && b)) (gap (2 * m) less ∙ eq-eqb (2 * m % 2) 0 (omega arith))
          ∙ ap (λ b. i && b) (and-true (stands j || has_bit old j)) ∙ ap (λ b. i && b) (open-from m less)

      blocks-moved : BlocksStep enter base old i new high gaps
      blocks-moved = record {
        at = λ m h. let place : base + 2 * m + 1 ≡ base + (2 * m + 1) = omega arith in ap (has_bit new) place ∙ end-moved m (omega (arith, h, size, least));
        after = λ m h. gap-moved m (omega (arith, h, size, most));
      }

  repeat-moved : (enter i : Bool) (base : ℕ) (r : Repeat) (last : Bool) → base + cells_of_repeat r ≤ 128
      → IsMarked Run base r last masks.runs → IsMarked Gap base r last masks.gaps → IsMarked End base r last masks.ends → IsMarked Later base r last masks.later
      → Cells base (cells_of_repeat r) (λ k. i) inside → Cells base (cells_of_repeat r) (λ k. enter && eqb k 0) enters
      → RepeatSteps enter base old i new r
  repeat-moved enter i base Once last fits runs gaps ends later within begins = runs-moved enter i base 1 fits later within begins runs gaps ends
  repeat-moved enter i base (Consec low high) last fits runs gaps ends later within begins = runs-moved enter i base high fits later within begins runs gaps ends
  repeat-moved enter i base (Goto low high) last fits runs gaps ends later within begins = blocks-moved enter i base (2 * high) fits later within begins high high (omega arith) (omega arith) (omega arith) runs gaps ends
  repeat-moved enter i base (NonConsec low high) last fits runs gaps ends later within begins = blocks-moved enter i base (2 * high + 1) fits later within begins high (high + 1) (omega arith) (omega arith) (omega arith) runs gaps ends

  items-moved : (enter : Bool) (base : ℕ) (v : Option ℤ) (items : List Item) → base + cells_of_items items ≤ 128
      → ItemsMarked Run base masks.runs items → ItemsMarked Gap base masks.gaps items → ItemsMarked End base masks.ends items → ItemsMarked Later base masks.later items
      → ItemsInside base inside v items → ItemsEnter enter base old enters items
      → ItemsStep enter base old new v items
  items-moved enter base v [] fits runs gaps ends later within begins = tt
  items-moved enter base v (item ∷ items) fits runs gaps ends later within begins =
      let n = cells_of_repeat item.repeat in (
        repeat-moved enter (is_known_in item.set v) base item.repeat (is_end items) (omega (arith, fits)) runs.0 gaps.0 ends.0 later.0 within.0 begins.0,
        begins.1,
        begins.2,
        items-moved begins.1 (base + n) v items (omega (arith, fits)) runs.1 gaps.1 ends.1 later.1 within.1 begins.3,
      )

  module _ (far : (k : ℕ) → 128 ≤ k → has_bit new k ≡ false) where
    pub seqs-moved : (fresh : Bool) (base : ℕ) (v : Option ℤ) (seqs : List Seq) → base + cells_of_seqs seqs ≤ 128
        → SeqsMarked Run base masks.runs seqs → SeqsMarked Gap base masks.gaps seqs → SeqsMarked End base masks.ends seqs → SeqsMarked Later base masks.later seqs
        → SeqsInside base inside v seqs → SeqsEnter fresh base old enters seqs
        → SeqsStep fresh base old new v seqs
    seqs-moved fresh base v [] fits runs gaps ends later within begins = λ k le. elim (cases_lt k 128) [
      | inl lt ↦ parts k false false false lt (runs k le) (ends k le) (gaps k le) ∙ no-rest (stands k) (open_before masks inside enters old k) (has_bit inside k) (stands k || has_bit old k)
      | inr ge ↦ far k ge
    ]
    seqs-moved fresh base v (seq ∷ seqs) fits runs gaps ends later within begins = (
      items-moved fresh base v seq.items (omega (arith, fits)) runs.0 gaps.0 ends.0 later.0 within.0 begins.0,
      seqs-moved fresh (base + cells_of_items seq.items) v seqs (omega (arith, fits)) runs.1 gaps.1 ends.1 later.1 within.1 begins.1,
    )
