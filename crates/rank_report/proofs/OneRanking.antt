-- Two rankings of the same tests and wanted hits are one.
use Rattle.std.proofs.Common.{◌≡◌, ℕ, zero, suc, ◌+◌, ◌<◌, ◌≤◌, List, [], ◌∷◌, ◌++◌, length, get_or, take, refl, sym, ◌∙◌, arith, inl, inr}
use Rattle.std.proofs.lemmas.List.{take-append-le, take_all, take_more_same, length-append}
use Rattle.std.proofs.Math.ListN.{get_or-append}
use Rattle.std.proofs.Math.Seq.{get_or-append_seam}
use Rattle.std.proofs.lemmas.Bool.{cases_lt}
use Rattle.tally.specs.declared.ranked.Ranked.{Ranked}
use Rattle.rank_report.specs.Ranking.{Test, IsNext, IsGreedy, none, then, IsRanking}
use Rattle.rank_report.specs.Laws.{OneRanking}

module _ (tests : List Test) (wanted : List (ℕ × ℕ)) where
  next_is_one : (ranked : List Ranked) (a b : Ranked) → IsNext tests wanted ranked a → IsNext tests wanted ranked b → a ≡ b
  next_is_one ranked a b p q =
      let high = p.greatest b.test q.inside q.left in
      let low = q.greatest a.test p.inside p.left in
      let gains : a.gain ≡ b.gain = omega (arith, p.gains, q.gains, high, low) in
      let one : a.test ≡ b.test = elim (cases_lt a.test b.test) [
        | inl before ↦ let less = q.earliest a.test before p.left in absurd (omega (arith, less, p.gains, gains))
        | inr after ↦ elim (cases_lt b.test a.test) [
          | inl before ↦ let less = p.earliest b.test before q.left in absurd (omega (arith, less, q.gains, gains))
          | inr same ↦ omega arith
        ]
      ] in
      λ i. record { test = one i; gain = gains i }

  -- each row is next after those before it
  next_at : (rows : List Ranked) → IsGreedy tests wanted rows → (i : ℕ) (d : Ranked) → i < length rows → IsNext tests wanted (take i rows) (get_or rows i d)
  next_at rows none i d lt = absurd (omega arith)
  next_at rows (then {ranked} {row} greedy next) i d lt = elim (cases_lt i (length ranked)) [
    | inl before ↦
        let front : take i (ranked ++ row ∷ []) ≡ take i ranked = take-append-le i ranked (row ∷ []) (omega arith) in
        let here : get_or (ranked ++ row ∷ []) i d ≡ get_or ranked i d = get_or-append ranked (row ∷ []) d i before in
        rw (front, here) (next_at ranked greedy i d before)
    | inr after ↦ let at : i ≡ length ranked = omega (arith, length-append ranked (row ∷ [])) in last_at ranked row i d at next
  ]
    where
      last_at : (ranked : List Ranked) (row : Ranked) (i : ℕ) (d : Ranked) → i ≡ length ranked → IsNext tests wanted ranked row → IsNext tests wanted (take i (ranked ++ row ∷ [])) (get_or (ranked ++ row ∷ []) i d)
      last_at ranked row i d at next =
          let front : take (length ranked) (ranked ++ row ∷ []) ≡ ranked = take-append-le (length ranked) ranked (row ∷ []) (omega arith) ∙ take_all (length ranked) ranked (omega arith) in
          rw (at, front, get_or-append_seam ranked row [] d) next

  row_or : Ranked
  row_or = record { test = 0; gain = 0 }

  same_front : (a b : List Ranked) → IsGreedy tests wanted a → IsGreedy tests wanted b → (n : ℕ) → n ≤ length a → n ≤ length b → take n a ≡ take n b
  same_front a b p q zero la lb = refl
  same_front a b p q (suc n) la lb =
      let fronts : take n a ≡ take n b = same_front a b p q n (omega arith) (omega arith) in
      let mine : IsNext tests wanted (take n a) (get_or a n row_or) = next_at a p n row_or (omega arith) in
      let other : IsNext tests wanted (take n a) (get_or b n row_or) = rw fronts (next_at b q n row_or (omega arith)) in
      let rows : get_or a n row_or ≡ get_or b n row_or = next_is_one (take n a) (get_or a n row_or) (get_or b n row_or) mine other in
      let one : suc n ≡ n + 1 = omega arith in
      rw one (take_more_same a b n row_or (omega arith) (omega arith) fronts rows)

  -- a ranking is no shorter than another
  no_shorter : (a b : List Ranked) → IsRanking tests wanted a → IsRanking tests wanted b → length b ≤ length a
  no_shorter a b p q = elim (cases_lt (length a) (length b)) [
    | inl shorter ↦
        let row = get_or b (length a) row_or in
        let front : take (length a) b ≡ a = sym (same_front a b p.greedy q.greedy (length a) (omega arith) (omega arith)) ∙ take_all (length a) a (omega arith) in
        let next : IsNext tests wanted a row = rw front at (next_at b q.greedy (length a) row_or shorter) in
        let end = p.end row.test next.inside next.left in
        absurd (omega (arith, end, next.gains, next.some))
    | inr long ↦ long
  ]

pub rankings_equal : OneRanking
rankings_equal tests wanted a b p q =
    let low = no_shorter tests wanted a b p q in
    let high = no_shorter tests wanted b a q p in
    sym (take_all (length a) a (omega arith)) ∙ (same_front tests wanted a b p.greedy q.greedy (length a) (omega arith) (omega arith) ∙ take_all (length a) b (omega arith))
