-- Going once through ascending rows and ascending wanted pairs.
use Rattle.std.proofs.Common.{◌≡◌, ℕ, zero, suc, ◌+◌, ◌-◌, ◌<◌, ◌≤◌, min, List, [], ◌∷◌, ◌++◌, length, get_or, drop, cond, eqb, refl, sym, ap, ◌∙◌, arith, append_assoc}
use Rattle.std.proofs.lemmas.List.{drop_more, get_or-drop, length-drop}
use Rattle.std.proofs.lemmas.Bool.{eq-eqb, ne_eqb}
use Rattle.tally.specs.Rows.{count_in, IsAscendingFrom}
use Rattle.rank_report.specs.Ranking.{Test}
use Rattle.rank_report.specs.Steps.{hits_from, bin_at}

none_before : (rows : Test) (low bin : ℕ) → bin < low → IsAscendingFrom low rows → count_in rows bin ≡ 0
none_before [] low bin lt a = refl
none_before (row ∷ rows) low bin lt a = rw (ne_eqb row.0 bin (λ e. absurd (omega (arith, a.0)))) (none_before rows (row.0 + 1) bin (omega (arith, a.0)) a.2)

-- the hits from an index on, by those from the next on
pub hits_more : (test : Test) (wanted : List (ℕ × ℕ)) (i count : ℕ) → i < length wanted → count_in test (bin_at wanted i) ≡ count
    → hits_from i test (drop i wanted)
    ≡ cond (eqb (min (get_or wanted i (0, 0)).1 count) 0) (hits_from (i + 1) test (drop (i + 1) wanted)) ((i, min (get_or wanted i (0, 0)).1 count) ∷ hits_from (i + 1) test (drop (i + 1) wanted))
hits_more test wanted i count lt is = ap (hits_from i test) (drop_more wanted i (0, 0) lt) ∙ rw is refl

-- pairs that the test doesn't hit
pub skipped : (test : Test) (wanted : List (ℕ × ℕ)) (n from to : ℕ) → from + n ≡ to → to ≤ length wanted → ((k : ℕ) → from ≤ k → k < to → count_in test (bin_at wanted k) ≡ 0)
    → hits_from from test (drop from wanted) ≡ hits_from to test (drop to wanted)
skipped test wanted zero from to e le none = let same : from ≡ to = omega arith in rw same refl
skipped test wanted (suc n) from to e le none =
    let no : min (get_or wanted from (0, 0)).1 0 ≡ 0 = omega arith in
    hits_more test wanted from 0 (omega arith) (none from (omega arith) (omega arith))
    ∙ (rw (eq-eqb (min (get_or wanted from (0, 0)).1 0) 0 no) refl
    ∙ skipped test wanted n (from + 1) to (omega arith) le (λ k low high. none k (omega arith) high))

-- pairs before those of the row's bin
pub before_row : (row : ℕ × ℕ) (rest : Test) (wanted : List (ℕ × ℕ)) (from to : ℕ) → IsAscendingFrom 0 (row ∷ rest) → from ≤ to → to ≤ length wanted → ((k : ℕ) → from ≤ k → k < to → bin_at wanted k < row.0)
    → hits_from from (row ∷ rest) (drop from wanted) ≡ hits_from to (row ∷ rest) (drop to wanted)
before_row row rest wanted from to a le inside below =
    let low : IsAscendingFrom row.0 (row ∷ rest) = (omega arith, a.1, a.2) in
    skipped (row ∷ rest) wanted (to - from) from to (omega arith) inside (λ k high lt. none_before (row ∷ rest) row.0 (bin_at wanted k) (below k high lt) low)

-- a row whose bin no later pair has
past_row : (row : ℕ × ℕ) (rest : Test) (i : ℕ) (pairs : List (ℕ × ℕ)) → ((k : ℕ) → k < length pairs → row.0 < bin_at pairs k) → hits_from i (row ∷ rest) pairs ≡ hits_from i rest pairs
past_row row rest i [] above = refl
past_row row rest i (pair ∷ pairs) above =
    let here : row.0 < pair.0 = above 0 (omega arith) in
    rw (ne_eqb row.0 pair.0 (λ e. absurd (omega (arith, here))))
    (ap (λ (hits : List (ℕ × ℕ)). cond (eqb (min pair.1 (count_in rest pair.0)) 0) hits ((i, min pair.1 (count_in rest pair.0)) ∷ hits)) (past_row row rest (i + 1) pairs (λ k lt. above (suc k) (omega arith))))

pub behind_row : (row : ℕ × ℕ) (rest : Test) (i : ℕ) (wanted : List (ℕ × ℕ)) → ((k : ℕ) → i ≤ k → k < length wanted → row.0 < bin_at wanted k) → hits_from i (row ∷ rest) (drop i wanted) ≡ hits_from i rest (drop i wanted)
behind_row row rest i wanted above = past_row row rest i (drop i wanted) (λ k lt.
    let same : bin_at (drop i wanted) k ≡ bin_at wanted (i + k) = ap (λ (pair : ℕ × ℕ). pair.0) (get_or-drop i wanted k (0, 0)) in
    let up = above (i + k) (omega arith) (omega (arith, length-drop i wanted)) in
    omega (arith, same, up))

-- no row is left
pub no_rows : (i : ℕ) (pairs : List (ℕ × ℕ)) → hits_from i [] pairs ≡ []
no_rows i [] = refl
no_rows i (pair ∷ pairs) = let no : min pair.1 0 ≡ 0 = omega arith in rw (eq-eqb (min pair.1 0) 0 no) (no_rows (i + 1) pairs)

-- the row's hits of one pair, if any
module _ (hits more : List (ℕ × ℕ)) (bin count : ℕ) (rest : Test) (wanted : List (ℕ × ℕ)) (i : ℕ) (lt : i < length wanted) (is : bin_at wanted i ≡ bin) where
  here : hits_from i ((bin, count) ∷ rest) (drop i wanted)
      ≡ cond (eqb (min (get_or wanted i (0, 0)).1 count) 0) (hits_from (i + 1) ((bin, count) ∷ rest) (drop (i + 1) wanted)) ((i, min (get_or wanted i (0, 0)).1 count) ∷ hits_from (i + 1) ((bin, count) ∷ rest) (drop (i + 1) wanted))
  here = hits_more ((bin, count) ∷ rest) wanted i count lt (rw (eq-eqb bin (bin_at wanted i) (sym is)) refl)

  pub pair_hit : 0 < min (get_or wanted i (0, 0)).1 count → more ≡ hits ++ (i, min (get_or wanted i (0, 0)).1 count) ∷ []
      → more ++ hits_from (i + 1) ((bin, count) ∷ rest) (drop (i + 1) wanted) ≡ hits ++ hits_from i ((bin, count) ∷ rest) (drop i wanted)
  pair_hit some e =
      ap (λ (l : List (ℕ × ℕ)). l ++ hits_from (i + 1) ((bin, count) ∷ rest) (drop (i + 1) wanted)) e
      ∙ (append_assoc hits ((i, min (get_or wanted i (0, 0)).1 count) ∷ []) (hits_from (i + 1) ((bin, count) ∷ rest) (drop (i + 1) wanted))
      ∙ ap (λ (l : List (ℕ × ℕ)). hits ++ l) (sym (here ∙ rw (ne_eqb (min (get_or wanted i (0, 0)).1 count) 0 (λ z. absurd (omega arith))) refl)))

  pub pair_missed : min (get_or wanted i (0, 0)).1 count ≡ 0 → more ≡ hits
      → more ++ hits_from (i + 1) ((bin, count) ∷ rest) (drop (i + 1) wanted) ≡ hits ++ hits_from i ((bin, count) ∷ rest) (drop i wanted)
  pair_missed missed e =
      ap (λ (l : List (ℕ × ℕ)). l ++ hits_from (i + 1) ((bin, count) ∷ rest) (drop (i + 1) wanted)) e
      ∙ ap (λ (l : List (ℕ × ℕ)). hits ++ l) (sym (here ∙ rw (eq-eqb (min (get_or wanted i (0, 0)).1 count) 0 missed) refl))
