-- The list that is made greedily is the ranking.
use Rattle.std.proofs.Common.{◌≡◌, ◌⊎◌, ℕ, zero, suc, ◌+◌, ◌<◌, ◌≤◌, List, [], ◌∷◌, ◌++◌, length, map, Bool, true, false, ◌||◌, not, cond, refl, sym, ap, subst, ◌∙◌, inl, inr, arith, true≢false, nat_lt}
use Rattle.std.specs.Prelude.{◌==◌, filter, fold, count_by, Option, Some, None, if◌then◌else◌}
use Rattle.std.specs.List.{range_with_len}
use Rattle.std.specs.Option.{option_map_or}
use Rattle.std.proofs.lemmas.Bool.{cases_lt, ltb-false}
use Rattle.std.proofs.lemmas.Bool.Decides.{nat_tests}
use Rattle.std.proofs.lemmas.List.Sums.{sum_by-cons}
use Rattle.std.proofs.lemmas.List.Folds.{list_any-append}
use Rattle.tally.specs.declared.ranked.Ranked.{Ranked}
use Rattle.rank_report.specs.Ranking.{Test, gain_at, is_taken, IsNext, IsGreedy, IsRanking}
use Rattle.rank_report.specs.Ranking.IsGreedy.{none, then}
use Rattle.rank_report.proofs.OneRanking.{rankings_equal}
use Rattle.cov_history.specs.Ranking.{better, next_row, ranking_after, ranking}
use Rattle.cov_history.specs.Laws.{RankingIs}
use Rattle.cov_history.proofs.Bools.{by_bool, not_true, or_none}

less_or : (i a : ℕ) → i < a + 1 → (i < a) ⊎ (i ≡ a)
less_or i a lt = elim (cases_lt i a) [ inl l ↦ inl l | inr g ↦ inr (omega (arith, lt, g)) ]

zero_is : (n : ℕ) → (n == 0) ≡ true → n ≡ 0
zero_is n e = grind (arith, e, nat_tests)

some_is : (n : ℕ) → (n == 0) ≡ false → 0 < n
some_is n e = grind (arith, e, nat_tests)

less_is : (a b : ℕ) → nat_lt a b ≡ true → a < b
less_is a b e = grind (arith, e, nat_tests)

module _ (gain : ℕ → ℕ) (p : ℕ → Bool) where
  abbrev row : ℕ → Ranked
  row i = record { test = i; gain = gain i }

  -- the best of those below that pass
  record IsBestRow (below : ℕ) (best : Ranked) : Type 0 where
    inside : best.test < below
    left : p best.test ≡ true
    gains : best.gain ≡ gain best.test
    some : 0 < best.gain
    greatest : (i : ℕ) → i < below → p i ≡ true → gain i ≤ best.gain
    earliest : (i : ℕ) → i < best.test → p i ≡ true → gain i < best.gain

  abbrev IsBest : ℕ → Option Ranked → Type 0
  IsBest below None = (i : ℕ) → i < below → p i ≡ true → gain i ≡ 0
  IsBest below (Some best) = IsBestRow below best

  passed_more : (a : ℕ) (best : Option Ranked) → p a ≡ false → IsBest a best → IsBest (a + 1) best
  passed_more a None out h = λ i lt is. elim (less_or i a lt) [ inl l ↦ h i l is | inr e ↦ absurd (true≢false (sym is ∙ ap p e ∙ out)) ]
  passed_more a (Some best) out h = record {
    inside = omega (arith, h.inside);
    left = h.left;
    gains = h.gains;
    some = h.some;
    greatest = λ i lt is. elim (less_or i a lt) [ inl l ↦ h.greatest i l is | inr e ↦ absurd (true≢false (sym is ∙ ap p e ∙ out)) ];
    earliest = h.earliest;
  }

  first_more : (a : ℕ) → p a ≡ true → IsBest a None → (b : Bool) → (gain a == 0) ≡ b → IsBest (a + 1) (if b then None else Some (row a))
  first_more a here h true e = λ i lt is. elim (less_or i a lt) [ inl l ↦ h i l is | inr same ↦ ap gain same ∙ zero_is (gain a) e ]
  first_more a here h false e = record {
    inside = omega arith;
    left = here;
    gains = refl;
    some = some_is (gain a) e;
    greatest = λ i lt is. elim (less_or i a lt) [ inl l ↦ omega (arith, h i l is) | inr same ↦ omega (arith, ap gain same) ];
    earliest = λ i lt is. omega (arith, h i lt is, some_is (gain a) e);
  }

  best_more : (a : ℕ) (best : Ranked) → p a ≡ true → IsBestRow a best → (b : Bool) → nat_lt best.gain (gain a) ≡ b → IsBest (a + 1) (if b then Some (row a) else Some best)
  best_more a best here h true e = let more : best.gain < gain a = less_is best.gain (gain a) e in record {
    inside = omega arith;
    left = here;
    gains = refl;
    some = omega (arith, more);
    greatest = λ i lt is. elim (less_or i a lt) [ inl l ↦ omega (arith, h.greatest i l is, more) | inr same ↦ omega (arith, ap gain same) ];
    earliest = λ i lt is. omega (arith, h.greatest i lt is, more);
  }
  best_more a best here h false e = let least : gain a ≤ best.gain = ltb-false best.gain (gain a) e in record {
    inside = omega (arith, h.inside);
    left = h.left;
    gains = h.gains;
    some = h.some;
    greatest = λ i lt is. elim (less_or i a lt) [ inl l ↦ h.greatest i l is | inr same ↦ omega (arith, ap gain same, least) ];
    earliest = h.earliest;
  }

  better_more : (a : ℕ) (best : Option Ranked) → p a ≡ true → IsBest a best → IsBest (a + 1) (better best (row a))
  better_more a None here h = first_more a here h (gain a == 0) refl
  better_more a (Some best) here h = best_more a best here h (nat_lt best.gain (gain a)) refl

  best_of : (n a : ℕ) (best : Option Ranked) → IsBest a best → IsBest (a + n) (fold better best (map row (filter p (range_with_len a n))))
  best_of zero a best h = let e : a ≡ a + 0 = omega arith in subst (λ (k : ℕ). IsBest k best) e h
  best_of (suc n) a best h =
      let e : (a + 1) + n ≡ a + suc n = omega arith in
      let rest = filter p (range_with_len (a + 1) n) in
      subst (λ (k : ℕ). IsBest k (fold better best (map row (filter p (range_with_len a (suc n)))))) e
      (by_bool (p a)
      (λ hit. let step : filter p (range_with_len a (suc n)) ≡ a ∷ rest = rw hit refl in
      subst (λ (xs : List ℕ). IsBest ((a + 1) + n) (fold better best (map row xs))) (sym step) (best_of n (a + 1) (better best (row a)) (better_more a best hit h)))
      (λ miss. let step : filter p (range_with_len a (suc n)) ≡ rest = rw miss refl in
      subst (λ (xs : List ℕ). IsBest ((a + 1) + n) (fold better best (map row xs))) (sym step) (best_of n (a + 1) best (passed_more a best miss h))))

-- ---- how many are left

module _ (p q : ℕ → Bool) (t : ℕ) (taken : p t ≡ true) (gone : q t ≡ false) (fewer : (i : ℕ) → q i ≡ true → p i ≡ true) where
  count_le : (n a : ℕ) → count_by q (range_with_len a n) ≤ count_by p (range_with_len a n)
  count_le zero a = omega arith
  count_le (suc n) a =
      let c = sum_by-cons (λ (i : ℕ). cond (q i) 1 0) a (range_with_len (a + 1) n) in
      let d = sum_by-cons (λ (i : ℕ). cond (p i) 1 0) a (range_with_len (a + 1) n) in
      let rest = count_le n (a + 1) in
      by_bool (q a)
      (λ k. let one : ◌≡◌ {A = ℕ} (cond (q a) 1 0) 1 = rw k refl in let two : ◌≡◌ {A = ℕ} (cond (p a) 1 0) 1 = rw (fewer a k) refl in omega (arith, c, d, one, two, rest))
      (λ k. let one : ◌≡◌ {A = ℕ} (cond (q a) 1 0) 0 = rw k refl in omega (arith, c, d, one, rest))

  count_less : (n a : ℕ) → a ≤ t → t < a + n → count_by q (range_with_len a n) + 1 ≤ count_by p (range_with_len a n)
  count_less zero a le lt = absurd (omega (arith, le, lt))
  count_less (suc n) a le lt =
      let c = sum_by-cons (λ (i : ℕ). cond (q i) 1 0) a (range_with_len (a + 1) n) in
      let d = sum_by-cons (λ (i : ℕ). cond (p i) 1 0) a (range_with_len (a + 1) n) in
      elim (cases_lt a t) [
        | inl more ↦
            let rest = count_less n (a + 1) (omega (arith, more)) (omega (arith, lt)) in
            by_bool (q a)
            (λ k. let one : ◌≡◌ {A = ℕ} (cond (q a) 1 0) 1 = rw k refl in let two : ◌≡◌ {A = ℕ} (cond (p a) 1 0) 1 = rw (fewer a k) refl in omega (arith, c, d, one, two, rest))
            (λ k. let one : ◌≡◌ {A = ℕ} (cond (q a) 1 0) 0 = rw k refl in omega (arith, c, d, one, rest))
        | inr here ↦
            let same : a ≡ t = omega (arith, le, here) in
            let one : ◌≡◌ {A = ℕ} (cond (q a) 1 0) 0 = rw (ap q same ∙ gone) refl in
            let two : ◌≡◌ {A = ℕ} (cond (p a) 1 0) 1 = rw (ap p same ∙ taken) refl in
            let rest = count_le n (a + 1) in
            omega (arith, c, d, one, two, rest)
      ]

none_left : (p : ℕ → Bool) (n a i : ℕ) → count_by p (range_with_len a n) ≤ 0 → a ≤ i → i < a + n → p i ≡ false
none_left p zero a i few le lt = absurd (omega (arith, le, lt))
none_left p (suc n) a i few le lt =
    let d = sum_by-cons (λ (k : ℕ). cond (p k) 1 0) a (range_with_len (a + 1) n) in
    elim (cases_lt a i) [
      | inl more ↦ none_left p n (a + 1) i (omega (arith, few, d)) (omega (arith, more)) (omega (arith, lt))
      | inr here ↦
          let same : i ≡ a = omega (arith, le, here) in
          ap p same ∙ by_bool (p a) (λ k. let one : ◌≡◌ {A = ℕ} (cond (p a) 1 0) 1 = rw k refl in absurd (omega (arith, few, d, one))) (λ k. k)
    ]

count_all : (p : ℕ → Bool) (n a : ℕ) → count_by p (range_with_len a n) ≤ n
count_all p zero a = omega arith
count_all p (suc n) a =
    let d = sum_by-cons (λ (k : ℕ). cond (p k) 1 0) a (range_with_len (a + 1) n) in
    let rest = count_all p n (a + 1) in
    by_bool (p a)
    (λ k. let one : ◌≡◌ {A = ℕ} (cond (p a) 1 0) 1 = rw k refl in omega (arith, d, one, rest))
    (λ k. let one : ◌≡◌ {A = ℕ} (cond (p a) 1 0) 0 = rw k refl in omega (arith, d, one, rest))

-- ---- the ranking

module _ (tests : List Test) (wanted : List (ℕ × ℕ)) where
  abbrev is_left : List Ranked → ℕ → Bool
  is_left ranked i = not (is_taken ranked i)

  taken_more : (ranked : List Ranked) (row : Ranked) (i : ℕ) → is_taken (ranked ++ row ∷ []) i ≡ (is_taken ranked i || (row.test == i))
  taken_more ranked row i = list_any-append (λ (r : Ranked). r.test == i) ranked (row ∷ []) ∙ ap (λ b. is_taken ranked i || b) (or_off (row.test == i))
    where
      or_off : (b : Bool) → (b || false) ≡ b
      or_off true = refl
      or_off false = refl

  itself : (n : ℕ) → (n == n) ≡ true
  itself n = grind (arith, nat_tests)

  abbrev Finds : List Ranked → Option Ranked → Type 0
  Finds ranked best = IsBest (gain_at tests wanted ranked) (is_left ranked) (length tests) best

  found : (ranked : List Ranked) → Finds ranked (next_row tests wanted ranked)
  found ranked =
      let e : 0 + length tests ≡ length tests = omega arith in
      subst (λ (k : ℕ). IsBest (gain_at tests wanted ranked) (is_left ranked) k (next_row tests wanted ranked)) e
      (best_of (gain_at tests wanted ranked) (is_left ranked) (length tests) 0 None (λ i lt is. absurd (omega (arith, lt))))

  left_is : (ranked : List Ranked) (i : ℕ) → is_taken ranked i ≡ false → is_left ranked i ≡ true
  left_is ranked i e = ap not e

  next_is : (ranked : List Ranked) (row : Ranked) → Finds ranked (Some row) → IsNext tests wanted ranked row
  next_is ranked row f = record {
    inside = f.inside;
    left = not_true (is_taken ranked row.test) f.left;
    gains = f.gains;
    some = f.some;
    greatest = λ i lt e. f.greatest i lt (left_is ranked i e);
    earliest = λ i lt e. f.earliest i lt (left_is ranked i e);
  }

  fewer_left : (ranked : List Ranked) (row : Ranked) → IsNext tests wanted ranked row → (most : ℕ) → count_by (is_left ranked) (range_with_len 0 (length tests)) ≤ suc most
      → count_by (is_left (ranked ++ row ∷ [])) (range_with_len 0 (length tests)) ≤ most
  fewer_left ranked row n most le =
      let t = row.test in
      let gone : is_left (ranked ++ row ∷ []) t ≡ false = ap not (taken_more ranked row t ∙ ap (λ b. is_taken ranked t || b) (itself t) ∙ or_on (is_taken ranked t)) in
      let before : (i : ℕ) → is_left (ranked ++ row ∷ []) i ≡ true → is_left ranked i ≡ true = λ i h. left_is ranked i (or_none (is_taken ranked i) (row.test == i) (sym (taken_more ranked row i) ∙ not_true (is_taken (ranked ++ row ∷ []) i) h)).0 in
      let less = count_less (is_left ranked) (is_left (ranked ++ row ∷ [])) t (left_is ranked t n.left) gone before (length tests) 0 (omega arith) (omega (arith, n.inside)) in
      omega (arith, less, le)
    where
      or_on : (b : Bool) → (b || true) ≡ true
      or_on true = refl
      or_on false = refl

  goes_by : (most : ℕ) (ranked : List Ranked) → IsGreedy tests wanted ranked → (best : Option Ranked) → Finds ranked best
      → ((row : Ranked) → IsNext tests wanted ranked row → IsRanking tests wanted (ranking_after most tests wanted (ranked ++ row ∷ [])))
      → IsRanking tests wanted (option_map_or (λ row. ranking_after most tests wanted (ranked ++ row ∷ [])) best ranked)
  goes_by most ranked g None f go = record { greedy = g; «end» = λ i lt e. f i lt (left_is ranked i e) }
  goes_by most ranked g (Some row) f go = go row (next_is ranked row f)

  goes_on : (most : ℕ) (ranked : List Ranked) → IsGreedy tests wanted ranked → count_by (is_left ranked) (range_with_len 0 (length tests)) ≤ most → IsRanking tests wanted (ranking_after most tests wanted ranked)
  goes_on zero ranked g le = record {
    greedy = g;
    «end» = λ i lt e. absurd (true≢false (sym (left_is ranked i e) ∙ none_left (is_left ranked) (length tests) 0 i le (omega arith) (omega (arith, lt))));
  }
  goes_on (suc most) ranked g le = goes_by most ranked g (next_row tests wanted ranked) (found ranked) (λ row n. goes_on most (ranked ++ row ∷ []) ((then) g n) (fewer_left ranked row n most le))

ranking_greedy : (tests : List Test) (wanted : List (ℕ × ℕ)) → IsRanking tests wanted (ranking tests wanted)
unfolding ranking
ranking_greedy tests wanted = goes_on tests wanted (length tests) [] none (count_all (is_left tests wanted []) (length tests) 0)

pub ranking_is : RankingIs
ranking_is tests wanted = record { is = ranking_greedy tests wanted; only = λ ranked r. rankings_equal tests wanted ranked (ranking tests wanted) r (ranking_greedy tests wanted) }
