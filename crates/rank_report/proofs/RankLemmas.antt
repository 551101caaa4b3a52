-- From a row of a ranking to the next.
use Rattle.std.proofs.Common.{◌≡◌, ℕ, zero, suc, ◌+◌, ◌-◌, ◌<◌, min, List, [], ◌∷◌, ◌++◌, length, get_or, set, take, drop, refl, sym, ap, subst, ◌∙◌, arith, inl, inr, Bool, true, false}
use Rattle.std.specs.Prelude.{map, slice_index, slice_index_or, replicate, ◌||◌, ◌==◌}
use Rattle.std.specs.List.{sum_by}
use Rattle.std.proofs.lemmas.List.{map-append, length-map, get_or-map, get_or-set_same, get_or-set_other, take-append-le, take_all}
use Rattle.std.proofs.lemmas.List.Sums.{sum_by-cons, sum_by-append}
use Rattle.std.proofs.lemmas.List.Folds.{list_any-append}
use Rattle.std.proofs.lemmas.Bool.{cases_eq, eq-eqb, ne_eqb}
use Rattle.tally.specs.Rows.{count_in}
use Rattle.tally.specs.declared.ranked.Ranked.{Ranked}
use Rattle.rank_report.specs.Ranking.{Test, total, worth, test_at, tests_of, is_taken, gain_at, IsNext, IsGreedy, none, then, IsRanking}
use Rattle.rank_report.specs.Steps.{added, less, open_gain, IsBestRow}
use Rattle.rank_report.proofs.Greatest.{open_here, taken_here}

-- what is missing of the wanted hits after the tests
abbrev pub missing_of : List (ℕ × ℕ) → List Test → List (ℕ × ℕ)
missing_of wanted tests = map (λ (pair : ℕ × ℕ). (pair.0, pair.1 - total tests pair.0)) wanted

total_more : (tests : List Test) (test : Test) (bin : ℕ) → total (tests ++ (test ∷ [])) bin ≡ total tests bin + count_in test bin
total_more tests test bin = omega (arith, sum_by-append (λ (test : Test). count_in test bin) tests (test ∷ []))

pub raised : (wanted : List (ℕ × ℕ)) (tests : List Test) (test : Test) → worth wanted (tests ++ (test ∷ [])) ≡ worth wanted tests + added test (missing_of wanted tests)
raised [] tests test = refl
raised (pair ∷ wanted) tests test =
    let here : min pair.1 (total (tests ++ (test ∷ [])) pair.0) ≡ min pair.1 (total tests pair.0) + min (pair.1 - total tests pair.0) (count_in test pair.0) = ap (min pair.1) (total_more tests test pair.0) ∙ parted pair.1 (total tests pair.0) (count_in test pair.0) in
    let rest = raised wanted tests test in
    let a = sum_by-cons (λ (pair : ℕ × ℕ). min pair.1 (total (tests ++ (test ∷ [])) pair.0)) pair wanted in
    let b = sum_by-cons (λ (pair : ℕ × ℕ). min pair.1 (total tests pair.0)) pair wanted in
    let c = sum_by-cons (λ (pair : ℕ × ℕ). min pair.1 (count_in test pair.0)) (pair.0, pair.1 - total tests pair.0) (missing_of wanted tests) in
    omega (arith, here, rest, a, b, c)
  where
    parted : (a s c : ℕ) → min a (s + c) ≡ min a s + min (a - s) c
    parted a s c = omega arith

-- what was missing is met or still missing
pub shrinks : (test : Test) (missing : List (ℕ × ℕ)) → sum_by (λ (pair : ℕ × ℕ). pair.1) (less test missing) + added test missing ≡ sum_by (λ (pair : ℕ × ℕ). pair.1) missing
shrinks test [] = refl
shrinks test (pair ∷ missing) =
    let rest = shrinks test missing in
    let a = sum_by-cons (λ (pair : ℕ × ℕ). pair.1) (pair.0, pair.1 - count_in test pair.0) (less test missing) in
    let b = sum_by-cons (λ (pair : ℕ × ℕ). min pair.1 (count_in test pair.0)) pair missing in
    let c = sum_by-cons (λ (pair : ℕ × ℕ). pair.1) pair missing in
    omega (arith, rest, a, b, c)

pub less_missing : (wanted : List (ℕ × ℕ)) (tests : List Test) (test : Test) → less test (missing_of wanted tests) ≡ missing_of wanted (tests ++ (test ∷ []))
less_missing [] tests test = refl
less_missing (pair ∷ wanted) tests test = joined (omega (arith, total_more tests test pair.0)) (less_missing wanted tests test)
  where
    joined : {n m : ℕ} {xs ys : List (ℕ × ℕ)} → n ≡ m → xs ≡ ys → (pair.0, n) ∷ xs ≡ (pair.0, m) ∷ ys
    joined {n} {m} {xs} {ys} e f = rw (e, f) refl

missing_first : (wanted : List (ℕ × ℕ)) → wanted ≡ missing_of wanted []
missing_first [] = refl
missing_first (pair ∷ wanted) = joined (omega arith) (missing_first wanted)
  where
    joined : {n : ℕ} {xs ys : List (ℕ × ℕ)} → pair.1 ≡ n → xs ≡ ys → pair ∷ xs ≡ (pair.0, n) ∷ ys
    joined {n} {xs} {ys} e f = rw (← e, f) refl

-- ---- what the loop keeps

pub record Reached (tests : List Test) (wanted : List (ℕ × ℕ)) (ranked : List Ranked) (missing : List (ℕ × ℕ)) (taken : List Bool) : Type 0 where
  pub greedy : IsGreedy tests wanted ranked
  pub lacks : missing ≡ missing_of wanted (tests_of tests ranked)
  pub marks : (index : ℕ) → index < length tests → slice_index_or taken index false ≡ is_taken ranked index

module _ (tests : List Test) (wanted : List (ℕ × ℕ)) (ranked : List Ranked) (missing : List (ℕ × ℕ)) (taken : List Bool) (r : Reached tests wanted ranked missing taken) where
  gain_is : (index : ℕ) → index < length tests → slice_index (map (λ test. added test missing) tests) index ≡ gain_at tests wanted ranked index
  gain_is index lt =
      let a : slice_index (map (λ test. added test missing) tests) index ≡ added (test_at tests index) missing = get_or-map (λ test. added test missing) tests index [] 0 lt in
      let b = raised wanted (tests_of tests ranked) (test_at tests index) in
      let c : added (test_at tests index) missing ≡ added (test_at tests index) (missing_of wanted (tests_of tests ranked)) = ap (added (test_at tests index)) r.lacks in
      omega (arith, a, b, c)

  open_is : (index : ℕ) → index < length tests → is_taken ranked index ≡ false → open_gain (map (λ test. added test missing) tests) taken index ≡ gain_at tests wanted ranked index
  open_is index lt free = open_here (map (λ test. added test missing) tests) taken index (r.marks index lt ∙ free) ∙ gain_is index lt

  open_zero : (index : ℕ) → index < length tests → is_taken ranked index ≡ true → open_gain (map (λ test. added test missing) tests) taken index ≡ 0
  open_zero index lt gone = taken_here (map (λ test. added test missing) tests) taken index (r.marks index lt ∙ gone)

  pub ends : ((index : ℕ) → index < length (map (λ test. added test missing) tests) → open_gain (map (λ test. added test missing) tests) taken index ≡ 0) → IsRanking tests wanted ranked
  ends none_left = record {
    greedy = r.greedy;
    end = λ index lt free. sym (open_is index lt free) ∙ none_left index (omega (arith, length-map tests (λ test. added test missing)));
  }

  module _ (row : Ranked) (b : IsBestRow (map (λ test. added test missing) tests) taken row) where
    pub row_inside : row.test < length tests
    row_inside = omega (arith, b.inside, length-map tests (λ test. added test missing))

    row_free : (t : Bool) → is_taken ranked row.test ≡ t → is_taken ranked row.test ≡ false
    row_free false e = e
    row_free true e = let z = open_zero row.test row_inside e in absurd (omega (arith, z, b.is, b.some))

    free : is_taken ranked row.test ≡ false
    free = row_free (is_taken ranked row.test) refl

    is_next : IsNext tests wanted ranked row
    is_next = record {
      inside = row_inside;
      left = free;
      gains = b.is ∙ open_is row.test row_inside free;
      some = b.some;
      greatest = λ index lt left. let e = open_is index lt left in let g = b.greatest index (omega (arith, length-map tests (λ test. added test missing))) in omega (arith, e, g);
      earliest = λ index lt left. let e = open_is index (omega (arith, row_inside)) left in let g = b.earliest index lt in omega (arith, e, g);
    }

    tests_more : tests_of tests (ranked ++ (row ∷ [])) ≡ tests_of tests ranked ++ (test_at tests row.test ∷ [])
    tests_more = map-append (λ row. test_at tests row.test) ranked (row ∷ [])

    taken_more : (index : ℕ) → is_taken (ranked ++ (row ∷ [])) index ≡ (is_taken ranked index || ((row.test == index) || false))
    taken_more index = list_any-append (λ row. row.test == index) ranked (row ∷ [])

    or_true : (b : Bool) → (b || (true || false)) ≡ true
    or_true true = refl
    or_true false = refl

    or_false : (b : Bool) → (b || (false || false)) ≡ b
    or_false true = refl
    or_false false = refl

    marks_more : (n : ℕ) → length taken ≡ n → n ≡ length tests → (index : ℕ) → index < length tests → slice_index_or (set taken row.test true) index false ≡ is_taken (ranked ++ (row ∷ [])) index
    marks_more n long same index lt = elim (cases_eq row.test index) [
      | inl e ↦ subst (λ (k : ℕ). slice_index_or (set taken row.test true) k false ≡ is_taken (ranked ++ (row ∷ [])) k) e (get_or-set_same taken row.test true false (omega (arith, row_inside)) ∙ sym (taken_more row.test ∙ rw (eq-eqb row.test row.test refl) (or_true (is_taken ranked row.test))))
      | inr ne ↦ get_or-set_other taken row.test index true false (λ e. ne (sym e)) ∙ (r.marks index lt ∙ sym (taken_more index ∙ rw (ne_eqb row.test index ne) (or_false (is_taken ranked index))))
    ]

    pub one_more : (n : ℕ) → length taken ≡ n → n ≡ length tests → Reached tests wanted (ranked ++ (row ∷ [])) (less (test_at tests row.test) missing) (set taken row.test true)
    one_more n long same = record {
      greedy = then r.greedy is_next;
      lacks = ap (less (test_at tests row.test)) r.lacks ∙ (less_missing wanted (tests_of tests ranked) (test_at tests row.test) ∙ ap (missing_of wanted) (sym tests_more));
      marks = marks_more n long same;
    }

    -- what is missing in all becomes less
    pub falls : sum_by (λ (pair : ℕ × ℕ). pair.1) (less (test_at tests row.test) missing) < sum_by (λ (pair : ℕ × ℕ). pair.1) missing
    falls =
        let a : slice_index (map (λ test. added test missing) tests) row.test ≡ added (test_at tests row.test) missing = get_or-map (λ test. added test missing) tests row.test [] 0 row_inside in
        let o : open_gain (map (λ test. added test missing) tests) taken row.test ≡ slice_index (map (λ test. added test missing) tests) row.test = open_here (map (λ test. added test missing) tests) taken row.test (r.marks row.test row_inside ∙ free) in
        omega (arith, shrinks (test_at tests row.test) missing, a, o, b.is, b.some)

-- a vector after its items are written
pub written : {A : Type 0} (n : ℕ) (xs ys : List A) → length xs ≡ n → take n (xs ++ drop (length xs) ys) ≡ xs
written n xs ys e = take-append-le n xs (drop (length xs) ys) (omega arith) ∙ take_all n xs (omega arith)

pub next_reached : (tests : List Test) (wanted : List (ℕ × ℕ)) (ranked ranked' : List Ranked) (missing missing' : List (ℕ × ℕ)) (taken : List Bool) (row : Ranked) (test : Test) → Reached tests wanted ranked missing taken → IsBestRow (map (λ test. added test missing) tests) taken row → length taken ≡ length tests
    → ranked' ≡ ranked ++ (row ∷ []) → test ≡ test_at tests row.test → missing' ≡ less test missing → Reached tests wanted ranked' missing' (set taken row.test true)
next_reached tests wanted ranked ranked' missing missing' taken row test r b same e f g = rw (e, g, f) (one_more tests wanted ranked missing taken r row b (length taken) refl same)

pub next_falls : (tests : List Test) (wanted : List (ℕ × ℕ)) (ranked : List Ranked) (missing missing' : List (ℕ × ℕ)) (taken : List Bool) (row : Ranked) (test : Test) → Reached tests wanted ranked missing taken → IsBestRow (map (λ test. added test missing) tests) taken row
    → test ≡ test_at tests row.test → missing' ≡ less test missing → sum_by (λ (pair : ℕ × ℕ). pair.1) missing' < sum_by (λ (pair : ℕ × ℕ). pair.1) missing
next_falls tests wanted ranked missing missing' taken row test r b f g = rw (g, f) (falls tests wanted ranked missing taken r row b)

pub first_reached : (tests : List Test) (wanted : List (ℕ × ℕ)) (n : ℕ) → Reached tests wanted [] wanted (replicate n false)
first_reached tests wanted n = record {
  greedy = none;
  lacks = missing_first wanted;
  marks = λ index lt. unmarked n index;
}
  where
    unmarked : (n index : ℕ) → get_or (replicate n false) index false ≡ false
    unmarked zero index = refl
    unmarked (suc n) zero = refl
    unmarked (suc n) (suc index) = unmarked n index

pub started : (tests : List Test) (wanted : List (ℕ × ℕ)) (n : ℕ) (ranked : List Ranked) (missing : List (ℕ × ℕ)) (taken : List Bool) → ranked ≡ [] → missing ≡ wanted → taken ≡ replicate n false → Reached tests wanted ranked missing taken
started tests wanted n ranked missing taken e f g = rw (e, f, g) (first_reached tests wanted n)
