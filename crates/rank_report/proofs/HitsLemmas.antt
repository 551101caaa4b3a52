-- What the hits of a test say of the pairs that they are of.
use Rattle.std.proofs.Common.{◌≡◌, ℕ, ◌+◌, ◌-◌, ◌≤◌, min, List, [], ◌∷◌, ◌++◌, length, cond, refl, ap, ◌∙◌, arith, Bool, true, false, append_assoc, eqb}
use Rattle.std.specs.Prelude.{slice_index_or, slice_set}
use Rattle.std.proofs.lemmas.List.{length-append}
use Rattle.std.proofs.lemmas.List.Sums.{sum_by-cons}
use Rattle.std.proofs.lemmas.Bool.{eqb-true}
use Rattle.std.proofs.Math.Seq.{get_or-append_seam, set-append_seam}
use Rattle.tally.specs.Rows.{count_in}
use Rattle.rank_report.specs.Ranking.{Test}
use Rattle.rank_report.specs.Steps.{added, less, hits_from, added_by, less_by, lacking}
use Rattle.rank_report.proofs.RankLemmas.{missing_of}

-- what is missing is of the wanted pairs, and no more than is wanted
abbrev pub IsOf : List (ℕ × ℕ) → List (ℕ × ℕ) → Type 0
IsOf [] [] = Unit {0}
IsOf [] (w ∷ ws) = ⊥
IsOf (m ∷ ms) [] = ⊥
IsOf (m ∷ ms) (w ∷ ws) = (m.0 ≡ w.0) × (m.1 ≤ w.1) × IsOf ms ws

pub is_of : (wanted : List (ℕ × ℕ)) (tests : List Test) → IsOf (missing_of wanted tests) wanted
is_of [] tests = tt
is_of (w ∷ wanted) tests = (refl, omega arith, is_of wanted tests)

-- ---- how many

seen : (pre : List (ℕ × ℕ)) (m : ℕ × ℕ) (ms : List (ℕ × ℕ)) (n : ℕ) → length pre ≡ n → slice_index_or (pre ++ (m ∷ ms)) n (0, 0) ≡ m
seen pre m ms n e = rw (← e) (get_or-append_seam pre m ms (0, 0))

longer : (pre : List (ℕ × ℕ)) (m : ℕ × ℕ) (n : ℕ) → length pre ≡ n → length (pre ++ (m ∷ [])) ≡ n + 1
longer pre m n e = omega (arith, length-append pre (m ∷ []))

-- one pair more, where `rest` is what is found of those after it
one_added : (test : Test) (w m : ℕ × ℕ) (ms pre hits : List (ℕ × ℕ)) (n : ℕ) (t : Bool) → length pre ≡ n → m.0 ≡ w.0 → m.1 ≤ w.1 → eqb (min w.1 (count_in test w.0)) 0 ≡ t
    → added_by hits (pre ++ (m ∷ ms)) ≡ added test ms → added_by (cond t hits ((n, min w.1 (count_in test w.0)) ∷ hits)) (pre ++ (m ∷ ms)) ≡ added test (m ∷ ms)
one_added test w m ms pre hits n true e bin le p rest =
    let same : count_in test m.0 ≡ count_in test w.0 = ap (count_in test) bin in
    let all = sum_by-cons (λ (pair : ℕ × ℕ). min pair.1 (count_in test pair.0)) m ms in
    let z = eqb-true (min w.1 (count_in test w.0)) 0 p in
    omega (arith, rest, same, all, z, le)
one_added test w m ms pre hits n false e bin le p rest =
    let same : count_in test m.0 ≡ count_in test w.0 = ap (count_in test) bin in
    let all = sum_by-cons (λ (pair : ℕ × ℕ). min pair.1 (count_in test pair.0)) m ms in
    let one : lacking (pre ++ (m ∷ ms)) n ≡ m.1 = ap (λ (x : ℕ × ℕ). x.1) (seen pre m ms n e) in
    let more = sum_by-cons (λ (hit : ℕ × ℕ). min (lacking (pre ++ (m ∷ ms)) hit.0) hit.1) (n, min w.1 (count_in test w.0)) hits in
    omega (arith, rest, same, all, one, more, le)

pub adds : (test : Test) (ws ms pre : List (ℕ × ℕ)) (n : ℕ) → length pre ≡ n → IsOf ms ws → added_by (hits_from n test ws) (pre ++ ms) ≡ added test ms
adds test [] [] pre n e u = refl
adds test [] (m ∷ ms) pre n e u = absurd u
adds test (w ∷ ws) [] pre n e u = absurd u
adds test (w ∷ ws) (m ∷ ms) pre n e u =
    one_added test w m ms pre (hits_from (n + 1) test ws) n (eqb (min w.1 (count_in test w.0)) 0) e u.0 u.1 refl (rw append_assoc at (adds test ws ms (pre ++ (m ∷ [])) (n + 1) (longer pre m n e) u.2))

-- ---- what is left

one_left : (test : Test) (w m : ℕ × ℕ) (ms pre hits : List (ℕ × ℕ)) (n : ℕ) (t : Bool) → length pre ≡ n → m.0 ≡ w.0 → m.1 ≤ w.1 → eqb (min w.1 (count_in test w.0)) 0 ≡ t
    → less_by hits (pre ++ ((m.0, m.1 - count_in test m.0) ∷ ms)) ≡ pre ++ less test (m ∷ ms) → less_by (cond t hits ((n, min w.1 (count_in test w.0)) ∷ hits)) (pre ++ (m ∷ ms)) ≡ pre ++ less test (m ∷ ms)
one_left test w m ms pre hits n true e bin le p rest =
    let same : count_in test m.0 ≡ count_in test w.0 = ap (count_in test) bin in
    let z = eqb-true (min w.1 (count_in test w.0)) 0 p in
    let none : m.1 ≡ m.1 - count_in test m.0 = omega (arith, same, z, le) in
    ap (λ (left : ℕ). less_by hits (pre ++ ((m.0, left) ∷ ms))) none ∙ rest
one_left test w m ms pre hits n false e bin le p rest =
    let same : count_in test m.0 ≡ count_in test w.0 = ap (count_in test) bin in
    let one : slice_index_or (pre ++ (m ∷ ms)) n (0, 0) ≡ m = seen pre m ms n e in
    let left : m.1 - min w.1 (count_in test w.0) ≡ m.1 - count_in test m.0 = omega (arith, same, le) in
    let put : slice_set (pre ++ (m ∷ ms)) n (m.0, m.1 - count_in test m.0) ≡ pre ++ ((m.0, m.1 - count_in test m.0) ∷ ms) = rw (← e) (set-append_seam pre m ms (m.0, m.1 - count_in test m.0)) in
    ap (less_by hits) (ap (λ (x : ℕ × ℕ). slice_set (pre ++ (m ∷ ms)) n (x.0, x.1 - min w.1 (count_in test w.0))) one ∙ (ap (λ (k : ℕ). slice_set (pre ++ (m ∷ ms)) n (m.0, k)) left ∙ put)) ∙ rest

pub leaves : (test : Test) (ws ms pre : List (ℕ × ℕ)) (n : ℕ) → length pre ≡ n → IsOf ms ws → less_by (hits_from n test ws) (pre ++ ms) ≡ pre ++ less test ms
leaves test [] [] pre n e u = refl
leaves test [] (m ∷ ms) pre n e u = absurd u
leaves test (w ∷ ws) [] pre n e u = absurd u
leaves test (w ∷ ws) (m ∷ ms) pre n e u =
    one_left test w m ms pre (hits_from (n + 1) test ws) n (eqb (min w.1 (count_in test w.0)) 0) e u.0 u.1 refl
    (rw (append_assoc, append_assoc) at (leaves test ws ms (pre ++ ((m.0, m.1 - count_in test m.0) ∷ [])) (n + 1) (longer pre (m.0, m.1 - count_in test m.0) n e) u.2))
