-- Rows that are filled place by place.
use Rattle.std.proofs.Common.{◌≡◌, ◌∙◌, ℕ, zero, suc, ◌+◌, ◌<◌, ◌≤◌, List, [], ◌∷◌, ◌++◌, length, drop, map, set, replicate, nat_eq, Bool, true, false, refl, sym, ap, arith, ◌⊎◌, inl, inr}
use Rattle.std.specs.Prelude.{◌&&◌, ◌||◌, ◌==◌, slice_index, slice_index_or}
use Rattle.std.specs.List.{starts_with}
use Rattle.std.proofs.lemmas.Bool.{cases_eq, cases_lt}
use Rattle.std.proofs.lemmas.List.{drop-drop, length-set, length-drop, length-append, length-replicate, get_or-set_same, get_or-set_other}
use Rattle.waivers.specs.Patterns.{Part, Byte}
use Rattle.waivers.specs.Patterns.{is_nothing, fits, run_then}
use Rattle.waivers.specs.Pieces.{IsRow}

or_true : (b : Bool) → (b || true) ≡ true
or_true true = refl
or_true false = refl

or_false : (b : Bool) → (b || false) ≡ b
or_false true = refl
or_false false = refl

and_swap : (b c : Bool) → (b && c) ≡ (c && b)
and_swap true true = refl
and_swap true false = refl
and_swap false true = refl
and_swap false false = refl

and_assoc : (b c d : Bool) → (b && (c && d)) ≡ ((b && c) && d)
and_assoc true c d = refl
and_assoc false c d = refl

-- ---- a part that stands for a run of bytes

pub record IsRunFrom (may : ℕ → Bool) (path : List ℕ) (old row : List Bool) (place : ℕ) : Type 0 where
  pub long : length row ≡ length path + 1
  pub within : place ≤ length path
  pub same : (k : ℕ) → k < place → slice_index_or row k false ≡ slice_index_or old k false
  pub done : (test : List ℕ → Bool) → IsRow test path old → (k : ℕ) → place ≤ k → k ≤ length path → slice_index_or row k false ≡ run_then may test (drop k path)

run_at_end : (may : ℕ → Bool) (test : List ℕ → Bool) (path : List ℕ) → run_then may test (drop (length path) path) ≡ test (drop (length path) path)
run_at_end may test [] = refl
run_at_end may test (first ∷ path) = run_at_end may test path

run_at : (may : ℕ → Bool) (test : List ℕ → Bool) (path : List ℕ) (k : ℕ) → k < length path
    → run_then may test (drop k path) ≡ (test (drop k path) || (may (slice_index path k) && run_then may test (drop (k + 1) path)))
run_at may test [] k lt = absurd (omega (arith, lt))
run_at may test (first ∷ path) zero lt = refl
run_at may test (first ∷ path) (suc k) lt = let e : suc k + 1 ≡ suc (k + 1) = omega arith in rw e (run_at may test path k (omega (arith, lt)))

pub run_begins : (may : ℕ → Bool) (path : List ℕ) (old : List Bool) → length old ≡ length path + 1 → IsRunFrom may path old old (length path)
run_begins may path old long = record { long = long; within = omega arith; same = λ k lt. refl; done = last }
  where
    last : (test : List ℕ → Bool) → IsRow test path old → (k : ℕ) → length path ≤ k → k ≤ length path → slice_index_or old k false ≡ run_then may test (drop k path)
    last test h k ge le =
        let e : k ≡ length path = omega (arith, ge, le) in
        rw e (h.tells (length path) (omega arith) ∙ sym (run_at_end may test path))

pub run_put : (may : ℕ → Bool) (path : List ℕ) (old row : List Bool) (place : ℕ) → IsRunFrom may path old row (place + 1)
    → may (slice_index path place) ≡ true → slice_index_or row (place + 1) false ≡ true → IsRunFrom may path old (set row place true) place
run_put may path old row place h ok on = record { long = length-set row place true ∙ h.long; within = omega (arith, h.within); same = before; done = done }
  where
    before : (k : ℕ) → k < place → slice_index_or (set row place true) k false ≡ slice_index_or old k false
    before k lt = get_or-set_other row place k true false (λ e. omega (arith, lt, e)) ∙ h.same k (omega (arith, lt))

    here : (test : List ℕ → Bool) → IsRow test path old → slice_index_or (set row place true) place false ≡ run_then may test (drop place path)
    here test t =
        let next : run_then may test (drop (place + 1) path) ≡ true = sym (h.done test t (place + 1) (omega arith) h.within) ∙ on in
        get_or-set_same row place true false (omega (arith, h.long, h.within))
        ∙ sym (run_at may test path place (omega (arith, h.within)) ∙ rw (ok, next) (or_true (test (drop place path))))

    done : (test : List ℕ → Bool) → IsRow test path old → (k : ℕ) → place ≤ k → k ≤ length path → slice_index_or (set row place true) k false ≡ run_then may test (drop k path)
    done test t k ge le = elim (cases_eq k place) [ inl e ↦ rw e (here test t) | inr ne ↦ get_or-set_other row place k true false ne ∙ h.done test t k (omega (arith, ge, ne)) le ]

pub run_kept : (may : ℕ → Bool) (path : List ℕ) (old row : List Bool) (place : ℕ) → IsRunFrom may path old row (place + 1)
    → (may (slice_index path place) && slice_index_or row (place + 1) false) ≡ false → IsRunFrom may path old row place
run_kept may path old row place h off = record { long = h.long; within = omega (arith, h.within); same = λ k lt. h.same k (omega (arith, lt)); done = done }
  where
    here : (test : List ℕ → Bool) → IsRow test path old → slice_index_or row place false ≡ run_then may test (drop place path)
    here test t =
        let next : slice_index_or row (place + 1) false ≡ run_then may test (drop (place + 1) path) = h.done test t (place + 1) (omega arith) h.within in
        h.same place (omega arith) ∙ t.tells place (omega (arith, h.within))
        ∙ sym (run_at may test path place (omega (arith, h.within)) ∙ rw (← next, off) (or_false (test (drop place path))))

    done : (test : List ℕ → Bool) → IsRow test path old → (k : ℕ) → place ≤ k → k ≤ length path → slice_index_or row k false ≡ run_then may test (drop k path)
    done test t k ge le = elim (cases_eq k place) [ inl e ↦ rw e (here test t) | inr ne ↦ h.done test t k (omega (arith, ge, ne)) le ]

pub run_whole : (may : ℕ → Bool) (path : List ℕ) (old row : List Bool) → IsRunFrom may path old row 0 → (test : List ℕ → Bool) → IsRow test path old → IsRow (run_then may test) path row
run_whole may path old row h test t = record { long = h.long; tells = λ k le. h.done test t k (omega arith) le }

-- ---- no part

nothing_at : (path : List ℕ) (i : ℕ) → i ≤ length path → slice_index_or (replicate (length path) false ++ true ∷ []) i false ≡ is_nothing (drop i path)
nothing_at [] zero le = refl
nothing_at [] (suc i) le = absurd (omega (arith, le))
nothing_at (first ∷ path) zero le = refl
nothing_at (first ∷ path) (suc i) le = nothing_at path i (omega (arith, le))

pub nothing_row : (path : List ℕ) (row : List Bool) → row ≡ replicate (length path) false ++ true ∷ [] → IsRow (fits []) path row
nothing_row path row is = record {
  long = ap length is ∙ omega (arith, length-append (replicate (length path) false) (true ∷ []), length-replicate (length path) false);
  tells = λ i le. ap (λ (r : List Bool). slice_index_or r i false) is ∙ nothing_at path i le;
}

-- ---- bytes that stand for themselves

pub record IsPutBelow (path literal : List ℕ) (old row : List Bool) (place : ℕ) : Type 0 where
  pub long : length row ≡ length path + 1
  pub same : (k : ℕ) → place ≤ k → slice_index_or row k false ≡ slice_index_or old k false
  pub done : (more : List Part) → IsRow (fits more) path old → (k : ℕ) → k < place → k ≤ length path → slice_index_or row k false ≡ fits (map Byte literal ++ more) (drop k path)

pub literal_is : (literal : List ℕ) (more : List Part) (path : List ℕ) → fits (map Byte literal ++ more) path ≡ (starts_with nat_eq path literal && fits more (drop (length literal) path))
literal_is [] more path = refl
literal_is (byte ∷ literal) more [] = refl
literal_is (byte ∷ literal) more (first ∷ path) =
    ap (λ (b : Bool). (byte == first) && b) (literal_is literal more path) ∙ and_assoc (byte == first) (starts_with nat_eq path literal) (fits more (drop (length literal) path))

too_short : (literal path : List ℕ) → length path < length literal → starts_with nat_eq path literal ≡ false
too_short [] path lt = absurd (omega (arith, lt))
too_short (byte ∷ literal) [] lt = refl
too_short (byte ∷ literal) (first ∷ path) lt = rw (too_short literal path (omega (arith, lt))) (and_swap (byte == first) false)

-- the test of a place, by the row before
placed : (path literal : List ℕ) (old : List Bool) (place : ℕ) (more : List Part) → IsRow (fits more) path old → place ≤ length path
    → (slice_index_or old (place + length literal) false && starts_with nat_eq (drop place path) literal) ≡ fits (map Byte literal ++ more) (drop place path)
placed path literal old place more t le =
    and_swap (slice_index_or old (place + length literal) false) (starts_with nat_eq (drop place path) literal)
    ∙ by (cases_lt (length path) (place + length literal)) ∙ sym (literal_is literal more (drop place path))
  where
    by : ((length path < place + length literal) ⊎ (place + length literal ≤ length path))
        → (starts_with nat_eq (drop place path) literal && slice_index_or old (place + length literal) false) ≡ (starts_with nat_eq (drop place path) literal && fits more (drop (length literal) (drop place path)))
    by (inl lt) = let e : starts_with nat_eq (drop place path) literal ≡ false = too_short literal (drop place path) (omega (arith, lt, le, length-drop place path)) in rw e refl
    by (inr in_path) = ap (λ (b : Bool). starts_with nat_eq (drop place path) literal && b) (t.tells (place + length literal) in_path ∙ ap (fits more) (sym (drop-drop (length literal) place path)))

pub put_begins : (path literal : List ℕ) (old : List Bool) → length old ≡ length path + 1 → IsPutBelow path literal old old 0
put_begins path literal old long = record { long = long; same = λ k ge. refl; done = λ more t k lt le. absurd (omega (arith, lt)) }

pub put_more : (path literal : List ℕ) (old row : List Bool) (place : ℕ) (b : Bool) → IsPutBelow path literal old row place → place < length row
    → b ≡ (slice_index_or row (place + length literal) false && starts_with nat_eq (drop place path) literal) → IsPutBelow path literal old (set row place b) (place + 1)
put_more path literal old row place b h lt is = record { long = length-set row place b ∙ h.long; same = after; done = done }
  where
    after : (k : ℕ) → place + 1 ≤ k → slice_index_or (set row place b) k false ≡ slice_index_or old k false
    after k ge = get_or-set_other row place k b false (λ e. omega (arith, ge, e)) ∙ h.same k (omega (arith, ge))

    here : (more : List Part) → IsRow (fits more) path old → place ≤ length path → slice_index_or (set row place b) place false ≡ fits (map Byte literal ++ more) (drop place path)
    here more t le =
        get_or-set_same row place b false lt ∙ is
        ∙ ap (λ (c : Bool). c && starts_with nat_eq (drop place path) literal) (h.same (place + length literal) (omega arith))
        ∙ placed path literal old place more t le

    done : (more : List Part) → IsRow (fits more) path old → (k : ℕ) → k < place + 1 → k ≤ length path → slice_index_or (set row place b) k false ≡ fits (map Byte literal ++ more) (drop k path)
    done more t k lt' le = elim (cases_eq k place) [ inl e ↦ rw e (here more t (omega (arith, e, le))) | inr ne ↦ get_or-set_other row place k b false ne ∙ h.done more t k (omega (arith, lt', ne)) le ]

pub put_whole : (path literal : List ℕ) (old row : List Bool) (place : ℕ) → length row ≤ place → IsPutBelow path literal old row place → (more : List Part) → IsRow (fits more) path old → IsRow (fits (map Byte literal ++ more)) path row
put_whole path literal old row place all h more t = record { long = h.long; tells = λ k le. h.done more t k (omega (arith, all, le, h.long)) le }
