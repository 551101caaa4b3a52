-- Places, as marks and bytes and as a list.
use Rattle.std.proofs.Common.{◌≡◌, ℕ, zero, suc, ◌+◌, ◌-◌, ◌<◌, ◌≤◌, List, [], ◌∷◌, ◌++◌, length, take, drop, get_or, refl, sym, ap, ◌∙◌, arith, inl, inr, true, false, Option, Some, None}
use Rattle.std.specs.Prelude.{map, replicate}
use Rattle.std.proofs.lemmas.Bool.{cases_lt, cases_eq, eq-eqb, ne_eqb}
use Rattle.std.proofs.lemmas.List.{drop_more, drop_all, get_or-drop, get_or-take, get_or-map, length-append, length-map, length-take-le, length-drop, take-append-le, take_all}
use Rattle.std.proofs.lemmas.List.{get_or_append_left, get_or-append_right}
use Rattle.std.proofs.lemmas.List.FromFn.{fill_by_all, length-map-range_with_len, get_or-map-range_with_len}
use Rattle.std.proofs.lemmas.Grind.{same_number_lists}
use Rattle.upload_stage.specs.Places.{differs, first_differing, first_missing, with_bytes, byte_or_zero, bytes_in, mark_of, byte_at, places_of}
use Rattle.upload_stage.proofs.Bits.{no_marks}

-- ---- one place

pub length-places_of : (marks bytes : List ℕ) (len : ℕ) → length (places_of marks bytes len) ≡ len
length-places_of marks bytes len = length-map-range_with_len (byte_at marks bytes) 0 len

place_at : (marks bytes : List ℕ) (len k : ℕ) → k < len → get_or (places_of marks bytes len) k None ≡ byte_at marks bytes k
place_at marks bytes len k lt = get_or-map-range_with_len (byte_at marks bytes) 0 len k k None lt (omega arith)

marked_at : (marks bytes : List ℕ) (k : ℕ) → mark_of marks k ≡ 1 → byte_at marks bytes k ≡ Some (get_or bytes k 0)
marked_at marks bytes k one = rw (eq-eqb (mark_of marks k) 1 one) refl

unmarked_at : (marks bytes : List ℕ) (k : ℕ) → mark_of marks k ≡ 0 → byte_at marks bytes k ≡ None
unmarked_at marks bytes k nil = rw (ne_eqb (mark_of marks k) 1 (λ e. absurd (omega arith))) refl

-- ---- no byte yet

pub none_yet : (n len : ℕ) → places_of (replicate n 0) [] len ≡ replicate len None
none_yet n len = sym (fill_by_all (byte_at (replicate n 0) []) (replicate len None) len None (length_copies len) (λ k lt. no_place len k ∙ sym (unmarked_at (replicate n 0) [] k (no_marks n k))))
  where
    length_copies : (m : ℕ) → length {A = Option ℕ} (replicate m None) ≡ m
    length_copies zero = refl
    length_copies (suc m) = let rest = length_copies m in omega (arith, rest)

    no_place : (m k : ℕ) → get_or {A = Option ℕ} (replicate m None) k None ≡ None
    no_place zero k = refl
    no_place (suc m) zero = refl
    no_place (suc m) (suc k) = no_place m k

-- ---- the first place that differs

pub agrees : (places : List (Option ℕ)) (bytes : List ℕ) (at i : ℕ) → at < length places → i < length bytes → differs (get_or places at None) (get_or bytes i 0) ≡ false
    → first_differing at (drop at places) (drop i bytes) ≡ first_differing (at + 1) (drop (at + 1) places) (drop (i + 1) bytes)
agrees places bytes at i lt inside same = (λ j. first_differing at (drop_more places at None lt j) (drop_more bytes i 0 inside j)) ∙ rw same refl

pub disagrees : (places : List (Option ℕ)) (bytes : List ℕ) (at i : ℕ) → at < length places → i < length bytes → differs (get_or places at None) (get_or bytes i 0) ≡ true → first_differing at (drop at places) (drop i bytes) ≡ Some at
disagrees places bytes at i lt inside other = (λ j. first_differing at (drop_more places at None lt j) (drop_more bytes i 0 inside j)) ∙ rw other refl

none_left : (at : ℕ) (places : List (Option ℕ)) → first_differing at places [] ≡ None
none_left at [] = refl
none_left at (place ∷ places) = refl

pub all_agree : (places : List (Option ℕ)) (bytes : List ℕ) (at i : ℕ) → length bytes ≤ i → first_differing at places (drop i bytes) ≡ None
all_agree places bytes at i le = ap (first_differing at places) (drop_all i bytes le) ∙ none_left at places

module _ (marks held : List ℕ) (len offset : ℕ) (bytes : List ℕ) (i : ℕ) (lt : i < length bytes) (long : offset + length bytes ≤ len) where
  abbrev ps : List (Option ℕ)
  ps = places_of marks held len

  at_place : get_or ps (offset + i) None ≡ byte_at marks held (offset + i)
  at_place = place_at marks held len (offset + i) (omega arith)

  pub agrees_here : differs (byte_at marks held (offset + i)) (get_or bytes i 0) ≡ false → first_differing (offset + i) (drop (offset + i) ps) (drop i bytes) ≡ first_differing (offset + (i + 1)) (drop (offset + (i + 1)) ps) (drop (i + 1) bytes)
  agrees_here same =
      let next : offset + i + 1 ≡ offset + (i + 1) = omega arith in
      agrees ps bytes (offset + i) i (omega (arith, length-places_of marks held len)) lt (rw at_place same) ∙ ap (λ (n : ℕ). first_differing n (drop n ps) (drop (i + 1) bytes)) next

  pub differs_here : differs (byte_at marks held (offset + i)) (get_or bytes i 0) ≡ true → first_differing (offset + i) (drop (offset + i) ps) (drop i bytes) ≡ Some (offset + i)
  differs_here other = disagrees ps bytes (offset + i) i (omega (arith, length-places_of marks held len)) lt (rw at_place other)

-- ---- the first place with no byte

one_there : (places : List (Option ℕ)) (at byte : ℕ) → at < length places → get_or places at None ≡ Some byte → first_missing at (drop at places) ≡ first_missing (at + 1) (drop (at + 1) places)
one_there places at byte lt is = ap (first_missing at) (drop_more places at None lt) ∙ rw is refl

one_missing : (places : List (Option ℕ)) (at : ℕ) → at < length places → get_or places at None ≡ None → first_missing at (drop at places) ≡ Some at
one_missing places at lt is = ap (first_missing at) (drop_more places at None lt) ∙ rw is refl

module _ (marks bytes : List ℕ) (len : ℕ) where
  all_there : (n at : ℕ) → at + n ≤ len → ((k : ℕ) → at ≤ k → k < at + n → mark_of marks k ≡ 1) → first_missing at (drop at (places_of marks bytes len)) ≡ first_missing (at + n) (drop (at + n) (places_of marks bytes len))
  all_there zero at le one = let same : at ≡ at + 0 = omega arith in ap (λ (n : ℕ). first_missing n (drop n (places_of marks bytes len))) same
  all_there (suc n) at le one =
      let next : at + 1 + n ≡ at + suc n = omega arith in
      one_there (places_of marks bytes len) at (get_or bytes at 0) (omega (arith, length-places_of marks bytes len)) (place_at marks bytes len at (omega arith) ∙ marked_at marks bytes at (one at (omega arith) (omega arith)))
      ∙ (all_there n (at + 1) (omega arith) (λ k low high. one k (omega arith) (omega arith)) ∙ ap (λ (m : ℕ). first_missing m (drop m (places_of marks bytes len))) next)

  up_to : (whole : ℕ) → whole ≤ len → ((k : ℕ) → k < whole → mark_of marks k ≡ 1) → first_missing 0 (places_of marks bytes len) ≡ first_missing whole (drop whole (places_of marks bytes len))
  up_to whole le one = let plain : 0 + whole ≡ whole = omega arith in all_there whole 0 (omega arith) (λ k low high. one k (omega arith)) ∙ ap (λ (m : ℕ). first_missing m (drop m (places_of marks bytes len))) plain

  pub none_missing : ((k : ℕ) → k < len → mark_of marks k ≡ 1) → None ≡ first_missing 0 (places_of marks bytes len)
  none_missing one = sym (up_to len (omega arith) one ∙ ap (first_missing len) (drop_all len (places_of marks bytes len) (omega (arith, length-places_of marks bytes len))))

  pub some_missing : (whole : ℕ) → whole < len → ((k : ℕ) → k < whole → mark_of marks k ≡ 1) → mark_of marks whole ≡ 0 → Some whole ≡ first_missing 0 (places_of marks bytes len)
  some_missing whole lt one nil = sym (up_to whole (omega arith) one ∙ one_missing (places_of marks bytes len) whole (omega (arith, length-places_of marks bytes len)) (place_at marks bytes len whole lt ∙ unmarked_at marks bytes whole nil))

-- ---- all bytes

none_is_missing : (places : List (Option ℕ)) (at : ℕ) → first_missing at places ≡ None → (k : ℕ) → k < length places → (byte : ℕ) × (get_or places k None ≡ Some byte)
none_is_missing [] at none k lt = absurd (omega arith)
none_is_missing (None ∷ places) at none k lt = absurd (cc)
none_is_missing (Some byte ∷ places) at none zero lt = (byte, refl)
none_is_missing (Some byte ∷ places) at none (suc k) lt = none_is_missing places (at + 1) none k (omega arith)

is_one : (marks bytes : List ℕ) (k byte : ℕ) → byte_at marks bytes k ≡ Some byte → mark_of marks k ≡ 1
is_one marks bytes k byte is = elim (cases_eq (mark_of marks k) 1) [
  | inl one ↦ one
  | inr ne ↦ absurd (differ (rw (ne_eqb (mark_of marks k) 1 ne) at is))
]
  where
    differ : None ≡ Some byte → ⊥
    differ e = cc

module _ (marks bytes : List ℕ) (len : ℕ) (there : (place : ℕ) → mark_of marks place ≡ 1 → place < length bytes) (long : length bytes ≤ len) (none : first_missing 0 (places_of marks bytes len) ≡ None) where
  each_marked : (k : ℕ) → k < len → mark_of marks k ≡ 1
  each_marked k lt = let found = none_is_missing (places_of marks bytes len) 0 none k (omega (arith, length-places_of marks bytes len)) in is_one marks bytes k found.0 (sym (place_at marks bytes len k lt) ∙ found.1)

  as_many : (n : ℕ) → len ≡ n → length bytes ≡ len
  as_many zero e = omega arith
  as_many (suc n) e = let last = there n (each_marked n (omega arith)) in omega (arith, last)

  pub bytes_are : bytes ≡ bytes_in (places_of marks bytes len)
  bytes_are = same_number_lists bytes (bytes_in (places_of marks bytes len)) (as_many len refl ∙ sym (length-map (places_of marks bytes len) byte_or_zero ∙ length-places_of marks bytes len)) (λ k lt.
      let inside : k < len = omega arith in
      sym (get_or-map byte_or_zero (places_of marks bytes len) k None 0 (omega (arith, length-places_of marks bytes len)) ∙ (ap byte_or_zero (place_at marks bytes len k inside ∙ marked_at marks bytes k (each_marked k inside)))))

-- ---- bytes are put at their places

same_byte : (marks marks' bytes bytes' : List ℕ) (k : ℕ) → mark_of marks' k ≡ mark_of marks k → (mark_of marks k ≡ 1 → get_or bytes' k 0 ≡ get_or bytes k 0) → byte_at marks bytes k ≡ byte_at marks' bytes' k
same_byte marks marks' bytes bytes' k same there = elim (cases_eq (mark_of marks k) 1) [
  | inl one ↦ marked_at marks bytes k one ∙ (ap (λ (n : ℕ). Some n) (sym (there one)) ∙ sym (marked_at marks' bytes' k (same ∙ one)))
  | inr ne ↦ rw (same, ne_eqb (mark_of marks k) 1 ne) refl
]

module _ (marks marks' bytes bytes' : List ℕ) (len offset : ℕ) (xs : List ℕ) (long : offset + length xs ≤ len)
    (below : (k : ℕ) → k < offset → mark_of marks' k ≡ mark_of marks k) (inside : (k : ℕ) → offset ≤ k → k < offset + length xs → mark_of marks' k ≡ 1) (above : (k : ℕ) → offset + length xs ≤ k → mark_of marks' k ≡ mark_of marks k)
    (low : (k : ℕ) → k < offset → mark_of marks k ≡ 1 → get_or bytes' k 0 ≡ get_or bytes k 0) (new : (k : ℕ) → offset ≤ k → k < offset + length xs → get_or bytes' k 0 ≡ get_or xs (k - offset) 0) (high : (k : ℕ) → offset + length xs ≤ k → mark_of marks k ≡ 1 → get_or bytes' k 0 ≡ get_or bytes k 0) where
  abbrev was : List (Option ℕ)
  was = places_of marks bytes len

  abbrev middle : List (Option ℕ)
  middle = map (λ (byte : ℕ). Some byte) xs

  length-was : length was ≡ len
  length-was = length-places_of marks bytes len

  length-front : length (take offset was) ≡ offset
  length-front = length-take-le offset was (omega (arith, length-was))

  length-middle : length middle ≡ length xs
  length-middle = length-map xs (λ (byte : ℕ). Some byte)

  length-both : length (take offset was ++ middle) ≡ offset + length xs
  length-both = omega (arith, length-append (take offset was) middle, length-front, length-middle)

  length-whole : length (with_bytes was offset xs) ≡ len
  length-whole = omega (arith, length-append (take offset was ++ middle) (drop (offset + length xs) was), length-both, length-drop (offset + length xs) was, length-was)

  each : (k : ℕ) → k < len → get_or (with_bytes was offset xs) k None ≡ byte_at marks' bytes' k
  each k lt = elim (cases_lt k (offset + length xs)) [
    | inl before ↦ get_or_append_left (take offset was ++ middle) (drop (offset + length xs) was) None k (omega (arith, length-both)) ∙ elim (cases_lt k offset) [
      | inl front ↦
          get_or_append_left (take offset was) middle None k (omega (arith, length-front)) ∙ (get_or-take offset was k None front ∙ (place_at marks bytes len k lt ∙ same_byte marks marks' bytes bytes' k (below k front) (low k front)))
      | inr later ↦
          get_or-append_right (take offset was) middle offset k None length-front later ∙ (get_or-map (λ (byte : ℕ). Some byte) xs (k - offset) 0 None (omega arith)
          ∙ (ap (λ (byte : ℕ). Some byte) (sym (new k later before)) ∙ sym (marked_at marks' bytes' k (inside k later before))))
    ]
    | inr after ↦
        let back : offset + length xs + (k - (offset + length xs)) ≡ k = omega arith in
        get_or-append_right (take offset was ++ middle) (drop (offset + length xs) was) (offset + length xs) k None length-both after ∙ (get_or-drop (offset + length xs) was (k - (offset + length xs)) None ∙ (ap (λ (n : ℕ). get_or was n None) back
        ∙ (place_at marks bytes len k lt ∙ same_byte marks marks' bytes bytes' k (above k after) (high k after))))
  ]

  pub put : places_of marks' bytes' len ≡ with_bytes was offset xs
  put = sym (fill_by_all (byte_at marks' bytes') (with_bytes was offset xs) len None length-whole each)

-- a vector after its items are written
pub written : {A : Type 0} (n : ℕ) (xs ys : List A) → length xs ≡ n → take n (xs ++ drop (length xs) ys) ≡ xs
written n xs ys e = take-append-le n xs (drop (length xs) ys) (omega arith) ∙ take_all n xs (omega arith)

-- bytes with a part written over
module _ (was now xs : List ℕ) (offset : ℕ) (long : offset + length xs ≤ length was) (is : now ≡ take offset was ++ (xs ++ drop (offset + length xs) was)) where
  length-start : length (take offset was) ≡ offset
  length-start = length-take-le offset was (omega arith)

  pub length-over : length now ≡ length was
  length-over = omega (arith, ap length is, length-append (take offset was) (xs ++ drop (offset + length xs) was), length-append xs (drop (offset + length xs) was), length-start, length-drop (offset + length xs) was)

  reads : (k : ℕ) → get_or now k 0 ≡ get_or (take offset was ++ (xs ++ drop (offset + length xs) was)) k 0
  reads k = ap (λ (l : List ℕ). get_or l k 0) is

  pub over_before : (k : ℕ) → k < offset → get_or now k 0 ≡ get_or was k 0
  over_before k lt = reads k ∙ (get_or_append_left (take offset was) (xs ++ drop (offset + length xs) was) 0 k (omega (arith, length-start)) ∙ get_or-take offset was k 0 lt)

  pub over_inside : (k : ℕ) → offset ≤ k → k < offset + length xs → get_or now k 0 ≡ get_or xs (k - offset) 0
  over_inside k le lt = reads k ∙ (get_or-append_right (take offset was) (xs ++ drop (offset + length xs) was) offset k 0 length-start le ∙ get_or_append_left xs (drop (offset + length xs) was) 0 (k - offset) (omega arith))

  pub over_after : (k : ℕ) → offset + length xs ≤ k → get_or now k 0 ≡ get_or was k 0
  over_after k le =
      let back : offset + length xs + (k - offset - length xs) ≡ k = omega arith in
      reads k ∙ (get_or-append_right (take offset was) (xs ++ drop (offset + length xs) was) offset k 0 length-start (omega arith)
      ∙ (get_or-append_right xs (drop (offset + length xs) was) (length xs) (k - offset) 0 refl (omega arith)
      ∙ (get_or-drop (offset + length xs) was (k - offset - length xs) 0 ∙ ap (λ (n : ℕ). get_or was n 0) back)))
