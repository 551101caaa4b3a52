-- What the parts of a list are, by the places where they begin.
use Rattle.std.proofs.Common.{◌≡◌, ◌∙◌, refl, ap, sym, ℕ, zero, suc, ◌+◌, ◌*◌, ◌/◌, ◌<◌, ◌≤◌, max, List, [], ◌∷◌, ◌++◌, length, take, drop, map, arith, add-one, mul-one, mul-zero, ◌⊎◌, inl, inr}
use Rattle.std.specs.List.{flat_map}
use Rattle.std.proofs.lemmas.Grind.{common_steps, flat_map-append}
use Rattle.std.proofs.lemmas.List.{append-nil, drop_all, map-append, take-append-drop}
use Rattle.std.proofs.Math.Nat.{suc-mul}
use Rattle.std.proofs.Math.Seq.{take-add}
use Rattle.bin_spec.specs.Parts.{places, share, part, parts}

-- a part before the last one, where each has as many elements as the share says
part_front : {X : Type 0} → (elements : List X) (n j size : ℕ) → j + 1 < n → 0 < share elements n → size ≡ share elements n → part elements n j ≡ take size (drop (j * size) elements)
unfolding part
part_front elements n j size before large is = grind (arith, common_steps)

-- the last part
part_last : {X : Type 0} → (elements : List X) (n j size : ℕ) → j + 1 ≡ n → 0 < share elements n → size ≡ share elements n → part elements n j ≡ drop (j * size) elements
unfolding part
part_last elements n j size last large is = grind (arith, common_steps)

-- a part where there are fewer elements than parts
part_small : {X : Type 0} → (elements : List X) (n j : ℕ) → share elements n ≡ 0 → part elements n j ≡ take 1 (drop j elements)
unfolding part
part_small elements n j none = grind (arith, common_steps)

one_time : (j size : ℕ) → size ≡ 1 → j * size ≡ j
one_time j size e = ap (λ (s : ℕ). j * s) e ∙ mul-one j

none_or_some : (n : ℕ) → (n ≡ 0) ⊎ (0 < n)
none_or_some zero = inl refl
none_or_some (suc n) = inr (omega arith)

-- each part but the last one has the share of the elements, and one where that is none
pub part_before : {X : Type 0} → (elements : List X) (n j size : ℕ) → j + 1 < n → size ≡ max (share elements n) 1 → part elements n j ≡ take size (drop (j * size) elements)
part_before elements n j size before is =
    elim (none_or_some (share elements n)) [
      | inl none ↦
          let one : size ≡ 1 = omega (arith, is, none) in
          part_small elements n j none ∙ sym (ap (λ (s : ℕ). take s (drop (j * s) elements)) one ∙ ap (λ (k : ℕ). take 1 (drop k elements)) (one_time j 1 refl))
      | inr some ↦ part_front elements n j size before some (omega (arith, is, some))
    ]

-- the last part has all that is left
pub part_end : {X : Type 0} → (elements : List X) (n j size : ℕ) → j + 1 ≡ n → size ≡ max (share elements n) 1 → part elements n j ≡ drop (j * size) elements
part_end {X} elements n j size last is =
    elim (none_or_some (share elements n)) [
      | inl none ↦
          let one : size ≡ 1 = omega (arith, is, none) in
          let short : length elements ≤ j = fewer (length elements) n (omega (arith, last)) none in
          let nothing : drop j elements ≡ [] = drop_all j elements short in
          part_small elements n j none ∙ (ap (take 1) nothing ∙ sym (ap (λ (s : ℕ). drop (j * s) elements) one ∙ (ap (λ (k : ℕ). drop k elements) (one_time j 1 refl) ∙ nothing)))
      | inr some ↦ part_last elements n j size last some (omega (arith, is, some))
    ]
  where
    fewer : (m n : ℕ) → n ≡ j + 1 → m / n ≡ 0 → m ≤ j
    fewer m n e none = let zero_times : n * (m / n) ≡ 0 = ap (λ (q : ℕ). n * q) none ∙ mul-zero n in omega (arith, e, zero_times)

-- the parts up to the next one
pub next_part : {X Y : Type 0} → (f : List X → Y) (elements : List X) (n j : ℕ) → map f (map (part elements n) (places (j + 1))) ≡ map f (map (part elements n) (places j)) ++ f (part elements n j) ∷ []
next_part f elements n j = rw add-one (ap (map f) (map-append (part elements n) (places j) (j ∷ [])) ∙ map-append f (map (part elements n) (places j)) (part elements n j ∷ []))

-- all parts, where the last one is behind the others
pub all_parts : {X Y : Type 0} → (f : List X → Y) (elements : List X) (n last : ℕ) → last + 1 ≡ n → map f (parts elements n) ≡ map f (map (part elements n) (places last)) ++ f (part elements n last) ∷ []
unfolding parts
all_parts f elements n last e = ap (λ (m : ℕ). map f (map (part elements n) (places m))) (sym e) ∙ next_part f elements n last

-- ---- all parts together

together_front : {X : Type 0} → (elements : List X) (n size k : ℕ) → size ≡ max (share elements n) 1 → k + 1 ≤ n → flat_map (part elements n) (places k) ≡ take (k * size) elements
together_front {X} elements n size zero is le = sym (ap (λ (m : ℕ). take m elements) (none size))
  where
    none : (m : ℕ) → 0 * m ≡ 0
    none m = omega arith
together_front {X} elements n size (suc k) is le =
    let here = part_before elements n k size (omega arith) is in
    let before = together_front elements n size k is (omega arith) in
    flat_map-append (part elements n) (places k) (k ∷ []) ∙ (both before (append-nil (part elements n k) ∙ here) ∙ (sym (take-add (k * size) size elements) ∙ ap (λ (m : ℕ). take m elements) (next_times k size)))
  where
    both : {xs ys us vs : List X} → xs ≡ ys → us ≡ vs → xs ++ us ≡ ys ++ vs
    both e f = λ i. e i ++ f i

    next_times : (k size : ℕ) → k * size + size ≡ suc k * size
    next_times k size = omega (arith, suc-mul k size)

together_map : {X Y : Type 0} → (f : X → List Y) (xs : List X) → flat_map (λ ys. ys) (map f xs) ≡ flat_map f xs
together_map f [] = refl
together_map f (x ∷ xs) = ap (λ ys. f x ++ ys) (together_map f xs)

-- the parts of a list, one after the other, are the list
pub parts_together : {X : Type 0} → (elements : List X) (n : ℕ) → 0 < n → flat_map (λ xs. xs) (parts elements n) ≡ elements
unfolding parts
parts_together elements zero some = absurd (omega arith)
parts_together {X} elements (suc m) some =
    let size = max (share elements (suc m)) 1 in
    let last = part_end elements (suc m) m size (omega arith) refl in
    together_map (part elements (suc m)) (places (suc m)) ∙ (flat_map-append (part elements (suc m)) (places m) (m ∷ []) ∙ (both (together_front elements (suc m) size m refl (omega arith)) (append-nil (part elements (suc m) m) ∙ last) ∙ take-append-drop (m * size) elements))
  where
    both : {xs ys us vs : List X} → xs ≡ ys → us ≡ vs → xs ++ us ≡ ys ++ vs
    both e f = λ i. e i ++ f i
