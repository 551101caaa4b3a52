-- Lists that are made part by part.
use Rattle.std.proofs.Common.{◌≡◌, ℕ, zero, suc, ◌+◌, ◌*◌, ◌/◌, ◌%◌, ◌<◌, ◌≤◌, List, [], ◌∷◌, ◌++◌, length, take, drop, refl, sym, ap, ◌∙◌, arith}
use Rattle.std.specs.Prelude.{min}
use Rattle.std.proofs.lemmas.Nat.{div-add-mod', mod_below, mul-le}
use Rattle.store_core.proofs.Listed.{take_all}

take_none : {A : Type 0} (n : ℕ) → take {A = A} n [] ≡ []
take_none zero = refl
take_none (suc n) = refl

take_plus : {A : Type 0} (a b : ℕ) (xs : List A) → take (a + b) xs ≡ take a xs ++ take b (drop a xs)
take_plus zero b xs = let e : 0 + b ≡ b = omega arith in ap (λ (n : ℕ). take n xs) e
take_plus (suc a) b [] = take_none (suc a + b) ∙ sym (take_none b)
take_plus (suc a) b (x ∷ xs) = let e : suc a + b ≡ suc (a + b) = omega arith in ap (λ (n : ℕ). take n (x ∷ xs)) e ∙ ap (λ (ys : List _). x ∷ ys) (take_plus a b xs)

-- one part more, of a function that takes lists one behind the other
pub part_more : {A C : Type 0} (f : List A → List C) → ((ys zs : List A) → f (ys ++ zs) ≡ f ys ++ f zs) → (xs : List A) (n w : ℕ) (old own new : List C) → old ≡ f (take (n * w) xs) → own ≡ f (take w (drop (n * w) xs)) → new ≡ old ++ own → new ≡ f (take ((n + 1) * w) xs)
part_more f adds xs n w old own new before here is =
    let next : (n + 1) * w ≡ n * w + w = omega arith in
    is ∙ (λ j. before j ++ here j) ∙ sym (ap (λ (k : ℕ). f (take k xs)) next ∙ ap f (take_plus (n * w) w xs) ∙ adds (take (n * w) xs) (take w (drop (n * w) xs)))

covered_by : (q r w : ℕ) → r < w → q * w + r ≤ (q + min 1 r) * w
covered_by q zero w lt =
    let e : (q + min 1 0) * w ≡ q * w = ap (λ (k : ℕ). k * w) (omega arith) in
    omega (arith, e)
covered_by q (suc r) w lt =
    let e : (q + min 1 (suc r)) * w ≡ (q + 1) * w = ap (λ (k : ℕ). k * w) (omega arith) in
    let next : (q + 1) * w ≡ q * w + w = omega arith in
    omega (arith, e, next, lt)

-- so many parts have all elements
covered : (n w parts : ℕ) → 0 < w → parts ≡ n / w + min 1 (n % w) → n ≤ parts * w
covered n w parts some is =
    let e : parts * w ≡ (n / w + min 1 (n % w)) * w = ap (λ (p : ℕ). p * w) is in
    omega (arith, e, div-add-mod' n w, covered_by (n / w) (n % w) w (mod_below n w some))

pub all_parts : {A C : Type 0} (f : List A → List C) (xs : List A) (w parts n : ℕ) (all : List C) → 0 < w → parts ≡ length xs / w + min 1 (length xs % w) → parts ≤ n → all ≡ f (take (n * w) xs) → all ≡ f xs
all_parts f xs w parts n all some is past e =
    let more : parts * w ≤ n * w = mul-le parts w n w past (omega arith) in
    e ∙ ap f (take_all xs (n * w) (omega (arith, more, covered (length xs) w parts some is)))
