-- Filters and what they leave.
use Rattle.std.proofs.Common.{◌≡◌, ℕ, ◌+◌, length, Bool, true, false, ◌||◌, not, cond, List, [], ◌∷◌, ◌++◌, refl, sym, ap, ◌∙◌, arith, true≢false}
use Rattle.std.specs.Prelude.{filter, count_by}
use Rattle.std.specs.List.{list_any}
use Rattle.std.proofs.lemmas.List.Sums.{sum_by-cons}
use Rattle.cov_history.proofs.Bools.{by_bool}

pub filter_append : {A : Type 0} (p : A → Bool) (xs ys : List A) → filter p (xs ++ ys) ≡ filter p xs ++ filter p ys
filter_append p [] ys = refl
filter_append p (x ∷ xs) ys = let rest = filter_append p xs ys in by_bool (p x) (λ k. rw k (ap (λ zs. x ∷ zs) rest)) (λ k. rw k rest)

pub filter_swap : {A : Type 0} (p q : A → Bool) (xs : List A) → filter p (filter q xs) ≡ filter q (filter p xs)
filter_swap p q [] = refl
filter_swap p q (x ∷ xs) =
    let rest = filter_swap p q xs in
    by_bool (p x)
    (λ k. by_bool (q x) (λ j. rw (j, k, j) (ap (λ zs. x ∷ zs) rest)) (λ j. rw (j, k, j) rest))
    (λ k. by_bool (q x) (λ j. rw (j, k) rest) (λ j. rw (j, k) rest))

-- what is counted is kept
pub count_kept : {A : Type 0} (t keep : A → Bool) → ((x : A) → t x ≡ true → keep x ≡ true) → (xs : List A) → count_by t (filter keep xs) ≡ count_by t xs
count_kept t keep sure [] = refl
count_kept {A = A} t keep sure (x ∷ xs) =
    let rest = count_kept t keep sure xs in
    let c = sum_by-cons (λ (y : A). cond (t y) 1 0) x xs in
    by_bool (keep x)
    (λ k. let e : filter keep (x ∷ xs) ≡ x ∷ filter keep xs = rw k refl in let d = sum_by-cons (λ (y : A). cond (t y) 1 0) x (filter keep xs) in ap (count_by t) e ∙ d ∙ ap (λ n. cond (t x) 1 0 + n) rest ∙ sym c)
    (λ k. let e : filter keep (x ∷ xs) ≡ filter keep xs = rw k refl in
    let no : t x ≡ false = by_bool (t x) (λ j. absurd (true≢false (sym (sure x j) ∙ k))) (λ j. j) in
    let z : ◌≡◌ {A = ℕ} (cond (t x) 1 0) 0 = rw no refl in
    ap (count_by t) e ∙ rest ∙ omega (arith, c, z))

-- what is looked for is kept, or is lost
pub any_kept : {A : Type 0} (t keep : A → Bool) → ((x : A) → t x ≡ true → keep x ≡ true) → (xs : List A) → list_any t (filter keep xs) ≡ list_any t xs
any_kept t keep sure [] = refl
any_kept t keep sure (x ∷ xs) =
    let rest = any_kept t keep sure xs in
    by_bool (keep x)
    (λ k. rw k (ap (λ b. t x || b) rest))
    (λ k. let no : t x ≡ false = by_bool (t x) (λ j. absurd (true≢false (sym (sure x j) ∙ k))) (λ j. j) in rw (k, no) rest)

pub any_lost : {A : Type 0} (t keep : A → Bool) → ((x : A) → t x ≡ true → keep x ≡ false) → (xs : List A) → list_any t (filter keep xs) ≡ false
any_lost t keep sure [] = refl
any_lost t keep sure (x ∷ xs) =
    let rest = any_lost t keep sure xs in
    by_bool (keep x)
    (λ k. let no : t x ≡ false = by_bool (t x) (λ j. absurd (true≢false (sym k ∙ sure x j))) (λ j. j) in rw (k, no) rest)
    (λ k. rw k rest)

-- what stands in a part stands in the whole
pub any_part : {A : Type 0} (t keep : A → Bool) (xs : List A) → list_any t (filter keep xs) ≡ true → list_any t xs ≡ true
any_part t keep [] h = h
any_part t keep (x ∷ xs) h =
    let rest = any_part t keep xs in
    by_bool (t x)
    (λ k. rw k refl)
    (λ k. by_bool (keep x)
    (λ j. let g : list_any t (filter keep xs) ≡ true = sym (rw (j, k) refl) ∙ h in rw k (rest g))
    (λ j. let g : list_any t (filter keep xs) ≡ true = sym (rw j refl) ∙ h in rw k (rest g)))

-- where the test finds nothing, nothing is left out
pub filter_all : {A : Type 0} (t : A → Bool) (xs : List A) → list_any t xs ≡ false → filter (λ x. not (t x)) xs ≡ xs
filter_all t [] h = refl
filter_all t (x ∷ xs) h =
    by_bool (t x)
    (λ yes. absurd (true≢false (sym (rw yes refl) ∙ h)))
    (λ no. let g : list_any t xs ≡ false = sym (rw no refl) ∙ h in rw no (ap (λ zs. x ∷ zs) (filter_all t xs g)))

-- what is left out and what is left
pub length_without : {A : Type 0} (t : A → Bool) (xs : List A) → length (filter (λ x. not (t x)) xs) + count_by t xs ≡ length xs
length_without t [] = refl
length_without {A = A} t (x ∷ xs) =
    let rest = length_without t xs in
    let c = sum_by-cons (λ (y : A). cond (t y) 1 0) x xs in
    by_bool (t x)
    (λ k. let one : ◌≡◌ {A = ℕ} (cond (t x) 1 0) 1 = rw k refl in let l : length (filter (λ y. not (t y)) (x ∷ xs)) ≡ length (filter (λ y. not (t y)) xs) = rw k refl in omega (arith, c, one, l, rest))
    (λ k. let one : ◌≡◌ {A = ℕ} (cond (t x) 1 0) 0 = rw k refl in let l : length (filter (λ y. not (t y)) (x ∷ xs)) ≡ length (filter (λ y. not (t y)) xs) + 1 = rw k (omega arith) in omega (arith, c, one, l, rest))

pub count_none : {A : Type 0} (t : A → Bool) (xs : List A) → list_any t xs ≡ false → count_by t xs ≡ 0
count_none t [] h = refl
count_none {A = A} t (x ∷ xs) h =
    let c = sum_by-cons (λ (y : A). cond (t y) 1 0) x xs in
    by_bool (t x)
    (λ yes. absurd (true≢false (sym (rw yes refl) ∙ h)))
    (λ no. let g : list_any t xs ≡ false = sym (rw no refl) ∙ h in let rest = count_none t xs g in let z : ◌≡◌ {A = ℕ} (cond (t x) 1 0) 0 = rw no refl in omega (arith, c, rest, z))
