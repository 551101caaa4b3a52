-- Ranges written out: how many numbers, the first ones, and those behind them.
use Rattle.std.proofs.Common.{◌≡◌, ◌∙◌, refl, ap, sym, ℕ, zero, suc, ◌+◌, ◌-◌, ◌<◌, ◌≤◌, ℤ, pos, negsuc, ◌+ℤ◌, ◌-ℤ◌, List, [], ◌∷◌, ◌++◌, length, take, drop, arith, length-append, append_assoc, Option, Some, None, add-one, drop-cons, get_or}
use Rattle.std.specs.Option.{SomeIff}
use Rattle.std.proofs.lemmas.Int.{ints}
use Rattle.std.proofs.lemmas.List.{append-nil, drop_all}
use Rattle.cov_base.specs.Sets.{count_from, size, span, written, natural}

-- what `Int::new` answers, where it answers a number
pub some_is : (o : Option ℤ) (P : Type 0) (n v : ℤ) → SomeIff o P n → o ≡ Some v → v ≡ n
some_is None P n v s e = absurd cc
some_is (Some x) P n v s e = let is = s.1 in cc

length-count_from : (n : ℕ) (low : ℤ) → length (count_from low n) ≡ n
length-count_from zero low = refl
length-count_from (suc n) low = ap suc (length-count_from n (low +ℤ pos 1))

pub length-span : (r : ℤ × ℤ) → length (span r) ≡ size r
unfolding span
length-span r = length-count_from (size r) r.0

pub written-cons : (r : ℤ × ℤ) (rs : List (ℤ × ℤ)) → written (r ∷ rs) ≡ span r ++ written rs
unfolding written
written-cons r rs = refl

pub written-nil : written [] ≡ []
unfolding written
written-nil = refl

pub written-append : (xs ys : List (ℤ × ℤ)) → written (xs ++ ys) ≡ written xs ++ written ys
unfolding written
written-append [] ys = refl
written-append (x ∷ xs) ys = ap (λ (zs : List ℤ). span x ++ zs) (written-append xs ys) ∙ sym (append_assoc (span x) (written xs) (written ys))

pub written-one : (xs : List (ℤ × ℤ)) (r : ℤ × ℤ) → written (xs ++ r ∷ []) ≡ written xs ++ span r
unfolding written
written-one xs r = written-append xs (r ∷ []) ∙ ap (λ (zs : List ℤ). written xs ++ zs) (append-nil (span r))

-- ---- the first numbers, and those behind them

take-append_past : {X : Type 0} → (xs ys : List X) (m : ℕ) → length xs ≤ m → take m (xs ++ ys) ≡ xs ++ take (m - length xs) ys
take-append_past [] ys m h = ap (λ (k : ℕ). take k ys) (omega arith)
take-append_past (x ∷ xs) ys zero h = absurd (omega arith)
take-append_past {X} (x ∷ xs) ys (suc m) h = ap (λ (zs : List X). x ∷ zs) (take-append_past xs ys m (omega arith) ∙ ap (λ (k : ℕ). xs ++ take k ys) (omega arith))

drop-append_past : {X : Type 0} → (xs ys : List X) (m : ℕ) → length xs ≤ m → drop m (xs ++ ys) ≡ drop (m - length xs) ys
drop-append_past [] ys m h = ap (λ (k : ℕ). drop k ys) (omega arith)
drop-append_past (x ∷ xs) ys zero h = absurd (omega arith)
drop-append_past (x ∷ xs) ys (suc m) h = drop-append_past xs ys m (omega arith) ∙ ap (λ (k : ℕ). drop k ys) (omega arith)

take-count_from : (n k : ℕ) (low : ℤ) (ys : List ℤ) → k ≤ n → take k (count_from low n ++ ys) ≡ count_from low k
take-count_from n zero low ys h = refl
take-count_from zero (suc k) low ys h = absurd (omega arith)
take-count_from (suc n) (suc k) low ys h = ap (λ (xs : List ℤ). low ∷ xs) (take-count_from n k (low +ℤ pos 1) ys (omega arith))

drop-count_from : (n k : ℕ) (low : ℤ) (ys : List ℤ) → k ≤ n → drop k (count_from low n ++ ys) ≡ count_from (low +ℤ pos k) (n - k) ++ ys
drop-count_from n zero low ys h = same (omega (arith, ints)) (omega arith)
  where
    same : low ≡ low +ℤ pos 0 → n ≡ n - 0 → count_from low n ++ ys ≡ count_from (low +ℤ pos 0) (n - 0) ++ ys
    same e f = λ i. count_from (e i) (f i) ++ ys
drop-count_from zero (suc k) low ys h = absurd (omega arith)
drop-count_from (suc n) (suc k) low ys h = drop-count_from n k (low +ℤ pos 1) ys (omega arith) ∙ same (omega (arith, ints)) (omega arith)
  where
    same : (low +ℤ pos 1) +ℤ pos k ≡ low +ℤ pos (suc k) → n - k ≡ suc n - suc k → count_from ((low +ℤ pos 1) +ℤ pos k) (n - k) ++ ys ≡ count_from (low +ℤ pos (suc k)) (suc n - suc k) ++ ys
    same e f = λ i. count_from (e i) (f i) ++ ys

-- all numbers of the first range, and some behind it
pub take_past : (r : ℤ × ℤ) (rs : List (ℤ × ℤ)) (m : ℕ) → size r ≤ m → take m (written (r ∷ rs)) ≡ span r ++ take (m - size r) (written rs)
unfolding written
take_past r rs m h = take-append_past (span r) (written rs) m (omega (arith, length-span r)) ∙ ap (λ (k : ℕ). span r ++ take (m - k) (written rs)) (length-span r)

pub drop_past : (r : ℤ × ℤ) (rs : List (ℤ × ℤ)) (m : ℕ) → size r ≤ m → drop m (written (r ∷ rs)) ≡ drop (m - size r) (written rs)
unfolding written
drop_past r rs m h = drop-append_past (span r) (written rs) m (omega (arith, length-span r)) ∙ ap (λ (k : ℕ). drop (m - k) (written rs)) (length-span r)

-- a range of so many numbers
pub span_of : (low : ℤ) (count : ℕ) (r : ℤ × ℤ) → r.0 ≡ low → (r.1 +ℤ pos 1) -ℤ r.0 ≡ pos count → span r ≡ count_from low count
unfolding span
span_of low count r first many = λ i. count_from (first i) (natural (many i))

-- a range that has numbers, by how many
some_numbers : (r : ℤ × ℤ) (m : ℕ) → m < size r → (r.1 +ℤ pos 1) -ℤ r.0 ≡ pos (size r)
some_numbers r m h = by ((r.1 +ℤ pos 1) -ℤ r.0) h
  where
    by : (z : ℤ) → m < natural z → z ≡ pos (natural z)
    by (pos n) lt = refl
    by (negsuc n) lt = absurd (omega arith)

-- some numbers of the first range, and those behind them
pub take_within : (low high : ℤ) (rs : List (ℤ × ℤ)) (m : ℕ) → m < size (low, high) → take m (written ((low, high) ∷ rs)) ≡ count_from low m
unfolding written span
take_within low high rs m h = take-count_from (size (low, high)) m low (written rs) (omega arith)

pub drop_within : (low high : ℤ) (rs : List (ℤ × ℤ)) (m : ℕ) → m < size (low, high) → drop m (written ((low, high) ∷ rs)) ≡ written ((low +ℤ pos m, high) ∷ rs)
unfolding written span
drop_within low high rs m h =
    let many = some_numbers (low, high) m h in
    let left : (high +ℤ pos 1) -ℤ (low +ℤ pos m) ≡ pos (size (low, high) - m) = omega (arith, ints, many) in
    drop-count_from (size (low, high)) m low (written rs) (omega arith) ∙ ap (λ (xs : List ℤ). xs ++ written rs) (sym (span_of (low +ℤ pos m) (size (low, high) - m) (low +ℤ pos m, high) refl left))

-- one number more
pub count_from-last : (low : ℤ) (n : ℕ) → count_from low (n + 1) ≡ count_from low n ++ (low +ℤ pos n) ∷ []
count_from-last low n = rw add-one (last low n)
  where
    last : (low : ℤ) (n : ℕ) → count_from low (suc n) ≡ count_from low n ++ (low +ℤ pos n) ∷ []
    last low zero = ap (λ (v : ℤ). v ∷ []) (omega (arith, ints))
    last low (suc n) = ap (λ (xs : List ℤ). low ∷ xs) (last (low +ℤ pos 1) n ∙ ap (λ (v : ℤ). count_from (low +ℤ pos 1) n ++ v ∷ []) (next low n))
      where
        next : (low : ℤ) (n : ℕ) → (low +ℤ pos 1) +ℤ pos n ≡ low +ℤ pos (suc n)
        next low n = omega (arith, ints)

pub span_is : (low high : ℤ) (n : ℕ) → n ≡ size (low, high) → span (low, high) ≡ count_from low n
unfolding span
span_is low high n e = ap (count_from low) (sym e)

-- ---- ranges one after the other, as in a loop

pub drop_at : {X : Type 0} → (xs : List X) (i : ℕ) (x : X) → i < length xs → x ≡ get_or xs i x → drop i xs ≡ x ∷ drop (i + 1) xs
drop_at xs i x h is = rw (add-one, drop-cons xs i x h) (ap (λ y. y ∷ drop (suc i) xs) (sym is))

pub length_step : (count new size' : ℕ) (ranges rs : List (ℤ × ℤ)) (r : ℤ × ℤ) (whole : ℕ) → ranges ≡ r ∷ rs → count + length (written ranges) ≡ whole → size' ≡ size r → new ≡ count + size' → new + length (written rs) ≡ whole
length_step count new size' ranges rs r whole at was is added =
    let long : length (written ranges) ≡ size r + length (written rs) = ap (λ (xs : List (ℤ × ℤ)). length (written xs)) at ∙ (ap length (written-cons r rs) ∙ (length-append (span r) (written rs) ∙ ap (λ (n : ℕ). n + length (written rs)) (length-span r))) in
    omega (arith, long, was, is, added)

pub written_step : (done new : List ℤ) (ranges rs : List (ℤ × ℤ)) (r : ℤ × ℤ) (whole : List ℤ) → ranges ≡ r ∷ rs → done ++ written ranges ≡ whole → new ≡ done ++ span r → new ++ written rs ≡ whole
written_step done new ranges rs r whole at was added =
    ap (λ (xs : List ℤ). xs ++ written rs) added ∙ (append_assoc done (span r) (written rs) ∙ (sym (ap (λ (xs : List ℤ). done ++ xs) (ap written at ∙ written-cons r rs)) ∙ was))

pub length_end : (count : ℕ) (ranges : List (ℤ × ℤ)) (i whole : ℕ) → length ranges ≤ i → count + length (written (drop i ranges)) ≡ whole → count ≡ whole
length_end count ranges i whole past was =
    let none : length (written (drop i ranges)) ≡ 0 = ap (λ (xs : List (ℤ × ℤ)). length (written xs)) (drop_all i ranges past) ∙ ap length written-nil in
    omega (arith, none, was)

pub written_end : (done : List ℤ) (ranges : List (ℤ × ℤ)) (i : ℕ) (whole : List ℤ) → length ranges ≤ i → done ++ written (drop i ranges) ≡ whole → done ≡ whole
written_end done ranges i whole past was =
    sym (ap (λ (xs : List ℤ). done ++ xs) (ap written (drop_all i ranges past) ∙ written-nil) ∙ append-nil done) ∙ was

-- a number behind those from `low` on
pub number_step : (low : ℤ) (offset : ℕ) (before now new : List ℤ) (v : ℤ) → now ≡ before ++ count_from low offset → v ≡ low +ℤ pos offset → new ≡ now ++ v ∷ [] → new ≡ before ++ count_from low (offset + 1)
number_step low offset before now new v was is added =
    added ∙ (both was is ∙ (append_assoc before (count_from low offset) ((low +ℤ pos offset) ∷ []) ∙ ap (λ (xs : List ℤ). before ++ xs) (sym (count_from-last low offset))))
  where
    both : {xs ys : List ℤ} {a b : ℤ} → xs ≡ ys → a ≡ b → xs ++ a ∷ [] ≡ ys ++ b ∷ []
    both e f = λ i. e i ++ f i ∷ []

pub span_at : (low high : ℤ) (offset end : ℕ) → end ≡ size (low, high) → end ≤ offset → offset ≤ end → span (low, high) ≡ count_from low offset
span_at low high offset end is past within = span_is low high offset (equal offset end past within ∙ is)
  where
    equal : (a b : ℕ) → b ≤ a → a ≤ b → a ≡ b
    equal a b h k = omega arith

pub numbers_end : (low high : ℤ) (offset end : ℕ) (before now : List ℤ) → now ≡ before ++ count_from low offset → end ≡ size (low, high) → end ≤ offset → offset ≤ end → now ≡ before ++ span (low, high)
numbers_end low high offset end before now was is past within = was ∙ ap (λ (xs : List ℤ). before ++ xs) (sym (span_at low high offset end is past within))
