-- How many numbers intervals have, and which one is the k-th.
use Rattle.std.proofs.Common.{◌≡◌, ◌∙◌, ap, refl, subst, ℕ, zero, suc, ◌+◌, ◌-◌, ◌*◌, ◌^◌, ◌<◌, ◌≤◌, ℤ, pos, ◌+ℤ◌, ◌≤ℤ◌, List, [], ◌∷◌, ◌++◌, length, get_or, length-append, append_assoc, arith, Some, None}
use Rattle.std.specs.Prelude.{slice_get}
use Rattle.std.proofs.lemmas.Int.{ints}
use Rattle.std.proofs.lemmas.Option.{slice_get_past}
use Rattle.cov_base.specs.Sets.{count_from, size, span, written, IsNormalFrom, greatest, least}
use Rattle.cov_base.specs.Intervals.{starts, total}
use Rattle.cov_base.proofs.Members.{size_of_some}
use Rattle.cov_base.proofs.Normal.{normal_lower}

length-count_from : (n : ℕ) (low : ℤ) → length (count_from low n) ≡ n
length-count_from zero low = refl
length-count_from (suc n) low = ap suc (length-count_from n (low +ℤ pos 1))

length-span : (r : ℤ × ℤ) → length (span r) ≡ size r
unfolding span
length-span r = length-count_from (size r) r.0

pub total-written : (count : ℕ) (rs : List (ℤ × ℤ)) → total count rs ≡ count + length (written rs)
unfolding written
total-written count [] = omega arith
total-written count (r ∷ rs) = omega (arith, total-written (count + size r) rs, length-append (span r) (written rs), length-span r)

slice_get-count_from : (n : ℕ) (low : ℤ) (k : ℕ) → k < n → slice_get (count_from low n) k ≡ Some (low +ℤ pos k)
slice_get-count_from zero low k h = absurd (omega arith)
slice_get-count_from (suc n) low zero h = ap Some (omega (arith, ints))
slice_get-count_from (suc n) low (suc k) h = slice_get-count_from n (low +ℤ pos 1) k (omega arith) ∙ ap Some (next low k)
  where
    next : (low : ℤ) (k : ℕ) → (low +ℤ pos 1) +ℤ pos k ≡ low +ℤ pos (suc k)
    next low k = omega (arith, ints)

slice_get-append_left : {X : Type 0} → (xs ys : List X) (k : ℕ) → k < length xs → slice_get (xs ++ ys) k ≡ slice_get xs k
slice_get-append_left [] ys k h = absurd (omega arith)
slice_get-append_left (x ∷ xs) ys zero h = refl
slice_get-append_left (x ∷ xs) ys (suc k) h = slice_get-append_left xs ys k (omega arith)

slice_get-append_right : {X : Type 0} → (xs ys : List X) (k j : ℕ) → k ≡ length xs + j → slice_get (xs ++ ys) k ≡ slice_get ys j
slice_get-append_right [] ys k j e = ap (slice_get ys) (omega arith)
slice_get-append_right (x ∷ xs) ys zero j e = absurd (omega arith)
slice_get-append_right (x ∷ xs) ys (suc k) j e = slice_get-append_right xs ys k j (omega arith)

pub length-starts : (count : ℕ) (rs : List (ℤ × ℤ)) → length (starts count rs) ≡ length rs
length-starts count [] = refl
length-starts count (r ∷ rs) = ap suc (length-starts (count + size r) rs)

-- no interval starts before those numbers
starts_least : (count : ℕ) (rs : List (ℤ × ℤ)) (i : ℕ) → i < length rs → count ≤ get_or (starts count rs) i 0
starts_least count [] i h = absurd (omega arith)
starts_least count (r ∷ rs) zero h = omega arith
starts_least count (r ∷ rs) (suc i) h = omega (arith, starts_least (count + size r) rs i (omega arith))

pub starts_ascend : (count : ℕ) (rs : List (ℤ × ℤ)) (i j : ℕ) → i ≤ j → j < length rs → get_or (starts count rs) i 0 ≤ get_or (starts count rs) j 0
starts_ascend count [] i j le h = absurd (omega arith)
starts_ascend count (r ∷ rs) zero zero le h = omega arith
starts_ascend count (r ∷ rs) zero (suc j) le h = omega (arith, starts_least (count + size r) rs j (omega arith))
starts_ascend count (r ∷ rs) (suc i) zero le h = absurd (omega arith)
starts_ascend count (r ∷ rs) (suc i) (suc j) le h = starts_ascend (count + size r) rs i j (omega arith) (omega arith)

-- the k-th number, by the interval that it stands in and its place there
pub nth_in : (count : ℕ) (rs : List (ℤ × ℤ)) (i k j : ℕ) (d : ℤ × ℤ) → i < length rs → count + k ≡ get_or (starts count rs) i 0 + j → ((t : ℕ) → i < t → t < length rs → count + k < get_or (starts count rs) t 0) → count + k < total count rs
    → (j < size (get_or rs i d)) × (slice_get (written rs) k ≡ Some ((get_or rs i d).0 +ℤ pos j))
unfolding written span
nth_in count [] i k j d h e above low = absurd (omega arith)
nth_in count (r ∷ rs) zero k j d h e above low =
    let small : j < size r = last rs (λ lt. above 1 (omega arith) lt) low in
    let same : k ≡ j = omega arith in
    (small, rw same (slice_get-append_left (count_from r.0 (size r)) (written rs) j (omega (arith, small, length-count_from (size r) r.0)) ∙ slice_get-count_from (size r) r.0 j small))
  where
    last : (ss : List (ℤ × ℤ)) → (1 < suc (length ss) → count + k < get_or (starts (count + size r) ss) 0 0) → count + k < total (count + size r) ss → j < size r
    last [] f g = omega (arith, g, e)
    last (s ∷ ss) f g = omega (arith, f (omega arith), e)
nth_in count (r ∷ rs) (suc i) k j d h e above low =
    let least = starts_least (count + size r) rs i (omega arith) in
    let rest = nth_in (count + size r) rs i (k - size r) j d (omega arith) (omega (arith, least)) (λ t lt le. omega (arith, least, above (suc t) (omega arith) (omega arith))) (omega (arith, least, low)) in
    (rest.0, slice_get-append_right (count_from r.0 (size r)) (written rs) k (k - size r) (omega (arith, least, e, length-count_from (size r) r.0)) ∙ rest.1)

-- there is no number from the count on
pub nth_none : (rs : List (ℤ × ℤ)) (k : ℕ) → total 0 rs ≤ k → slice_get (written rs) k ≡ None
nth_none rs k h = slice_get_past (written rs) k (omega (arith, total-written 0 rs))

-- ---- the loop that counts

pub room : (count : ℕ) (r : ℤ × ℤ) → (least +ℤ pos count) ≤ℤ r.0 → r.0 ≤ℤ r.1 → r.1 ≤ℤ greatest → count + size r ≤ 3 * 2 ^ 63
room count r from some to = omega (arith, ints, size_of_some r some)

pub room_next : (count : ℕ) (r : ℤ × ℤ) (rs : List (ℤ × ℤ)) → IsNormalFrom (least +ℤ pos count) (r ∷ rs) → IsNormalFrom (least +ℤ pos (count + size r)) rs
room_next count r rs n = normal_lower (least +ℤ pos (count + size r)) (r.1 +ℤ pos 2) rs n.2 (omega (arith, ints, n.0, size_of_some r n.1))

pub starts_step : (count : ℕ) (done new whole : List ℕ) (rs ranges : List (ℤ × ℤ)) (r : ℤ × ℤ) → ranges ≡ r ∷ rs → new ≡ done ++ count ∷ [] → done ++ starts count ranges ≡ whole → new ++ starts (count + size r) rs ≡ whole
starts_step count done new whole rs ranges r at added was = rw added (append_assoc done (count ∷ []) (starts (count + size r) rs) ∙ subst (λ (xs : List (ℤ × ℤ)). done ++ starts count xs ≡ whole) at was)

pub total_step : (count whole : ℕ) (rs ranges : List (ℤ × ℤ)) (r : ℤ × ℤ) → ranges ≡ r ∷ rs → total count ranges ≡ whole → total (count + size r) rs ≡ whole
total_step count whole rs ranges r at was = subst (λ (xs : List (ℤ × ℤ)). total count xs ≡ whole) at was
