-- Numbers that follow each other: their first ones, those behind them, and the ranges that they make.
use Rattle.std.proofs.Common.{◌≡◌, ◌∙◌, refl, ap, sym, subst, ◌≤ℤ◌, ℕ, zero, suc, ◌+◌, ◌-◌, ◌*◌, ◌/◌, ◌^◌, ◌<◌, ◌≤◌, ℤ, pos, ◌+ℤ◌, ◌-ℤ◌, List, [], ◌∷◌, ◌++◌, length, take, drop, map, arith, pow-suc, add-one, min, max, Bool, true, false, Option, Some, None}
use Rattle.std.specs.Option.{SomeIff}
use Rattle.std.proofs.lemmas.Int.{ints}
use Rattle.std.proofs.lemmas.List.{map-append}
use Rattle.std.proofs.Math.Nat.{mul-le-mul_right, mul-div-le, suc-mul, le-div_iff_mul-le}
use Rattle.auto_bins.specs.Automatic.{automatic_parts, automatic_ranges, last_number, ends_of, AllInOrder}
use Rattle.cov_base.specs.Sets.{count_from, size, span, natural}
use Rattle.cov_base.proofs.Members.{size_of_some}
use Rattle.bin_spec.specs.Parts.{share, part, parts, places}
use Rattle.bin_spec.proofs.Spreads.{part_before, part_end}
use Rattle.bin_spec.specs.Types.{lowest, domain}

-- what `Int::new` answers, where it answers a number
pub some_is : (o : Option ℤ) (P : Type 0) (n v : ℤ) → SomeIff o P n → o ≡ Some v → v ≡ n
some_is None P n v s e = absurd cc
some_is (Some x) P n v s e = let is = s.1 in cc

pub length-count_from : (n : ℕ) (low : ℤ) → length (count_from low n) ≡ n
length-count_from zero low = refl
length-count_from (suc n) low = ap suc (length-count_from n (low +ℤ pos 1))

pub drop-count_from : (n k : ℕ) (low : ℤ) → k ≤ n → drop k (count_from low n) ≡ count_from (low +ℤ pos k) (n - k)
drop-count_from n zero low h = same (omega (arith, ints)) (omega arith)
  where
    same : low ≡ low +ℤ pos 0 → n ≡ n - 0 → count_from low n ≡ count_from (low +ℤ pos 0) (n - 0)
    same e f = λ i. count_from (e i) (f i)
drop-count_from zero (suc k) low h = absurd (omega arith)
drop-count_from (suc n) (suc k) low h = drop-count_from n k (low +ℤ pos 1) (omega arith) ∙ same (omega (arith, ints)) (omega arith)
  where
    same : (low +ℤ pos 1) +ℤ pos k ≡ low +ℤ pos (suc k) → n - k ≡ suc n - suc k → count_from ((low +ℤ pos 1) +ℤ pos k) (n - k) ≡ count_from (low +ℤ pos (suc k)) (suc n - suc k)
    same e f = λ i. count_from (e i) (f i)

pub take-count_from : (n k : ℕ) (low : ℤ) → k ≤ n → take k (count_from low n) ≡ count_from low k
take-count_from n zero low h = refl
take-count_from zero (suc k) low h = absurd (omega arith)
take-count_from (suc n) (suc k) low h = ap (λ (xs : List ℤ). low ∷ xs) (take-count_from n k (low +ℤ pos 1) (omega arith))

-- a range of so many numbers
pub span_of : (low : ℤ) (count : ℕ) (range : ℤ × ℤ) → range.0 ≡ low → range.1 ≡ (low +ℤ pos count) -ℤ pos 1 → span range ≡ count_from low count
unfolding span
span_of low count range first last = let many = sized ((range.1 +ℤ pos 1) -ℤ range.0) count (omega (arith, ints, first, last)) in λ i. count_from (first i) (many i)
  where
    sized : (z : ℤ) (n : ℕ) → z ≡ pos n → natural z ≡ n
    sized z n e = ap natural e

half_twice : (w : ℕ) → 1 ≤ w → 2 ^ (w - 1) + 2 ^ (w - 1) ≡ 2 ^ w
half_twice zero h = absurd (omega arith)
half_twice (suc w) h = half (omega arith)
  where
    half : suc w - 1 ≡ w → 2 ^ (suc w - 1) + 2 ^ (suc w - 1) ≡ 2 ^ suc w
    half e = rw e (omega (arith, pow-suc 2 w))

-- the numbers of a type, from its lowest on
pub span-domain : (width : ℕ) (signed : Bool) → 1 ≤ width → span (domain width signed) ≡ count_from (lowest width signed) (2 ^ width)
span-domain width true h = span_of (lowest width true) (2 ^ width) (domain width true) refl (omega (arith, ints, half_twice width h))
span-domain width false h = span_of (lowest width false) (2 ^ width) (domain width false) refl (omega (arith, ints))

-- the share of a part stays within the numbers
pub share_bound : (count bins per bin : ℕ) → per ≡ count / bins → bin < bins → bin * per + per ≤ count
share_bound count bins per bin is within =
    let more : (bin + 1) * per ≤ bins * per = mul-le-mul_right per (omega arith) in
    let whole : bins * per ≤ count = rw is (mul-div-le count bins) in
    omega (arith, more, whole, next_times bin per)
  where
    next_times : (m n : ℕ) → (m + 1) * n ≡ m * n + n
    next_times m n = rw add-one (suc-mul m n)

share_is : (low : ℤ) (count bins per : ℕ) → 1 ≤ bins → bins ≤ count → per ≡ count / bins → per ≡ max (share (count_from low count) bins) 1
share_is low count bins per some most is =
    let positive : 1 ≤ count / bins = (le-div_iff_mul-le {k = bins} {x = 1} {y = count} some).1 (omega arith) in
    let long : share (count_from low count) bins ≡ count / bins = ap (λ (n : ℕ). n / bins) (length-count_from count low) in
    omega (arith, is, positive, long)

-- one range behind those of the parts before
pub spread_step : (low : ℤ) (count bins per bin : ℕ) (old new : List (ℤ × ℤ)) (range : ℤ × ℤ) → 1 ≤ bins → bins ≤ count → per ≡ count / bins → bin < bins - 1
    → range.0 ≡ low +ℤ pos (bin * per) → range.1 ≡ (low +ℤ pos (bin * per + per)) -ℤ pos 1 → new ≡ old ++ range ∷ []
    → map span old ≡ map (part (count_from low count) bins) (places bin) → map span new ≡ map (part (count_from low count) bins) (places (bin + 1))
spread_step low count bins per bin old new range some most is before first last added was =
    let within : bin * per + per ≤ count = share_bound count bins per bin is (omega arith) in
    let behind = drop-count_from count (bin * per) low (omega (arith, within)) in
    let here : part (count_from low count) bins bin ≡ count_from (low +ℤ pos (bin * per)) per =
    part_before (count_from low count) bins bin per (omega arith) (share_is low count bins per some most is) ∙ (ap (take per) behind ∙ take-count_from (count - bin * per) per (low +ℤ pos (bin * per)) (omega (arith, within))) in
    let spanned = span_of (low +ℤ pos (bin * per)) per range first (last ∙ omega (arith, ints)) in
    ap (map span) added ∙ (map-append span old (range ∷ []) ∙ (joined was (spanned ∙ sym here) ∙ sym (next_of (part (count_from low count) bins) bin)))
  where
    joined : {xs ys : List (List ℤ)} {x y : List ℤ} → xs ≡ ys → x ≡ y → xs ++ x ∷ [] ≡ ys ++ y ∷ []
    joined e f = λ i. e i ++ f i ∷ []

    next_of : (f : ℕ → List ℤ) (j : ℕ) → map f (places (j + 1)) ≡ map f (places j) ++ f j ∷ []
    next_of f j = rw add-one (map-append f (places j) (j ∷ []))

-- the last range
pub spread_end : (low : ℤ) (count bins per bin : ℕ) (old new : List (ℤ × ℤ)) (range : ℤ × ℤ) → 1 ≤ bins → bins ≤ count → per ≡ count / bins → bin + 1 ≡ bins
    → range.0 ≡ low +ℤ pos (bin * per) → range.1 ≡ (low +ℤ pos (bin * per + (count - bin * per))) -ℤ pos 1 → new ≡ old ++ range ∷ []
    → map span old ≡ map (part (count_from low count) bins) (places bin) → map span new ≡ parts (count_from low count) bins
unfolding parts
spread_end low count bins per bin old new range some most is end first last added was =
    let within : bin * per + per ≤ count = share_bound count bins per bin is (omega arith) in
    let behind = drop-count_from count (bin * per) low (omega (arith, within)) in
    let here : part (count_from low count) bins bin ≡ count_from (low +ℤ pos (bin * per)) (count - bin * per) =
    part_end (count_from low count) bins bin per end (share_is low count bins per some most is) ∙ behind in
    let spanned = span_of (low +ℤ pos (bin * per)) (count - bin * per) range first (last ∙ omega (arith, ints)) in
    ap (map span) added ∙ (map-append span old (range ∷ []) ∙ (joined was (spanned ∙ sym here) ∙ (sym (next_of (part (count_from low count) bins) bin) ∙ ap (λ (n : ℕ). map (part (count_from low count) bins) (places n)) end)))
  where
    joined : {xs ys : List (List ℤ)} {x y : List ℤ} → xs ≡ ys → x ≡ y → xs ++ x ∷ [] ≡ ys ++ y ∷ []
    joined e f = λ i. e i ++ f i ∷ []

    next_of : (f : ℕ → List ℤ) (j : ℕ) → map f (places (j + 1)) ≡ map f (places j) ++ f j ∷ []
    next_of f j = rw add-one (map-append f (places j) (j ∷ []))

-- the automatic parts of a type
pub automatic_is : (width : ℕ) (signed : Bool) (most bins count : ℕ) (low : ℤ) (ranges : List (ℤ × ℤ)) → 1 ≤ width → low ≡ lowest width signed → count ≡ 2 ^ width → bins ≡ min count most
    → map span ranges ≡ parts (count_from low count) bins → map span ranges ≡ automatic_parts width signed most
automatic_is width signed most bins count low ranges some from many is was =
    was ∙ both (numbers from many ∙ sym (span-domain width signed some)) (is ∙ ap (λ (n : ℕ). min n most) many)
  where
    numbers : {a b : ℤ} {m n : ℕ} → a ≡ b → m ≡ n → count_from a m ≡ count_from b n
    numbers e f = λ i. count_from (e i) (f i)

    both : {xs ys : List ℤ} {m n : ℕ} → xs ≡ ys → m ≡ n → parts xs m ≡ parts ys n
    both e f = λ i. parts (e i) (f i)

-- ---- the ends of the parts

pub in_order-last : (ranges : List (ℤ × ℤ)) (range : ℤ × ℤ) → AllInOrder ranges → range.0 ≤ℤ range.1 → AllInOrder (ranges ++ range ∷ [])
in_order-last [] range order le = (le, tt)
in_order-last (r ∷ rs) range order le = (order.0, in_order-last rs range order.1 le)

-- one range more, in order
pub in_order_next : (old new : List (ℤ × ℤ)) (range : ℤ × ℤ) → new ≡ old ++ range ∷ [] → AllInOrder old → range.0 ≤ℤ range.1 → AllInOrder new
in_order_next old new range added order le = subst AllInOrder (sym added) (in_order-last old range order le)

last_of_count : (n : ℕ) (low : ℤ) → last_number (count_from low (suc n)) ≡ low +ℤ pos n
last_of_count zero low = omega (arith, ints)
last_of_count (suc n) low = last_of_count n (low +ℤ pos 1) ∙ next low n
  where
    next : (low : ℤ) (n : ℕ) → (low +ℤ pos 1) +ℤ pos n ≡ low +ℤ pos (suc n)
    next low n = omega (arith, ints)

ends_of-span : (range : ℤ × ℤ) → range.0 ≤ℤ range.1 → ends_of (span range) ≡ range
unfolding span
ends_of-span range le = by (size range) (size_of_some range le)
  where
    by : (n : ℕ) → pos n ≡ (range.1 +ℤ pos 1) -ℤ range.0 → ends_of (count_from range.0 n) ≡ range
    by zero e = absurd (omega (arith, ints, le, e))
    by (suc n) e = let last = last_of_count n range.0 in let is : range.0 +ℤ pos n ≡ range.1 = omega (arith, ints, e) in λ i. (range.0, (last ∙ is) i)

ends_are : (ranges : List (ℤ × ℤ)) → AllInOrder ranges → map ends_of (map span ranges) ≡ ranges
ends_are [] order = refl
ends_are (r ∷ rs) order = λ i. ends_of-span r order.0 i ∷ ends_are rs order.1 i

pub ranges_are : (width most : ℕ) (signed : Bool) (ranges : List (ℤ × ℤ)) → AllInOrder ranges → map span ranges ≡ automatic_parts width signed most → ranges ≡ automatic_ranges width signed most
ranges_are width most signed ranges order is = sym (ends_are ranges order) ∙ ap (map ends_of) is
