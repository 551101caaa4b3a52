-- The numbers of a range that intervals have, by ascending lists with the same members.
use Rattle.std.proofs.Common.{◌≡◌, ◌∙◌, refl, ap, sym, subst, ℕ, zero, suc, ◌+◌, ◌-◌, ◌<◌, ◌≤◌, ℤ, pos, ◌+ℤ◌, ◌<ℤ◌, ◌≤ℤ◌, List, [], ◌∷◌, ◌++◌, length, take, drop, take_all, length-drop, map, filter, get_or, append_assoc, arith, Bool, true, false, cond, int_lt, int_le, add-one}
use Rattle.std.specs.Prelude.{◌&&◌, ◌||◌}
use Rattle.std.specs.Int.{int_max, int_min}
use Rattle.std.proofs.lemmas.Grind.{common_steps}
use Rattle.std.proofs.lemmas.Int.{ints, by_lt_z}
use Rattle.std.proofs.lemmas.List.{append-nil, take_more, drop_all}
use Rattle.std.proofs.lemmas.List.Elements.{filter-append}
use Rattle.cov_base.specs.Sets.{count_from, size, span, written, is_in, is_within, covers, ascending, put, set_of, IsNormalFrom}
use Rattle.cov_base.proofs.Members.{is_in-filter, is_in-span, is_in-written, size_of_some, size_of_none}
use Rattle.cov_base.proofs.Runs.{set_of_normal, set_of_covers, set_of_is}
use Rattle.value_bins.specs.Clips.{clip, EndBelow, StandInOrder}
use Rattle.value_bins.proofs.Runs.{written-set_of}
use Rattle.value_bins.proofs.Written.{written-one, written-cons, written-nil}

-- ---- ascending lists

abbrev AscendsFrom : ℤ → List ℤ → Type 0
AscendsFrom low [] = Unit {0}
AscendsFrom low (x ∷ xs) = (low ≤ℤ x) × AscendsFrom (x +ℤ pos 1) xs

abbrev EachBelow : ℤ → List ℤ → Type 0
EachBelow high [] = Unit {0}
EachBelow high (x ∷ xs) = (x <ℤ high) × EachBelow high xs

ascends_lower : (low from : ℤ) (xs : List ℤ) → low ≤ℤ from → AscendsFrom from xs → AscendsFrom low xs
ascends_lower low from [] le h = tt
ascends_lower low from (x ∷ xs) le h = (omega (arith, ints, le, h.0), h.1)

ascends_filter : (p : ℤ → Bool) (low : ℤ) (xs : List ℤ) → AscendsFrom low xs → AscendsFrom low (filter p xs)
ascends_filter p low [] h = tt
ascends_filter p low (x ∷ xs) h = by (p x) (ascends_filter p (x +ℤ pos 1) xs h.1)
  where
    by : (t : Bool) → AscendsFrom (x +ℤ pos 1) (filter p xs) → AscendsFrom low (cond t (x ∷ filter p xs) (filter p xs))
    by true rest = (h.0, rest)
    by false rest = ascends_lower low (x +ℤ pos 1) (filter p xs) (omega (arith, ints, h.0)) rest

ascends_count : (n : ℕ) (low : ℤ) → AscendsFrom low (count_from low n)
ascends_count zero low = tt
ascends_count (suc n) low = (omega (arith, ints), ascends_count n (low +ℤ pos 1))

ascends_span : (r : ℤ × ℤ) → AscendsFrom r.0 (span r)
unfolding span
ascends_span r = ascends_count (size r) r.0

count_each : (n : ℕ) (low high : ℤ) → (low +ℤ pos n) ≤ℤ high → EachBelow high (count_from low n)
count_each zero low high le = tt
count_each (suc n) low high le = (omega (arith, ints, le), count_each n (low +ℤ pos 1) high (omega (arith, ints, le)))

span_each : (r : ℤ × ℤ) (high : ℤ) → r.1 <ℤ high → EachBelow high (span r)
unfolding span
span_each r high lt = by_lt_z r.1 r.0 none some
  where
    none : r.1 <ℤ r.0 → EachBelow high (count_from r.0 (size r))
    none h = subst (λ (n : ℕ). EachBelow high (count_from r.0 n)) (sym (size_of_none r h)) tt

    some : r.0 ≤ℤ r.1 → EachBelow high (count_from r.0 (size r))
    some h = let many = size_of_some r h in count_each (size r) r.0 high (omega (arith, ints, many, lt))

ascends_append : (low middle : ℤ) (xs ys : List ℤ) → AscendsFrom low xs → EachBelow middle xs → low ≤ℤ middle → AscendsFrom middle ys → AscendsFrom low (xs ++ ys)
ascends_append low middle [] ys h e le g = ascends_lower low middle ys le g
ascends_append low middle (x ∷ xs) ys h e le g = (h.0, ascends_append (x +ℤ pos 1) middle xs ys h.1 e.1 (omega (arith, ints, e.0)) g)

put_first : (x : ℤ) (xs : List ℤ) → AscendsFrom (x +ℤ pos 1) xs → put x xs ≡ x ∷ xs
put_first x [] h = refl
put_first x (y ∷ ys) h = by (int_lt x y) (above x y h.0)
  where
    above : (x y : ℤ) → (x +ℤ pos 1) ≤ℤ y → int_lt x y ≡ true
    above x y le = grind (arith, common_steps, ints)

    by : (t : Bool) → t ≡ true → cond t (x ∷ y ∷ ys) (cond (int_lt y x) (y ∷ put x ys) (y ∷ ys)) ≡ x ∷ y ∷ ys
    by t e = rw e refl

ascending_is : (low : ℤ) (xs : List ℤ) → AscendsFrom low xs → ascending xs ≡ xs
ascending_is low [] h = refl
ascending_is low (x ∷ xs) h = ap (put x) (ascending_is (x +ℤ pos 1) xs h.1) ∙ put_first x xs h.1

-- two ascending lists with the same members are one
same_list : (low from : ℤ) (xs ys : List ℤ) → AscendsFrom low xs → AscendsFrom from ys → ((v : ℤ) → is_in xs v ≡ is_in ys v) → xs ≡ ys
same_list low from xs ys h g same =
    let sets : set_of ys ≡ set_of xs = set_of_is (set_of_normal ys).0 (set_of ys) xs (set_of_normal ys).1 (λ v. set_of_covers ys v ∙ sym (same v)) in
    sym (ascending_is low xs h) ∙ (sym (written-set_of xs) ∙ (ap written (sym sets) ∙ (written-set_of ys ∙ ascending_is from ys g)))

-- ---- what intervals have of a range

clips_ascend : (q : ℤ × ℤ) (low : ℤ) (rs : List (ℤ × ℤ)) → IsNormalFrom low rs → AscendsFrom low (written (map (clip q) rs))
unfolding written
clips_ascend q low [] n = tt
clips_ascend q low (r ∷ rs) n =
    ascends_append low (r.1 +ℤ pos 1) (span (clip q r)) (written (map (clip q) rs))
    (ascends_lower low (clip q r).0 (span (clip q r)) (up low q.0 r.0 n.0) (ascends_span (clip q r)))
    (span_each (clip q r) (r.1 +ℤ pos 1) (down q.1 r.1)) (omega (arith, ints, n.0, n.1))
    (ascends_lower (r.1 +ℤ pos 1) (r.1 +ℤ pos 2) (written (map (clip q) rs)) (omega (arith, ints)) (clips_ascend q (r.1 +ℤ pos 2) rs n.2))
  where
    up : (low a b : ℤ) → low ≤ℤ b → low ≤ℤ int_max a b
    up low a b le = grind (arith, common_steps, ints)

    down : (a b : ℤ) → int_min a b <ℤ (b +ℤ pos 1)
    down a b = grind (arith, common_steps, ints)

within_clip : (v a b c d : ℤ) → (int_le (int_max a c) v && int_le v (int_min b d)) ≡ ((int_le a v && int_le v b) && (int_le c v && int_le v d))
within_clip v a b c d = grind (arith, common_steps, ints)

covers_clips : (q : ℤ × ℤ) (rs : List (ℤ × ℤ)) (v : ℤ) → covers (map (clip q) rs) v ≡ (is_within v q && covers rs v)
covers_clips q [] v = none (is_within v q)
  where
    none : (a : Bool) → false ≡ (a && false)
    none true = refl
    none false = refl
covers_clips q (r ∷ rs) v = both (is_within v (clip q r)) (covers (map (clip q) rs) v) (is_within v q) (is_within v r) (covers rs v) (within_clip v q.0 q.1 r.0 r.1) (covers_clips q rs v)
  where
    spread : (a b c : Bool) → ((a && b) || (a && c)) ≡ (a && (b || c))
    spread true b c = refl
    spread false b c = refl

    both : (x y a b c : Bool) → x ≡ (a && b) → y ≡ (a && c) → (x || y) ≡ (a && (b || c))
    both x y a b c e f = (λ i. e i || f i) ∙ spread a b c

-- what intervals have of a range are its numbers that are in them
pub clips_are : (q : ℤ × ℤ) (rs : List (ℤ × ℤ)) → StandInOrder rs → written (map (clip q) rs) ≡ filter (is_in (written rs)) (span q)
clips_are q rs order =
    same_list order.0 q.0 (written (map (clip q) rs)) (filter (is_in (written rs)) (span q)) (clips_ascend q order.0 rs order.1) (ascends_filter (is_in (written rs)) q.0 (span q) (ascends_span q))
    (λ v. is_in-written (map (clip q) rs) v ∙ (covers_clips q rs v ∙ (both (sym (is_in-span q v)) (sym (is_in-written rs v)) ∙ sym (is_in-filter (is_in (written rs)) (span q) v))))
  where
    both : {a b c d : Bool} → a ≡ c → b ≡ d → (a && b) ≡ (c && d)
    both e f = λ i. e i && f i

span_none : (r : ℤ × ℤ) → r.1 <ℤ r.0 → span r ≡ []
unfolding span
span_none r lt = ap (count_from r.0) (size_of_none r lt)

apart_below : (a b c d : ℤ) → d <ℤ a → int_min b d <ℤ int_max a c
apart_below a b c d lt = grind (arith, common_steps, ints)

apart_above : (a b c d : ℤ) → b <ℤ c → int_min b d <ℤ int_max a c
apart_above a b c d lt = grind (arith, common_steps, ints)

-- intervals that end below the range have nothing of it
pub clips_behind : (q : ℤ × ℤ) (rs : List (ℤ × ℤ)) (n : ℕ) → EndBelow q.0 rs n → written (map (clip q) (drop n rs)) ≡ written (map (clip q) rs)
unfolding written
clips_behind q rs zero e = refl
clips_behind q [] (suc n) e = refl
clips_behind q (r ∷ rs) (suc n) e = clips_behind q rs n e.1 ∙ ap (λ (xs : List ℤ). xs ++ written (map (clip q) rs)) (sym (span_none (clip q r) (apart_below q.0 q.1 r.0 r.1 e.0)))

-- nor have those that begin above it
pub clips_above : (q : ℤ × ℤ) (low : ℤ) (rs : List (ℤ × ℤ)) → IsNormalFrom low rs → q.1 <ℤ low → written (map (clip q) rs) ≡ []
unfolding written
clips_above q low [] n lt = refl
clips_above q low (r ∷ rs) n lt = ap (λ (xs : List ℤ). xs ++ written (map (clip q) rs)) (span_none (clip q r) (apart_above q.0 q.1 r.0 r.1 (omega (arith, ints, n.0, lt)))) ∙ clips_above q (r.1 +ℤ pos 2) rs n.2 (omega (arith, ints, n.0, n.1, lt))

-- ---- the search, and the loops

order_drop : (low : ℤ) (rs : List (ℤ × ℤ)) (n : ℕ) → IsNormalFrom low rs → StandInOrder (drop n rs)
order_drop low rs zero h = (low, h)
order_drop low [] (suc n) h = (low, tt)
order_drop low (r ∷ rs) (suc n) h = order_drop (r.1 +ℤ pos 2) rs n h.2

pub in_order_behind : (rs : List (ℤ × ℤ)) (n : ℕ) → StandInOrder rs → StandInOrder (drop n rs)
in_order_behind rs n order = order_drop order.0 rs n order.1

end_at : (low : ℤ) (rs : List (ℤ × ℤ)) (n : ℕ) (d : ℤ × ℤ) → IsNormalFrom low rs → n < length rs → low ≤ℤ (get_or rs n d).1
end_at low [] n d h lt = absurd (omega arith)
end_at low (r ∷ rs) zero d h lt = omega (arith, ints, h.0, h.1)
end_at low (r ∷ rs) (suc n) d h lt = let rest = end_at (r.1 +ℤ pos 2) rs n d h.2 (omega arith) in omega (arith, ints, h.0, h.1, rest)

ends_from : (below low : ℤ) (rs : List (ℤ × ℤ)) (n : ℕ) (d : ℤ × ℤ) → IsNormalFrom low rs → n < length rs → (get_or rs n d).1 <ℤ below → EndBelow below rs (suc n)
ends_from below low [] n d h lt e = absurd (omega arith)
ends_from below low (r ∷ rs) zero d h lt e = (e, tt)
ends_from below low (r ∷ rs) (suc n) d h lt e = let rest = end_at (r.1 +ℤ pos 2) rs n d h.2 (omega arith) in (omega (arith, ints, rest, e), ends_from below (r.1 +ℤ pos 2) rs n d h.2 (omega arith) e)

-- an interval that ends below a number, and all before it
pub end_below : (below : ℤ) (rs : List (ℤ × ℤ)) (n m : ℕ) (d : ℤ × ℤ) → StandInOrder rs → n < length rs → (get_or rs n d).1 <ℤ below → m ≡ n + 1 → EndBelow below rs m
end_below below rs n m d order lt e next = subst (EndBelow below rs) (sym (next ∙ add-one n)) (ends_from below order.0 rs n d order.1 lt e)

-- the rest of a slice
pub rest_is : (rs : List (ℤ × ℤ)) (n : ℕ) → take (length rs - n) (drop n rs) ≡ drop n rs
rest_is rs n = take_all (length rs - n) (drop n rs) (omega (arith, length-drop n rs))

-- one interval more
pub clip_step : (q : ℤ × ℤ) (old new : List (ℤ × ℤ)) (intervals rs : List (ℤ × ℤ)) (r c : ℤ × ℤ) (whole : List ℤ) → intervals ≡ r ∷ rs → new ≡ old ++ c ∷ [] → c.0 ≡ int_max q.0 r.0 → c.1 ≡ int_min q.1 r.1
    → written old ++ written (map (clip q) intervals) ≡ whole → written new ++ written (map (clip q) rs) ≡ whole
clip_step q old new intervals rs r c whole at added low high was =
    let is : c ≡ clip q r = λ i. (low i, high i) in
    let next : written new ≡ written old ++ span (clip q r) = ap written added ∙ (written-one old c ∙ ap (λ (x : ℤ × ℤ). written old ++ span x) is) in
    ap (λ (xs : List ℤ). xs ++ written (map (clip q) rs)) next ∙ (append_assoc (written old) (span (clip q r)) (written (map (clip q) rs)) ∙ (sym (ap (λ (xs : List ℤ). written old ++ xs) (ap (λ (xs : List (ℤ × ℤ)). written (map (clip q) xs)) at ∙ written-cons (clip q r) (map (clip q) rs))) ∙ was))

-- no interval more
pub clip_stop : (q : ℤ × ℤ) (old intervals rs : List (ℤ × ℤ)) (r : ℤ × ℤ) (whole : List ℤ) → StandInOrder intervals → intervals ≡ r ∷ rs → q.1 <ℤ r.0 → written old ++ written (map (clip q) intervals) ≡ whole → written old ≡ whole
clip_stop q old intervals rs r whole order at lt was =
    let from = subst (IsNormalFrom order.0) at order.1 in
    let none = clips_above q r.0 (r ∷ rs) (omega (arith, ints), from.1, from.2) lt in
    sym (ap (λ (xs : List ℤ). written old ++ xs) (ap (λ (xs : List (ℤ × ℤ)). written (map (clip q) xs)) at ∙ none) ∙ append-nil (written old)) ∙ was

pub clip_end : (q : ℤ × ℤ) (old intervals : List (ℤ × ℤ)) (i : ℕ) (whole : List ℤ) → length intervals ≤ i → written old ++ written (map (clip q) (drop i intervals)) ≡ whole → written old ≡ whole
clip_end q old intervals i whole past was =
    sym (ap (λ (xs : List ℤ). written old ++ xs) (ap (λ (xs : List (ℤ × ℤ)). written (map (clip q) xs)) (drop_all i intervals past) ∙ written-nil) ∙ append-nil (written old)) ∙ was

-- all that intervals have of a range, from those on that reach it
pub within_is : (q : ℤ × ℤ) (old new all behind : List (ℤ × ℤ)) (n : ℕ) → StandInOrder all → EndBelow q.0 all n → behind ≡ drop n all → written new ≡ written old ++ written (map (clip q) behind) → written new ≡ written old ++ filter (is_in (written all)) (span q)
within_is q old new all behind n order below is added =
    added ∙ ap (λ (xs : List ℤ). written old ++ xs) (ap (λ (xs : List (ℤ × ℤ)). written (map (clip q) xs)) is ∙ (clips_behind q all n below ∙ clips_are q all order))

pub within_none : (p : ℤ → Bool) (kept : List (ℤ × ℤ)) → kept ≡ [] → written kept ≡ filter p (written [])
within_none p kept e = ap written e ∙ (written-nil ∙ sym (ap (filter p) written-nil))

-- one range more
pub within_step : (p : ℤ → Bool) (ranges : List (ℤ × ℤ)) (i : ℕ) (r : ℤ × ℤ) (old new : List ℤ) → i < length ranges → r ≡ get_or ranges i r → old ≡ filter p (written (take i ranges)) → new ≡ old ++ filter p (span r) → new ≡ filter p (written (take (i + 1) ranges))
within_step p ranges i r old new lt is was added =
    let next : written (take (i + 1) ranges) ≡ written (take i ranges) ++ span r = ap written (take_more ranges i r lt) ∙ (written-one (take i ranges) (get_or ranges i r) ∙ ap (λ (x : ℤ × ℤ). written (take i ranges) ++ span x) (sym is)) in
    added ∙ (ap (λ (xs : List ℤ). xs ++ filter p (span r)) was ∙ (sym (filter-append p (written (take i ranges)) (span r)) ∙ ap (filter p) (sym next)))
