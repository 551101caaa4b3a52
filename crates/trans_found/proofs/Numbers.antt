-- The numbers of a set that are not in another, written out.
use Rattle.std.proofs.Common.{◌≡◌, ◌∙◌, refl, ap, sym, subst, ℕ, suc, ℤ, pos, ◌+ℤ◌, ◌-ℤ◌, ◌≤ℤ◌, List, [], ◌∷◌, ◌++◌, filter, length, append_assoc, arith, Bool, true, false, cond, int_lt}
use Rattle.std.specs.Prelude.{not}
use Rattle.std.specs.Ordering.{int_eq}
use Rattle.std.proofs.lemmas.Grind.{common_steps}
use Rattle.std.proofs.lemmas.Int.{ints, by_lt_z}
use Rattle.cov_base.specs.Sets.{natural, count_from, size, span, written, is_in, without, ascending, put, extend, runs, set_of}
use Rattle.cov_base.proofs.Members.{size_of_some}

-- ---- the numbers of a set are those of the list that it was made of, ascending

equal : (a b : ℤ) → int_eq a b ≡ true → a ≡ b
equal a b e = grind (arith, common_steps, ints)

span_of : (low : ℤ) (count : ℕ) (r : ℤ × ℤ) → r.0 ≡ low → (r.1 +ℤ pos 1) -ℤ r.0 ≡ pos count → span r ≡ count_from low count
unfolding span
span_of low count r first many = λ i. count_from (first i) (natural (many i))

-- each range has its ends the right way round
abbrev InOrder : List (ℤ × ℤ) → Type 0
InOrder [] = Unit {0}
InOrder (r ∷ rs) = (r.0 ≤ℤ r.1) × InOrder rs

extend_order : (x : ℤ) (rs : List (ℤ × ℤ)) → InOrder rs → InOrder (extend x rs)
extend_order x [] order = (omega (arith, ints), tt)
extend_order x (r ∷ rs) order = by (int_eq (x +ℤ pos 1) r.0) refl
  where
    by : (t : Bool) → int_eq (x +ℤ pos 1) r.0 ≡ t → InOrder (cond t ((x, r.1) ∷ rs) ((x, x) ∷ r ∷ rs))
    by true e = (omega (arith, ints, equal (x +ℤ pos 1) r.0 e, order.0), order.1)
    by false e = (omega (arith, ints), order)

runs_order : (xs : List ℤ) → InOrder (runs xs)
runs_order [] = tt
runs_order (x ∷ xs) = extend_order x (runs xs) (runs_order xs)

one_span : (x : ℤ) → span (x, x) ≡ x ∷ []
one_span x = span_of x 1 (x, x) refl (omega (arith, ints))

written-append : (xs ys : List (ℤ × ℤ)) → written (xs ++ ys) ≡ written xs ++ written ys
unfolding written
written-append [] ys = refl
written-append (x ∷ xs) ys = ap (λ (zs : List ℤ). span x ++ zs) (written-append xs ys) ∙ sym (append_assoc (span x) (written xs) (written ys))

pub written-one : (xs : List (ℤ × ℤ)) (v : ℤ) → written (xs ++ (v, v) ∷ []) ≡ written xs ++ v ∷ []
unfolding written
written-one xs v = written-append xs ((v, v) ∷ []) ∙ ap (λ (zs : List ℤ). written xs ++ (zs ++ [])) (one_span v)

more_span : (x : ℤ) (r : ℤ × ℤ) → r.0 ≤ℤ r.1 → x +ℤ pos 1 ≡ r.0 → span (x, r.1) ≡ x ∷ span r
unfolding span
more_span x r le next =
    let many : pos (size r) ≡ (r.1 +ℤ pos 1) -ℤ r.0 = size_of_some r le in
    span_of x (suc (size r)) (x, r.1) refl (longer x r.0 r.1 (size r) many next) ∙ ap (λ (y : ℤ). x ∷ count_from y (size r)) next
  where
    longer : (x a b : ℤ) (n : ℕ) → pos n ≡ (b +ℤ pos 1) -ℤ a → x +ℤ pos 1 ≡ a → (b +ℤ pos 1) -ℤ x ≡ pos (suc n)
    longer x a b n many next = omega (arith, ints, many, next)

written-extend : (x : ℤ) (rs : List (ℤ × ℤ)) → InOrder rs → written (extend x rs) ≡ x ∷ written rs
unfolding written
written-extend x [] order = ap (λ (ys : List ℤ). ys ++ []) (one_span x)
written-extend x (r ∷ rs) order = by (int_eq (x +ℤ pos 1) r.0) refl
  where
    by : (t : Bool) → int_eq (x +ℤ pos 1) r.0 ≡ t → written (cond t ((x, r.1) ∷ rs) ((x, x) ∷ r ∷ rs)) ≡ x ∷ (span r ++ written rs)
    by true e = ap (λ (ys : List ℤ). ys ++ written rs) (more_span x r order.0 (equal (x +ℤ pos 1) r.0 e))
    by false e = ap (λ (ys : List ℤ). ys ++ (span r ++ written rs)) (one_span x)

written-runs : (xs : List ℤ) → written (runs xs) ≡ xs
unfolding written
written-runs [] = refl
written-runs (x ∷ xs) = written-extend x (runs xs) (runs_order xs) ∙ ap (λ (ys : List ℤ). x ∷ ys) (written-runs xs)

written-set_of : (xs : List ℤ) → written (set_of xs) ≡ ascending xs
unfolding set_of
written-set_of xs = written-runs (ascending xs)

-- ---- ascending lists

abbrev pub AscendsFrom : ℤ → List ℤ → Type 0
AscendsFrom low [] = Unit {0}
AscendsFrom low (x ∷ xs) = (low ≤ℤ x) × AscendsFrom (x +ℤ pos 1) xs

ascends_lower : (low from : ℤ) (xs : List ℤ) → low ≤ℤ from → AscendsFrom from xs → AscendsFrom low xs
ascends_lower low from [] le h = tt
ascends_lower low from (x ∷ xs) le h = (omega (arith, ints, le, h.0), h.1)

ascends_filter : (p : ℤ → Bool) (low : ℤ) (xs : List ℤ) → AscendsFrom low xs → AscendsFrom low (filter p xs)
ascends_filter p low [] h = tt
ascends_filter p low (x ∷ xs) h = by (p x) (ascends_filter p (x +ℤ pos 1) xs h.1)
  where
    by : (t : Bool) → AscendsFrom (x +ℤ pos 1) (filter p xs) → AscendsFrom low (cond t (x ∷ filter p xs) (filter p xs))
    by true rest = (h.0, rest)
    by false rest = ascends_lower low (x +ℤ pos 1) (filter p xs) (omega (arith, ints, h.0)) rest

above : (x y : ℤ) → int_lt x y ≡ true → (x +ℤ pos 1) ≤ℤ y
above x y e = grind (arith, common_steps, ints)

ascends_put : (low x : ℤ) (xs : List ℤ) → low ≤ℤ x → AscendsFrom low xs → AscendsFrom low (put x xs)
ascends_put low x [] le h = (le, tt)
ascends_put low x (y ∷ ys) le h = by (int_lt x y) (int_lt y x) (above x y) (above y x) (λ up. ascends_put (y +ℤ pos 1) x ys up h.1)
  where
    by : (t u : Bool) → (t ≡ true → (x +ℤ pos 1) ≤ℤ y) → (u ≡ true → (y +ℤ pos 1) ≤ℤ x) → ((y +ℤ pos 1) ≤ℤ x → AscendsFrom (y +ℤ pos 1) (put x ys)) → AscendsFrom low (cond t (x ∷ y ∷ ys) (cond u (y ∷ put x ys) (y ∷ ys)))
    by true u before behind next = (le, (before refl, h.1))
    by false true before behind next = (h.0, next (behind refl))
    by false false before behind next = h

ascends : (xs : List ℤ) → (low : ℤ) × AscendsFrom low (ascending xs)
ascends [] = (pos 0, tt)
ascends (x ∷ xs) = with (ascends xs)
  where
    with : (low : ℤ) × AscendsFrom low (ascending xs) → (low : ℤ) × AscendsFrom low (put x (ascending xs))
    with r = by_lt_z x r.0
        (λ lt. (x, ascends_put x x (ascending xs) (omega (arith, ints)) (ascends_lower x r.0 (ascending xs) (omega (arith, ints, lt)) r.1)))
        (λ le. (r.0, ascends_put r.0 x (ascending xs) le r.1))

pub ordered : (set : List (ℤ × ℤ)) → set_of (written set) ≡ set → (low : ℤ) × AscendsFrom low (written set)
ordered set same =
    let r = ascends (written set) in
    (r.0, subst (AscendsFrom r.0) (sym (sym (ap written same) ∙ written-set_of (written set))) r.1)

put_first : (x : ℤ) (xs : List ℤ) → AscendsFrom (x +ℤ pos 1) xs → put x xs ≡ x ∷ xs
put_first x [] h = refl
put_first x (y ∷ ys) h = by (int_lt x y) (less x y h.0)
  where
    less : (x y : ℤ) → (x +ℤ pos 1) ≤ℤ y → int_lt x y ≡ true
    less x y le = grind (arith, common_steps, ints)

    by : (t : Bool) → t ≡ true → cond t (x ∷ y ∷ ys) (cond (int_lt y x) (y ∷ put x ys) (y ∷ ys)) ≡ x ∷ y ∷ ys
    by t e = rw e refl

ascending_is : (low : ℤ) (xs : List ℤ) → AscendsFrom low xs → ascending xs ≡ xs
ascending_is low [] h = refl
ascending_is low (x ∷ xs) h = ap (put x) (ascending_is (x +ℤ pos 1) xs h.1) ∙ put_first x xs h.1

-- ---- the numbers that are left

pub left_is : (set known left : List (ℤ × ℤ)) → set_of (written set) ≡ set → left ≡ set_of (without (written set) (written known)) → written left ≡ without (written set) (written known)
unfolding without
left_is set known left same is =
    let numbers : written set ≡ ascending (written set) = sym (ap written same) ∙ written-set_of (written set) in
    let r = ascends (written set) in
    let up : AscendsFrom r.0 (written set) = subst (AscendsFrom r.0) (sym numbers) r.1 in
    let some = filter (λ v. not (is_in (written known) v)) (written set) in
    ap written is ∙ written-set_of some ∙ ascending_is r.0 some (ascends_filter (λ v. not (is_in (written known) v)) r.0 (written set) up)

pub none_left : (set known left : List (ℤ × ℤ)) → set ≡ [] → left ≡ [] → written left ≡ without (written set) (written known)
unfolding without written
none_left set known left none is = ap written is ∙ sym (ap (λ s. without (written s) (written known)) none)

kept_all : (xs : List ℤ) → xs ≡ filter (λ v. not (is_in [] v)) xs
kept_all [] = refl
kept_all (x ∷ xs) = ap (λ (l : List ℤ). x ∷ l) (kept_all xs)

pub none_known_left : (set known left : List (ℤ × ℤ)) → known ≡ [] → left ≡ set → written left ≡ without (written set) (written known)
unfolding without written
none_known_left set known left none is = ap written is ∙ kept_all (written set) ∙ sym (ap (λ k. without (written set) (written k)) none)

pub none_written : written [] ≡ []
unfolding written
none_written = refl

pub no_ranges : (rs : List (ℤ × ℤ)) → length rs ≡ 0 → rs ≡ []
no_ranges [] e = refl
no_ranges (r ∷ rs) e = absurd (omega (arith, e))
