-- Two sets in order of the low ends.
use Rattle.std.proofs.Common.{◌≡◌, ◌∙◌, ℤ, pos, ◌+ℤ◌, ◌≤ℤ◌, List, [], ◌∷◌, ◌++◌, refl, ap, sym, arith, Bool, true, false, cond, int_lt}
use Rattle.std.specs.Prelude.{◌||◌}
use Rattle.std.proofs.lemmas.Grind.{common_steps}
use Rattle.std.proofs.lemmas.Int.{ints}
use Rattle.cov_base.specs.Sets.{is_within, covers, IsNormalFrom, EndsBy}
use Rattle.cov_base.specs.Intervals.{BeginInOrder, before, after, merged}

pub covers-append : (xs ys : List (ℤ × ℤ)) (v : ℤ) → covers (xs ++ ys) v ≡ (covers xs v || covers ys v)
covers-append [] ys v = refl
covers-append (x ∷ xs) ys v = three (is_within v x) (covers (xs ++ ys) v) (covers xs v) (covers ys v) (covers-append xs ys v)
  where
    three : (a b c d : Bool) → b ≡ (c || d) → (a || b) ≡ ((a || c) || d)
    three a b c d e = grind (arith, common_steps, e)

-- intervals in normal form begin in order
normal_in_order : (low : ℤ) (rs : List (ℤ × ℤ)) → IsNormalFrom low rs → BeginInOrder low rs
normal_in_order low [] n = tt
normal_in_order low (r ∷ rs) n = (n.0, n.1, from r.0 (r.1 +ℤ pos 2) rs (normal_in_order (r.1 +ℤ pos 2) rs n.2) (omega (arith, ints, n.1)))
  where
    from : (low bound : ℤ) (xs : List (ℤ × ℤ)) → BeginInOrder bound xs → low ≤ℤ bound → BeginInOrder low xs
    from low bound [] o le = tt
    from low bound (x ∷ xs) o le = (omega (arith, ints, o.0), o.1, o.2)

order_from : (low bound : ℤ) (xs : List (ℤ × ℤ)) → BeginInOrder bound xs → low ≤ℤ bound → BeginInOrder low xs
order_from low bound [] o le = tt
order_from low bound (x ∷ xs) o le = (omega (arith, ints, o.0), o.1, o.2)

-- what begins below a bound, followed by what begins at the bound or later
before_then : (low bound : ℤ) (rs ss : List (ℤ × ℤ)) → BeginInOrder low rs → low ≤ℤ bound → BeginInOrder bound ss → BeginInOrder low (before bound rs ++ ss)
before_then low bound [] ss o le s = order_from low bound ss s le
before_then low bound (r ∷ rs) ss o le s = by_test (λ lt. before_then r.0 bound rs ss o.2 lt s) (int_lt r.0 bound) refl
  where
    by_test : (r.0 ≤ℤ bound → BeginInOrder r.0 (before bound rs ++ ss)) → (t : Bool) → int_lt r.0 bound ≡ t → BeginInOrder low (cond t (r ∷ before bound rs) [] ++ ss)
    by_test more true e = (o.0, o.1, more (omega (arith, ints, e)))
    by_test more false e = order_from low bound ss s le

after_in_order : (low bound : ℤ) (rs : List (ℤ × ℤ)) → BeginInOrder low rs → BeginInOrder bound (after bound rs)
after_in_order low bound [] o = tt
after_in_order low bound (r ∷ rs) o = by_test (after_in_order r.0 bound rs o.2) (int_lt r.0 bound) refl
  where
    by_test : BeginInOrder bound (after bound rs) → (t : Bool) → int_lt r.0 bound ≡ t → BeginInOrder bound (cond t (after bound rs) (r ∷ rs))
    by_test more true e = more
    by_test more false e = (omega (arith, ints, e), o.1, o.2)

before-after : (bound : ℤ) (rs : List (ℤ × ℤ)) → before bound rs ++ after bound rs ≡ rs
before-after bound [] = refl
before-after bound (r ∷ rs) = by_test (before-after bound rs) (int_lt r.0 bound)
  where
    by_test : before bound rs ++ after bound rs ≡ rs → (t : Bool) → cond t (r ∷ before bound rs) [] ++ cond t (after bound rs) (r ∷ rs) ≡ r ∷ rs
    by_test more true = ap (λ (xs : List (ℤ × ℤ)). r ∷ xs) more
    by_test more false = refl

merged_in_order : (low : ℤ) (left right : List (ℤ × ℤ)) → BeginInOrder low left → BeginInOrder low right → BeginInOrder low (merged left right)
merged_in_order low [] right l r = r
merged_in_order low (x ∷ left) right l r =
    let rest : BeginInOrder x.0 (x ∷ merged left (after x.0 right)) = (omega (arith, ints), l.1, merged_in_order x.0 left (after x.0 right) l.2 (after_in_order low x.0 right r)) in
    before_then low x.0 right (x ∷ merged left (after x.0 right)) r l.0 rest

pub merged_begin : (low : ℤ) (left right : List (ℤ × ℤ)) → IsNormalFrom low left → IsNormalFrom low right → BeginInOrder low (merged left right)
merged_begin low left right l r = merged_in_order low left right (normal_in_order low left l) (normal_in_order low right r)

pub merged_cover : (left right : List (ℤ × ℤ)) (v : ℤ) → covers (merged left right) v ≡ (covers left v || covers right v)
merged_cover [] right v = refl
merged_cover (x ∷ left) right v =
    let parts = covers-append (before x.0 right) (x ∷ merged left (after x.0 right)) v in
    let rest = merged_cover left (after x.0 right) v in
    let whole = sym (covers-append (before x.0 right) (after x.0 right) v) ∙ ap (λ (rs : List (ℤ × ℤ)). covers rs v) (before-after x.0 right) in
    four (covers (before x.0 right ++ (x ∷ merged left (after x.0 right))) v) (covers (before x.0 right) v) (is_within v x) (covers (merged left (after x.0 right)) v) (covers left v) (covers (after x.0 right) v) (covers right v) parts rest whole
  where
    four : (a b c d e f g : Bool) → a ≡ (b || (c || d)) → d ≡ (e || f) → (b || f) ≡ g → a ≡ ((c || e) || g)
    four a b c d e f g h k w = grind (arith, common_steps, h, k, w)

pub ends-append : (high : ℤ) (xs ys : List (ℤ × ℤ)) → EndsBy high xs → EndsBy high ys → EndsBy high (xs ++ ys)
ends-append high [] ys e f = f
ends-append high (x ∷ xs) ys e f = (e.0, ends-append high xs ys e.1 f)

before_ends : (high bound : ℤ) (rs : List (ℤ × ℤ)) → EndsBy high rs → EndsBy high (before bound rs)
before_ends high bound [] e = tt
before_ends high bound (r ∷ rs) e = by_test (before_ends high bound rs e.1) (int_lt r.0 bound)
  where
    by_test : EndsBy high (before bound rs) → (t : Bool) → EndsBy high (cond t (r ∷ before bound rs) [])
    by_test more true = (e.0, more)
    by_test more false = tt

after_ends : (high bound : ℤ) (rs : List (ℤ × ℤ)) → EndsBy high rs → EndsBy high (after bound rs)
after_ends high bound [] e = tt
after_ends high bound (r ∷ rs) e = by_test (after_ends high bound rs e.1) (int_lt r.0 bound)
  where
    by_test : EndsBy high (after bound rs) → (t : Bool) → EndsBy high (cond t (after bound rs) (r ∷ rs))
    by_test more true = more
    by_test more false = e

pub merged_ends : (high : ℤ) (left right : List (ℤ × ℤ)) → EndsBy high left → EndsBy high right → EndsBy high (merged left right)
merged_ends high [] right l r = r
merged_ends high (x ∷ left) right l r = ends-append high (before x.0 right) (x ∷ merged left (after x.0 right)) (before_ends high x.0 right r) (l.0, merged_ends high left (after x.0 right) l.1 (after_ends high x.0 right r))
