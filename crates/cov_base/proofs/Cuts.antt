-- Intervals without holes.
use Rattle.std.proofs.Common.{◌≡◌, ◌∙◌, ℤ, pos, ◌+ℤ◌, ◌-ℤ◌, ◌≤ℤ◌, ◌<ℤ◌, List, [], ◌∷◌, ◌++◌, refl, ap, arith, Bool, true, false, not, cond, int_lt, int_le, inl, inr}
use Rattle.std.specs.Prelude.{◌||◌, ◌&&◌}
use Rattle.std.specs.Int.{int_max}
use Rattle.std.proofs.lemmas.Grind.{common_steps}
use Rattle.std.proofs.lemmas.Int.{ints, clamps}
use Rattle.cov_base.specs.Sets.{is_within, covers, IsNormalFrom, EndsBy}
use Rattle.cov_base.specs.Intervals.{front, pieces, beyond, less}
use Rattle.cov_base.proofs.Normal.{covers-below, normal_lower, cases_of}
use Rattle.cov_base.proofs.Merges.{covers-append, ends-append}

-- two lists in normal form, one after the other
normal-append : (low high : ℤ) (xs ys : List (ℤ × ℤ)) → IsNormalFrom low xs → EndsBy high xs → IsNormalFrom (high +ℤ pos 2) ys → low ≤ℤ (high +ℤ pos 2) → IsNormalFrom low (xs ++ ys)
normal-append low high [] ys n e m le = normal_lower low (high +ℤ pos 2) ys m le
normal-append low high (x ∷ xs) ys n e m le = (n.0, n.1, normal-append (x.1 +ℤ pos 2) high xs ys n.2 e.1 m (omega (arith, ints, e.0)))

ends_later : (low high : ℤ) (xs : List (ℤ × ℤ)) → EndsBy low xs → low ≤ℤ high → EndsBy high xs
ends_later low high [] e le = tt
ends_later low high (x ∷ xs) e le = (omega (arith, ints, e.0), ends_later low high xs e.1 le)

pieces_normal : (low : ℤ) (p : ℤ × ℤ) (holes : List (ℤ × ℤ)) → p.0 ≤ℤ p.1 → IsNormalFrom low holes → IsNormalFrom p.0 (pieces p holes)
pieces_normal low p [] some n = (omega (arith, ints), some, tt)
pieces_normal low p (h ∷ holes) some n =
    outer (λ le. pieces_normal (h.1 +ℤ pos 2) (int_max p.0 (h.1 +ℤ pos 1), p.1) holes le n.2) (int_lt p.1 h.0) refl
  where
    tail : (t : Bool) → int_le p.1 h.1 ≡ t → (int_max p.0 (h.1 +ℤ pos 1) ≤ℤ p.1 → IsNormalFrom (int_max p.0 (h.1 +ℤ pos 1)) (pieces (int_max p.0 (h.1 +ℤ pos 1), p.1) holes)) → IsNormalFrom (int_max p.0 (h.1 +ℤ pos 1)) (cond t [] (pieces (int_max p.0 (h.1 +ℤ pos 1), p.1) holes))
    tail true e more = tt
    tail false e more = more (omega (arith, ints, clamps, e))

    inner : IsNormalFrom (int_max p.0 (h.1 +ℤ pos 1)) (cond (int_le p.1 h.1) [] (pieces (int_max p.0 (h.1 +ℤ pos 1), p.1) holes)) → (t : Bool) → int_lt p.0 h.0 ≡ t → IsNormalFrom p.0 (cond t ((p.0, h.0 -ℤ pos 1) ∷ []) [] ++ cond (int_le p.1 h.1) [] (pieces (int_max p.0 (h.1 +ℤ pos 1), p.1) holes))
    inner m true e = (omega (arith, ints), omega (arith, ints, e), normal_lower ((h.0 -ℤ pos 1) +ℤ pos 2) (int_max p.0 (h.1 +ℤ pos 1)) (cond (int_le p.1 h.1) [] (pieces (int_max p.0 (h.1 +ℤ pos 1), p.1) holes)) m (omega (arith, ints, clamps, n.1)))
    inner m false e = normal_lower p.0 (int_max p.0 (h.1 +ℤ pos 1)) (cond (int_le p.1 h.1) [] (pieces (int_max p.0 (h.1 +ℤ pos 1), p.1) holes)) m (omega (arith, ints, clamps))

    outer : (int_max p.0 (h.1 +ℤ pos 1) ≤ℤ p.1 → IsNormalFrom (int_max p.0 (h.1 +ℤ pos 1)) (pieces (int_max p.0 (h.1 +ℤ pos 1), p.1) holes)) → (t : Bool) → int_lt p.1 h.0 ≡ t → IsNormalFrom p.0 (cond t (p ∷ []) (front p.0 h.0 ++ cond (int_le p.1 h.1) [] (pieces (int_max p.0 (h.1 +ℤ pos 1), p.1) holes)))
    outer more true e = (omega (arith, ints), some, tt)
    outer more false e = inner (tail (int_le p.1 h.1) refl more) (int_lt p.0 h.0) refl

pieces_ends : (p : ℤ × ℤ) (holes : List (ℤ × ℤ)) → EndsBy p.1 (pieces p holes)
pieces_ends p [] = (omega (arith, ints), tt)
pieces_ends p (h ∷ holes) = outer (pieces_ends (int_max p.0 (h.1 +ℤ pos 1), p.1) holes) (int_lt p.1 h.0) refl
  where
    tail : EndsBy p.1 (pieces (int_max p.0 (h.1 +ℤ pos 1), p.1) holes) → (t : Bool) → EndsBy p.1 (cond t [] (pieces (int_max p.0 (h.1 +ℤ pos 1), p.1) holes))
    tail more true = tt
    tail more false = more

    first : int_lt p.1 h.0 ≡ false → (t : Bool) → EndsBy p.1 (cond t ((p.0, h.0 -ℤ pos 1) ∷ []) [])
    first e true = (omega (arith, ints, e), tt)
    first e false = tt

    outer : EndsBy p.1 (pieces (int_max p.0 (h.1 +ℤ pos 1), p.1) holes) → (t : Bool) → int_lt p.1 h.0 ≡ t → EndsBy p.1 (cond t (p ∷ []) (front p.0 h.0 ++ cond (int_le p.1 h.1) [] (pieces (int_max p.0 (h.1 +ℤ pos 1), p.1) holes)))
    outer more true e = (omega (arith, ints), tt)
    outer more false e = ends-append p.1 (front p.0 h.0) (cond (int_le p.1 h.1) [] (pieces (int_max p.0 (h.1 +ℤ pos 1), p.1) holes)) (first e (int_lt p.0 h.0)) (tail more (int_le p.1 h.1))

-- one hole in an interval
all_left : (a b c d v : ℤ) (t : Bool) → b <ℤ c → c ≤ℤ d → (v <ℤ (d +ℤ pos 2) → t ≡ false) → (is_within v (a, b) || false) ≡ (is_within v (a, b) && not (is_within v (c, d) || t))
all_left a b c d v t lt le low = elim (cases_of v (d +ℤ pos 2)) [
  | inl h ↦ by t (low h)
  | inr h ↦ out t h
]
  where
    by : (t : Bool) → t ≡ false → (is_within v (a, b) || false) ≡ (is_within v (a, b) && not (is_within v (c, d) || t))
    by t e = grind (arith, common_steps, ints, e)

    out : (t : Bool) → (d +ℤ pos 2) ≤ℤ v → (is_within v (a, b) || false) ≡ (is_within v (a, b) && not (is_within v (c, d) || t))
    out t h = grind (arith, common_steps, ints)

pieces_cover : (low : ℤ) (p : ℤ × ℤ) (holes : List (ℤ × ℤ)) (v : ℤ) → IsNormalFrom low holes → covers (pieces p holes) v ≡ (is_within v p && not (covers holes v))
pieces_cover low p [] v n = one (is_within v p)
  where
    one : (t : Bool) → (t || false) ≡ (t && not false)
    one t = grind (arith, common_steps)
pieces_cover low p (h ∷ holes) v n = outer (pieces_cover (h.1 +ℤ pos 2) (int_max p.0 (h.1 +ℤ pos 1), p.1) holes v n.2) (λ lt. covers-below (h.1 +ℤ pos 2) holes v n.2 lt) (int_lt p.1 h.0) refl
  where
    first : (t : Bool) → int_lt p.0 h.0 ≡ t → covers (cond t ((p.0, h.0 -ℤ pos 1) ∷ []) []) v ≡ (int_le p.0 v && int_lt v h.0)
    first true e = before p.0 h.0 v
      where
        before : (a c v : ℤ) → (is_within v (a, c -ℤ pos 1) || false) ≡ (int_le a v && int_lt v c)
        before a c v = grind (arith, common_steps, ints)
    first false e = none p.0 h.0 v e
      where
        none : (a c v : ℤ) → int_lt a c ≡ false → false ≡ (int_le a v && int_lt v c)
        none a c v e = grind (arith, common_steps, ints)

    last : (a b c d : ℤ) (t : Bool) → c ≤ℤ d → c ≤ℤ b → b ≤ℤ d → (v <ℤ (d +ℤ pos 2) → t ≡ false) → ((int_le a v && int_lt v c) || false) ≡ (is_within v (a, b) && not (is_within v (c, d) || t))
    last a b c d t le h k low = elim (cases_of v (d +ℤ pos 2)) [
      | inl lt ↦ by t (low lt)
      | inr ge ↦ out t ge
    ]
      where
        by : (t : Bool) → t ≡ false → ((int_le a v && int_lt v c) || false) ≡ (is_within v (a, b) && not (is_within v (c, d) || t))
        by t e = grind (arith, common_steps, ints, e)

        out : (t : Bool) → (d +ℤ pos 2) ≤ℤ v → ((int_le a v && int_lt v c) || false) ≡ (is_within v (a, b) && not (is_within v (c, d) || t))
        out t ge = grind (arith, common_steps, ints)

    more_left : (a b c d : ℤ) (s t : Bool) → c ≤ℤ d → d <ℤ b → (v <ℤ (d +ℤ pos 2) → t ≡ false) → s ≡ (is_within v (int_max a (d +ℤ pos 1), b) && not t) → ((int_le a v && int_lt v c) || s) ≡ (is_within v (a, b) && not (is_within v (c, d) || t))
    more_left a b c d s t le k low e = elim (cases_of v (d +ℤ pos 2)) [
      | inl lt ↦ by s t (low lt) e
      | inr ge ↦ out s t ge e
    ]
      where
        by : (s t : Bool) → t ≡ false → s ≡ (is_within v (int_max a (d +ℤ pos 1), b) && not t) → ((int_le a v && int_lt v c) || s) ≡ (is_within v (a, b) && not (is_within v (c, d) || t))
        by s t f e = grind (arith, common_steps, ints, clamps, e, f)

        out : (s t : Bool) → (d +ℤ pos 2) ≤ℤ v → s ≡ (is_within v (int_max a (d +ℤ pos 1), b) && not t) → ((int_le a v && int_lt v c) || s) ≡ (is_within v (a, b) && not (is_within v (c, d) || t))
        out s t ge e = grind (arith, common_steps, ints, clamps, e)

    inner : covers (pieces (int_max p.0 (h.1 +ℤ pos 1), p.1) holes) v ≡ (is_within v (int_max p.0 (h.1 +ℤ pos 1), p.1) && not (covers holes v)) → (v <ℤ (h.1 +ℤ pos 2) → covers holes v ≡ false) → h.0 ≤ℤ p.1 → (t : Bool) → int_le p.1 h.1 ≡ t → ((int_le p.0 v && int_lt v h.0) || covers (cond t [] (pieces (int_max p.0 (h.1 +ℤ pos 1), p.1) holes)) v) ≡ (is_within v p && not (covers (h ∷ holes) v))
    inner more low le true e = last p.0 p.1 h.0 h.1 (covers holes v) n.1 le (omega (arith, ints, e)) low
    inner more low le false e = more_left p.0 p.1 h.0 h.1 (covers (pieces (int_max p.0 (h.1 +ℤ pos 1), p.1) holes) v) (covers holes v) n.1 (omega (arith, ints, e)) low more

    outer : covers (pieces (int_max p.0 (h.1 +ℤ pos 1), p.1) holes) v ≡ (is_within v (int_max p.0 (h.1 +ℤ pos 1), p.1) && not (covers holes v)) → (v <ℤ (h.1 +ℤ pos 2) → covers holes v ≡ false) → (t : Bool) → int_lt p.1 h.0 ≡ t → covers (cond t (p ∷ []) (front p.0 h.0 ++ cond (int_le p.1 h.1) [] (pieces (int_max p.0 (h.1 +ℤ pos 1), p.1) holes))) v ≡ (is_within v p && not (covers (h ∷ holes) v))
    outer more low true e = all_left p.0 p.1 h.0 h.1 v (covers holes v) (omega (arith, ints, e)) n.1 low
    outer more low false e =
        covers-append (front p.0 h.0) (cond (int_le p.1 h.1) [] (pieces (int_max p.0 (h.1 +ℤ pos 1), p.1) holes)) v
        ∙ (ap (λ (b : Bool). b || covers (cond (int_le p.1 h.1) [] (pieces (int_max p.0 (h.1 +ℤ pos 1), p.1) holes)) v) (first (int_lt p.0 h.0) refl)
        ∙ inner more low (omega (arith, ints, e)) (int_le p.1 h.1) refl)

-- the holes that are left have the numbers above the interval that all of them had
beyond_normal : (low high : ℤ) (holes : List (ℤ × ℤ)) → IsNormalFrom low holes → IsNormalFrom low (beyond high holes)
beyond_normal low high [] n = tt
beyond_normal low high (h ∷ holes) n = by_test (normal_lower low (h.1 +ℤ pos 2) (beyond high holes) (beyond_normal (h.1 +ℤ pos 2) high holes n.2) (omega (arith, ints, n.0, n.1))) (int_lt high h.0) (int_le high h.1)
  where
    by_test : IsNormalFrom low (beyond high holes) → (s t : Bool) → IsNormalFrom low (cond s (h ∷ holes) (cond t (h ∷ holes) (beyond high holes)))
    by_test more true t = n
    by_test more false true = n
    by_test more false false = more

beyond_covers : (high : ℤ) (holes : List (ℤ × ℤ)) (v : ℤ) → high <ℤ v → covers (beyond high holes) v ≡ covers holes v
beyond_covers high [] v lt = refl
beyond_covers high (h ∷ holes) v lt = by_test (beyond_covers high holes v lt) (int_lt high h.0) (int_le high h.1) refl
  where
    gone : (c d : ℤ) (s t : Bool) → int_le high d ≡ false → s ≡ t → s ≡ (is_within v (c, d) || t)
    gone c d s t e f = grind (arith, common_steps, ints, f)

    by_test : covers (beyond high holes) v ≡ covers holes v → (s t : Bool) → int_le high h.1 ≡ t → covers (cond s (h ∷ holes) (cond t (h ∷ holes) (beyond high holes))) v ≡ covers (h ∷ holes) v
    by_test more true t e = refl
    by_test more false true e = refl
    by_test more false false e = gone h.0 h.1 (covers (beyond high holes) v) (covers holes v) e more

pub less_normal : (low bound : ℤ) (rs holes : List (ℤ × ℤ)) → IsNormalFrom low rs → IsNormalFrom bound holes → IsNormalFrom low (less rs holes)
less_normal low bound [] holes n m = tt
less_normal low bound (r ∷ rs) holes n m =
    normal-append low r.1 (pieces r holes) (less rs (beyond r.1 holes))
    (normal_lower low r.0 (pieces r holes) (pieces_normal bound r holes n.1 m) n.0)
    (pieces_ends r holes)
    (less_normal (r.1 +ℤ pos 2) bound rs (beyond r.1 holes) n.2 (beyond_normal bound r.1 holes m))
    (omega (arith, ints, n.0, n.1))

pub less_ends : (high : ℤ) (rs holes : List (ℤ × ℤ)) → EndsBy high rs → EndsBy high (less rs holes)
less_ends high [] holes e = tt
less_ends high (r ∷ rs) holes e = ends-append high (pieces r holes) (less rs (beyond r.1 holes)) (ends_later r.1 high (pieces r holes) (pieces_ends r holes) e.0) (less_ends high rs (beyond r.1 holes) e.1)

pub less_covers : (low bound : ℤ) (rs holes : List (ℤ × ℤ)) (v : ℤ) → IsNormalFrom low rs → IsNormalFrom bound holes → covers (less rs holes) v ≡ (covers rs v && not (covers holes v))
less_covers low bound [] holes v n m = refl
less_covers low bound (r ∷ rs) holes v n m =
    let whole = covers-append (pieces r holes) (less rs (beyond r.1 holes)) v in
    let here = pieces_cover bound r holes v m in
    let rest = less_covers (r.1 +ℤ pos 2) bound rs (beyond r.1 holes) v n.2 (beyond_normal bound r.1 holes m) in
    elim (cases_of r.1 v) [
      | inl lt ↦ above (covers (pieces r holes ++ less rs (beyond r.1 holes)) v) (covers (pieces r holes) v) (covers (less rs (beyond r.1 holes)) v) (is_within v r) (covers rs v) (covers holes v) (covers (beyond r.1 holes) v) whole here rest (beyond_covers r.1 holes v lt)
      | inr le ↦ under (covers (pieces r holes ++ less rs (beyond r.1 holes)) v) (covers (pieces r holes) v) (covers (less rs (beyond r.1 holes)) v) (is_within v r) (covers rs v) (covers holes v) (covers (beyond r.1 holes) v) whole here rest (covers-below (r.1 +ℤ pos 2) rs v n.2 (omega (arith, ints, le)))
    ]
  where
    above : (a b c d e f g : Bool) → a ≡ (b || c) → b ≡ (d && not f) → c ≡ (e && not g) → g ≡ f → a ≡ ((d || e) && not f)
    above a b c d e f g h k l m = grind (arith, common_steps, h, k, l, m)

    under : (a b c d e f g : Bool) → a ≡ (b || c) → b ≡ (d && not f) → c ≡ (e && not g) → e ≡ false → a ≡ ((d || e) && not f)
    under a b c d e f g h k l m = grind (arith, common_steps, h, k, l, m)
