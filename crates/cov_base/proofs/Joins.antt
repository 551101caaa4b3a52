-- Intervals joined one after the other.
use Rattle.std.proofs.Common.{◌≡◌, ℤ, pos, ◌+ℤ◌, ◌≤ℤ◌, List, [], ◌∷◌, refl, arith, Bool, true, false, cond, int_le}
use Rattle.std.specs.Prelude.{◌||◌}
use Rattle.std.specs.Int.{int_max}
use Rattle.std.proofs.lemmas.Grind.{common_steps}
use Rattle.std.proofs.lemmas.Int.{ints, clamps}
use Rattle.cov_base.specs.Sets.{is_within, covers, IsNormalFrom, EndsBy}
use Rattle.cov_base.specs.Intervals.{joined, joins, BeginInOrder}

-- no interval begins above `low`
abbrev pub BeginBy : ℤ → List (ℤ × ℤ) → Type 0
BeginBy low [] = Unit {0}
BeginBy low (r ∷ rs) = (r.0 ≤ℤ low) × BeginBy low rs

begin_later : (low bound : ℤ) (rs : List (ℤ × ℤ)) → BeginBy low rs → low ≤ℤ bound → BeginBy bound rs
begin_later low bound [] b le = tt
begin_later low bound (r ∷ rs) b le = (omega (arith, ints, b.0), begin_later low bound rs b.1 le)

joined_normal : (low : ℤ) (xs : List (ℤ × ℤ)) (r : ℤ × ℤ) → IsNormalFrom low xs → BeginBy r.0 xs → low ≤ℤ r.0 → r.0 ≤ℤ r.1 → IsNormalFrom low (joined xs r)
joined_normal low [] r n b le some = (le, some, tt)
joined_normal low (x ∷ []) r n b le some = by_test (int_le r.0 (x.1 +ℤ pos 1)) refl
  where
    by_test : (t : Bool) → int_le r.0 (x.1 +ℤ pos 1) ≡ t → IsNormalFrom low (cond t ((x.0, int_max x.1 r.1) ∷ []) (x ∷ r ∷ []))
    by_test true e = (n.0, omega (arith, ints, clamps, n.1), tt)
    by_test false e = (n.0, n.1, (omega (arith, ints, e), some, tt))
joined_normal low (x ∷ y ∷ xs) r n b le some = (n.0, n.1, joined_normal (x.1 +ℤ pos 2) (y ∷ xs) r n.2 b.1 (omega (arith, ints, n.2.0, b.1.0)) some)

joined_begin : (xs : List (ℤ × ℤ)) (r : ℤ × ℤ) → BeginBy r.0 xs → BeginBy r.0 (joined xs r)
joined_begin [] r b = (omega (arith, ints), tt)
joined_begin (x ∷ []) r b = by_test (int_le r.0 (x.1 +ℤ pos 1))
  where
    by_test : (t : Bool) → BeginBy r.0 (cond t ((x.0, int_max x.1 r.1) ∷ []) (x ∷ r ∷ []))
    by_test true = (b.0, tt)
    by_test false = (b.0, (omega (arith, ints), tt))
joined_begin (x ∷ y ∷ xs) r b = (b.0, joined_begin (y ∷ xs) r b.1)

joined_ends : (high : ℤ) (xs : List (ℤ × ℤ)) (r : ℤ × ℤ) → EndsBy high xs → r.1 ≤ℤ high → EndsBy high (joined xs r)
joined_ends high [] r e le = (le, tt)
joined_ends high (x ∷ []) r e le = by_test (int_le r.0 (x.1 +ℤ pos 1))
  where
    by_test : (t : Bool) → EndsBy high (cond t ((x.0, int_max x.1 r.1) ∷ []) (x ∷ r ∷ []))
    by_test true = (omega (arith, ints, clamps, e.0), tt)
    by_test false = (e.0, (le, tt))
joined_ends high (x ∷ y ∷ xs) r e le = (e.0, joined_ends high (y ∷ xs) r e.1 le)

joined_covers : (low : ℤ) (xs : List (ℤ × ℤ)) (r : ℤ × ℤ) (v : ℤ) → IsNormalFrom low xs → BeginBy r.0 xs → covers (joined xs r) v ≡ (covers xs v || is_within v r)
joined_covers low [] r v n b = one (is_within v r)
  where
    one : (c : Bool) → (c || false) ≡ (false || c)
    one c = grind (arith, common_steps)
joined_covers low (x ∷ []) r v n b = by_test (int_le r.0 (x.1 +ℤ pos 1)) refl
  where
    grown : (a b c d : ℤ) → a ≤ℤ b → a ≤ℤ c → int_le c (b +ℤ pos 1) ≡ true → (is_within v (a, int_max b d) || false) ≡ ((is_within v (a, b) || false) || is_within v (c, d))
    grown a b c d h k e = grind (arith, common_steps, ints, clamps)

    apart : (c d : Bool) → (c || (d || false)) ≡ ((c || false) || d)
    apart c d = grind (arith, common_steps)

    by_test : (t : Bool) → int_le r.0 (x.1 +ℤ pos 1) ≡ t → covers (cond t ((x.0, int_max x.1 r.1) ∷ []) (x ∷ r ∷ [])) v ≡ (covers (x ∷ []) v || is_within v r)
    by_test true e = grown x.0 x.1 r.0 r.1 n.1 b.0 e
    by_test false e = apart (is_within v x) (is_within v r)
joined_covers low (x ∷ y ∷ xs) r v n b = behind (is_within v x) (covers (joined (y ∷ xs) r) v) (covers (y ∷ xs) v) (is_within v r) (joined_covers (x.1 +ℤ pos 2) (y ∷ xs) r v n.2 b.1)
  where
    behind : (a b c d : Bool) → b ≡ (c || d) → (a || b) ≡ ((a || c) || d)
    behind a b c d e = grind (arith, common_steps, e)

pub joins_normal : (low from : ℤ) (xs rs : List (ℤ × ℤ)) → IsNormalFrom low xs → BeginBy from xs → low ≤ℤ from → BeginInOrder from rs → IsNormalFrom low (joins xs rs)
joins_normal low from xs [] n b le o = n
joins_normal low from xs (r ∷ rs) n b le o =
    let here = begin_later from r.0 xs b o.0 in
    let later : low ≤ℤ r.0 = omega (arith, ints, le, o.0) in
    joins_normal low r.0 (joined xs r) rs (joined_normal low xs r n here later o.1) (joined_begin xs r here) later o.2

pub joins_ends : (high : ℤ) (xs rs : List (ℤ × ℤ)) → EndsBy high xs → EndsBy high rs → EndsBy high (joins xs rs)
joins_ends high xs [] e f = e
joins_ends high xs (r ∷ rs) e f = joins_ends high (joined xs r) rs (joined_ends high xs r e f.0) f.1

pub joins_cover : (low from : ℤ) (xs rs : List (ℤ × ℤ)) (v : ℤ) → IsNormalFrom low xs → BeginBy from xs → low ≤ℤ from → BeginInOrder from rs → covers (joins xs rs) v ≡ (covers xs v || covers rs v)
joins_cover low from xs [] v n b le o = none (covers xs v)
  where
    none : (c : Bool) → c ≡ (c || false)
    none c = grind (arith, common_steps)
joins_cover low from xs (r ∷ rs) v n b le o =
    let here = begin_later from r.0 xs b o.0 in
    let later : low ≤ℤ r.0 = omega (arith, ints, le, o.0) in
    let step = joined_covers low xs r v n here in
    let rest = joins_cover low r.0 (joined xs r) rs v (joined_normal low xs r n here later o.1) (joined_begin xs r here) later o.2 in
    three (covers (joins (joined xs r) rs) v) (covers (joined xs r) v) (covers xs v) (is_within v r) (covers rs v) rest step
  where
    three : (a b c d e : Bool) → a ≡ (b || e) → b ≡ (c || d) → a ≡ (c || (d || e))
    three a b c d e h k = grind (arith, common_steps, h, k)
