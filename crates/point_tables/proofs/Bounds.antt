-- Values beyond the bounds of a set.
use Rattle.std.proofs.Common.{◌≡◌, ℕ, zero, suc, ◌+◌, ◌-◌, ◌<◌, ℤ, pos, negsuc, ◌+ℤ◌, ◌-ℤ◌, ◌<ℤ◌, ◌≤ℤ◌, ◌≤◌, min, max, List, [], ◌∷◌, length, get_or, Bool, false, Some, None, refl, ap, sym, ◌∙◌, inl, inr, arith}
use Rattle.std.specs.Prelude.{◌||◌}
use Rattle.std.proofs.lemmas.Grind.{common_steps}
use Rattle.std.proofs.lemmas.Int.{ints}
use Rattle.cov_base.specs.Sets.{natural, is_within, covers, IsNormalFrom, IsNormalForm, EndsBy, least}
use Rattle.cov_base.proofs.Members.{is_in-written}
use Rattle.cov_base.proofs.Normal.{cases_of, covers-below}
use Rattle.trans_seq.specs.Windows.{is_known_in}
use Rattle.design_data.specs.Laws.{Value}
use Rattle.point_tables.specs.declared.tables.Entrance.{Entrance}
use Rattle.point_tables.specs.Tables.{key, IsOut}

-- intervals begin with the low end of the first one, and end with the high end of the last one
from_first : (low : ℤ) (rs : List (ℤ × ℤ)) (d : ℤ × ℤ) → IsNormalFrom low rs → IsNormalFrom (get_or rs 0 d).0 rs
from_first low [] d n = tt
from_first low (r ∷ rs) d n = (omega (arith, ints), n.1, n.2)

to_last : (low : ℤ) (rs : List (ℤ × ℤ)) (k : ℕ) (d : ℤ × ℤ) → IsNormalFrom low rs → length rs ≡ k + 1 → EndsBy (get_or rs k d).1 rs
to_last low [] k d n e = absurd (omega (arith, e))
to_last low (r ∷ []) zero d n e = (omega (arith, ints), tt)
to_last low (r ∷ []) (suc k) d n e = absurd (omega (arith, e))
to_last low (r ∷ s ∷ rs) zero d n e = absurd (omega (arith, e))
to_last low (r ∷ s ∷ rs) (suc k) d n e =
    let h = to_last (r.1 +ℤ pos 2) (s ∷ rs) k d n.2 (omega (arith, e)) in
    (omega (arith, ints, n.2.0, n.2.1, h.0), h)

covers-above : (high : ℤ) (rs : List (ℤ × ℤ)) (v : ℤ) → EndsBy high rs → high <ℤ v → covers rs v ≡ false
covers-above high [] v h lt = refl
covers-above high (r ∷ rs) v h lt = outside r.0 r.1 (covers rs v) (omega (arith, ints, h.0)) (covers-above high rs v h.1 lt)
  where
    outside : (a b : ℤ) (c : Bool) → b <ℤ v → c ≡ false → (is_within v (a, b) || c) ≡ false
    outside a b c lt h = grind (arith, common_steps, ints)

-- a number with a lesser key is less
natural_up : (x y : ℤ) → x ≤ℤ y → natural x ≤ natural y
natural_up (pos n) (pos m) le = omega (arith, ints, le)
natural_up (pos n) (negsuc m) le = absurd (omega (arith, ints, le))
natural_up (negsuc n) y le = omega arith

key_up : (a b : ℤ) → a ≤ℤ b → key a ≤ key b
key_up a b le = let h : natural (a -ℤ least) ≤ natural (b -ℤ least) = natural_up (a -ℤ least) (b -ℤ least) (omega (arith, ints, le)) in omega (arith, h)

key_less : (a b : ℤ) → key a < key b → a <ℤ b
key_less a b lt = elim (cases_of a b) [
  | inl less ↦ less
  | inr le ↦ let h : key b ≤ key a = key_up b a le in absurd (omega (arith, lt, h))
]

-- what is beyond the wider bounds is not in the set, and beyond the earlier bounds
pub out_wider : (set : List (ℤ × ℤ)) (sofar : Entrance) (low high : ℕ) (k : ℕ) (d e : ℤ × ℤ) → IsNormalForm set → length set ≡ k + 1
    → low ≡ min (key (get_or set 0 d).0) sofar.low → high ≡ max (key (get_or set k e).1) sofar.high
    → (v : Value) → IsOut (record { bounded = sofar.bounded; low = low; high = high }) v → (is_known_in set v ≡ false) × IsOut sofar v
out_wider set sofar low high k d e n len is_low is_high None o = (refl, o)
out_wider set sofar low high k d e n len is_low is_high (Some v) o = elim o [
  | inl below ↦
      let lt : key v < key (get_or set 0 d).0 = omega (arith, below, is_low) in
      (is_in-written set v ∙ covers-below (get_or set 0 d).0 set v (from_first least set d n.normal) (key_less v (get_or set 0 d).0 lt), inl (omega (arith, below, is_low)))
  | inr above ↦
      let lt : key (get_or set k e).1 < key v = omega (arith, above, is_high) in
      (is_in-written set v ∙ covers-above (get_or set k e).1 set v (to_last least set k e n.normal len) (key_less (get_or set k e).1 v lt), inr (omega (arith, above, is_high)))
]

-- the same of the ranges of a set
pub out_by : (ranges set : List (ℤ × ℤ)) (sofar : Entrance) (low high : ℕ) (first last : ℤ × ℤ) → ranges ≡ set → IsNormalForm set → 0 < length ranges
    → low ≡ min (key (get_or ranges 0 first).0) sofar.low → high ≡ max (key (get_or ranges (length ranges - 1) last).1) sofar.high
    → (v : Value) → IsOut (record { bounded = sofar.bounded; low = low; high = high }) v → (is_known_in set v ≡ false) × IsOut sofar v
out_by ranges set sofar low high first last same normal some is_low is_high =
    let len : length set ≡ (length ranges - 1) + 1 = omega (arith, some, ap (λ (xs : List (ℤ × ℤ)). length xs) same) in
    out_wider set sofar low high (length ranges - 1) first last normal len
    (is_low ∙ ap (λ (xs : List (ℤ × ℤ)). min (key (get_or xs 0 first).0) sofar.low) same)
    (is_high ∙ ap (λ (xs : List (ℤ × ℤ)). max (key (get_or xs (length ranges - 1) last).1) sofar.high) same)

-- the empty set has none
none_in : (set : List (ℤ × ℤ)) (sofar : Entrance) → length set ≡ 0 → (v : Value) → IsOut sofar v → (is_known_in set v ≡ false) × IsOut sofar v
none_in [] sofar e None o = (refl, o)
none_in [] sofar e (Some v) o = (is_in-written [] v, o)
none_in (r ∷ rs) sofar e v o = absurd (omega (arith, e))

pub out_same : (ranges set : List (ℤ × ℤ)) (sofar : Entrance) → ranges ≡ set → length ranges ≡ 0 → (v : Value) → IsOut sofar v → (is_known_in set v ≡ false) × IsOut sofar v
out_same ranges set sofar same none = none_in set sofar (ap (λ (xs : List (ℤ × ℤ)). length xs) (sym same) ∙ none)
