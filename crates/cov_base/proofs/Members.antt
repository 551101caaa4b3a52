-- What is in lists, ranges and sets, number by number.
use Rattle.std.proofs.Common.{◌≡◌, ◌∙◌, ap, ◌≤ℤ◌, ◌<ℤ◌, ℤ, pos, negsuc, ◌+ℤ◌, ◌-ℤ◌, ℕ, zero, suc, List, [], ◌∷◌, ◌++◌, refl, arith, Bool, false, not, filter, int_lt, int_le, int_eq}
use Rattle.std.proofs.lemmas.Grind.{common_steps}
use Rattle.std.proofs.lemmas.Int.{ints, by_lt_z}
use Rattle.std.specs.Prelude.{◌&&◌, ◌||◌}
use Rattle.cov_base.specs.Sets.{is_in, span, written, put, ascending, without, count_from, covers, is_within, size, natural}

pub is_in-filter : (p : ℤ → Bool) (xs : List ℤ) (v : ℤ) → is_in (filter p xs) v ≡ (is_in xs v && p v)
is_in-filter p [] v = refl
is_in-filter p (x ∷ xs) v = grind (arith, common_steps, ints, is_in-filter p xs v)

pub is_in-append : (xs ys : List ℤ) (v : ℤ) → is_in (xs ++ ys) v ≡ (is_in xs v || is_in ys v)
is_in-append [] ys v = refl
is_in-append (x ∷ xs) ys v = grind (arith, common_steps, is_in-append xs ys v)

pub is_in-put : (s : List ℤ) (x v : ℤ) → is_in (put x s) v ≡ (int_eq v x || is_in s v)
is_in-put [] x v = refl
is_in-put (y ∷ s) x v = grind (arith, common_steps, ints, is_in-put s x v)

pub is_in-ascending : (xs : List ℤ) (v : ℤ) → is_in (ascending xs) v ≡ is_in xs v
is_in-ascending [] v = refl
is_in-ascending (x ∷ xs) v = is_in-put (ascending xs) x v ∙ ap (λ (b : Bool). int_eq v x || b) (is_in-ascending xs v)

is_in-count_from : (n : ℕ) (low v : ℤ) → is_in (count_from low n) v ≡ (int_le low v && int_lt v (low +ℤ pos n))
is_in-count_from zero low v = none low v
  where
    none : (low v : ℤ) → false ≡ (int_le low v && int_lt v (low +ℤ pos 0))
    none low v = grind (arith, common_steps, ints)
is_in-count_from (suc n) low v = more low v n (is_in (count_from (low +ℤ pos 1) n) v) (is_in-count_from n (low +ℤ pos 1) v)
  where
    more : (low v : ℤ) (n : ℕ) (b : Bool) → b ≡ (int_le (low +ℤ pos 1) v && int_lt v ((low +ℤ pos 1) +ℤ pos n)) → (int_eq v low || b) ≡ (int_le low v && int_lt v (low +ℤ pos (suc n)))
    more low v n b h = grind (arith, common_steps, ints, h)

-- the size of a range whose ends stand in order, and of another
pub size_of_some : (r : ℤ × ℤ) → r.0 ≤ℤ r.1 → pos (size r) ≡ (r.1 +ℤ pos 1) -ℤ r.0
size_of_some r h = by ((r.1 +ℤ pos 1) -ℤ r.0) (omega (arith, ints))
  where
    by : (z : ℤ) → pos 0 ≤ℤ z → pos (natural z) ≡ z
    by (pos n) le = refl
    by (negsuc n) le = absurd (omega (arith, ints))

pub size_of_none : (r : ℤ × ℤ) → r.1 <ℤ r.0 → size r ≡ 0
size_of_none r h = by ((r.1 +ℤ pos 1) -ℤ r.0) (omega (arith, ints))
  where
    by : (z : ℤ) → z ≤ℤ pos 0 → natural z ≡ 0
    by (pos n) le = omega (arith, ints)
    by (negsuc n) le = refl

-- a range written out has the numbers of the range
pub is_in-span : (r : ℤ × ℤ) (v : ℤ) → is_in (span r) v ≡ is_within v r
unfolding span
is_in-span r v = is_in-count_from (size r) r.0 v ∙ by_lt_z r.1 r.0 none some
  where
    empty : (a b : ℤ) (n : ℕ) → b <ℤ a → n ≡ 0 → (int_le a v && int_lt v (a +ℤ pos n)) ≡ (int_le a v && int_le v b)
    empty a b n lt e = grind (arith, common_steps, ints)

    full : (a b : ℤ) (n : ℕ) → pos n ≡ (b +ℤ pos 1) -ℤ a → (int_le a v && int_lt v (a +ℤ pos n)) ≡ (int_le a v && int_le v b)
    full a b n e = grind (arith, common_steps, ints)

    none : r.1 <ℤ r.0 → (int_le r.0 v && int_lt v (r.0 +ℤ pos (size r))) ≡ is_within v r
    none lt = empty r.0 r.1 (size r) lt (size_of_none r lt)

    some : r.0 ≤ℤ r.1 → (int_le r.0 v && int_lt v (r.0 +ℤ pos (size r))) ≡ is_within v r
    some le = full r.0 r.1 (size r) (size_of_some r le)

-- what is written out is what the ranges cover
pub is_in-written : (rs : List (ℤ × ℤ)) (v : ℤ) → is_in (written rs) v ≡ covers rs v
unfolding written
is_in-written [] v = refl
is_in-written (r ∷ rs) v = is_in-append (span r) (written rs) v ∙ either (is_in-span r v) (is_in-written rs v)
  where
    either : {a b c d : Bool} → a ≡ c → b ≡ d → (a || b) ≡ (c || d)
    either e f = λ i. e i || f i

pub is_in-without : (xs ys : List ℤ) (v : ℤ) → is_in (without xs ys) v ≡ (is_in xs v && not (is_in ys v))
unfolding without
is_in-without xs ys v = is_in-filter (λ u. not (is_in ys u)) xs v
