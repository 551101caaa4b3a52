-- Sets, items and sequences that are the same.
use Rattle.std.proofs.Common.{◌≡◌, ℕ, ◌<◌, List, [], ◌∷◌, length, get_or, refl, arith}
use Rattle.std.specs.Prelude.{ℤ}
use Rattle.std.specs.Bool.{Decides}
use Rattle.std.specs.Ordering.{int_eq}
use Rattle.std.specs.Cmp.Lexicographic.{pointwise, pointwise_decides}
use Rattle.std.proofs.lemmas.Bool.{and_parts, and_from}
use Rattle.std.proofs.lemmas.List.{ext_get_or}
use Rattle.std.proofs.lemmas.Bool.Decides.{Decides-int_eq}
use Rattle.cov_base.specs.Sets.{is_same_range}
use Rattle.trans_seq.specs.declared.seq.Item.{Item}

one-range : (r s : ℤ × ℤ) → Decides (is_same_range r s) (r ≡ s)
one-range r s = (
  (λ t. let both = and_parts (int_eq r.0 s.0) (int_eq r.1 s.1) t in
      let low : r.0 ≡ s.0 = (Decides-int_eq r.0 s.0).0 both.0 in
      let high : r.1 ≡ s.1 = (Decides-int_eq r.1 s.1).0 both.1 in
      λ i. (low i, high i)),
  (λ e. and_from (int_eq r.0 s.0) (int_eq r.1 s.1) ((Decides-int_eq r.0 s.0).1 (λ i. (e i).0)) ((Decides-int_eq r.1 s.1).1 (λ i. (e i).1))),
)

pub same-ranges : (a b : List (ℤ × ℤ)) → Decides (pointwise is_same_range a b) (a ≡ b)
same-ranges = pointwise_decides one-range

pub item-same : (a b : Item) → a.set ≡ b.set → a.repeat ≡ b.repeat → a ≡ b
item-same a b set repeat = λ i. record { set = set i; repeat = repeat i }

pub same-by-index : (a b : List Item) → length a ≡ length b → ((k : ℕ) (d : Item) → k < length a → get_or a k d ≡ get_or b k d) → a ≡ b
same-by-index [] [] long at = refl
same-by-index [] (y ∷ ys) long at = absurd (omega (arith, long))
same-by-index (x ∷ xs) [] long at = absurd (omega (arith, long))
same-by-index (x ∷ xs) (y ∷ ys) long at = ext_get_or x (x ∷ xs) (y ∷ ys) long (λ i lt. at i x lt)
