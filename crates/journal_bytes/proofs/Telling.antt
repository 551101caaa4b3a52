-- Sums tell the items that they are over.
use Rattle.std.proofs.Common.{◌≡◌, ◌⊎◌, inl, inr, ⊎_elim, ℕ, suc, zero, ◌*◌, ◌+◌, ◌≤◌, List, [], ◌∷◌, ◌++◌, length, take, drop, refl, sym, ◌∙◌, ap, arith}
use Rattle.std.specs.Prelude.{Bool, true, false, ◌≢◌}
use Rattle.std.specs.List.{AllByRecursion}
use Rattle.std.specs.Str.{bytes_eq}
use Rattle.std.proofs.lemmas.Bool.Decides.{not_from_Decides}
use Rattle.std.proofs.lemmas.List.Elements.{recursion_from_All}
use Rattle.std.proofs.lemmas.Slice.Eq.{bytes_eq-Decides}
use Rattle.std.proofs.lemmas.List.{take_at, drop_at, take-take, drop-take}
use Rattle.sha2.specs.Sha256.{sha256}
use Rattle.sha2.proofs.Facts256.{length-sha256}
use Rattle.journal_bytes.specs.Items.{Item, IsWritable, head_of}
use Rattle.journal_bytes.specs.Sums.{sum_behind, sum_of, sums_of}
use Rattle.journal_bytes.specs.Laws.{Collision, SumsTell, FirstSumsTell}
use Rattle.journal_bytes.proofs.Heads.{IsAlike, same_head, same_item}

by_test : (xs ys : List ℕ) (t : Bool) → bytes_eq xs ys ≡ t → (xs ≡ ys) ⊎ (xs ≢ ys)
by_test xs ys true is = inl ((bytes_eq-Decides xs ys).0 is)
by_test xs ys false is = inr (not_from_Decides (bytes_eq xs ys) (bytes_eq-Decides xs ys) is)

-- two lists of bytes are the same or not
same_or_not : (xs ys : List ℕ) → (xs ≡ ys) ⊎ (xs ≢ ys)
same_or_not xs ys = by_test xs ys (bytes_eq xs ys) refl

-- messages with the same digest are the same, or are a collision
known : (xs ys : List ℕ) → sha256 xs ≡ sha256 ys → (xs ≡ ys) ⊎ Collision
known xs ys same = ⊎_elim (λ is. inl is) (λ apart. inr (record { one = xs; other = ys; apart = apart; same = same })) (same_or_not xs ys)

-- what a sum is over, taken apart
parts : (a b : Item) (x y : List ℕ) → length x ≡ 32 → length y ≡ 32 → IsWritable a → IsWritable b
    → x ++ (head_of a ++ sha256 a.content) ≡ y ++ (head_of b ++ sha256 b.content) → (x ≡ y) × (IsAlike a b × (sha256 a.content ≡ sha256 b.content))
parts a b x y one other fit fits same =
    let front : x ≡ y = sym (take_at x (head_of a ++ sha256 a.content) 32 one) ∙ ap (take 32) same ∙ take_at y (head_of b ++ sha256 b.content) 32 other in
    let rest : head_of a ++ sha256 a.content ≡ head_of b ++ sha256 b.content = sym (drop_at x (head_of a ++ sha256 a.content) 32 one) ∙ ap (drop 32) same ∙ drop_at y (head_of b ++ sha256 b.content) 32 other in
    (front, (same_head a b fit fits (ap (take 9) rest), ap (drop 9) rest))

one_sum : (a b : Item) (x y : List ℕ) → length x ≡ 32 → length y ≡ 32 → IsWritable a → IsWritable b → sum_behind x a ≡ sum_behind y b → ((x ≡ y) × (a ≡ b)) ⊎ Collision
one_sum a b x y one other fit fits same =
    ⊎_elim
    (λ is. let p = parts a b x y one other fit fits is in ⊎_elim (λ content. inl (p.0, same_item a b p.1.0 content)) (λ found. inr found) (known a.content b.content p.1.1))
    (λ found. inr found)
    (known (x ++ (head_of a ++ sha256 a.content)) (y ++ (head_of b ++ sha256 b.content)) same)

pub all_told : (items others : List Item) (x y : List ℕ) → length x ≡ 32 → length y ≡ 32 → AllByRecursion IsWritable items → AllByRecursion IsWritable others → length items ≡ length others
    → sum_of x items ≡ sum_of y others → ((x ≡ y) × (items ≡ others)) ⊎ Collision
all_told [] [] x y one other fit fits long same = inl (same, refl)
all_told [] (b ∷ bs) x y one other fit fits long same = absurd (omega (arith, long))
all_told (a ∷ as') [] x y one other fit fits long same = absurd (omega (arith, long))
all_told (a ∷ as') (b ∷ bs) x y one other fit fits long same =
    ⊎_elim
    (λ later. ⊎_elim (λ here. inl (here.0, λ i. here.1 i ∷ later.1 i)) (λ found. inr found) (one_sum a b x y one other fit.0 fits.0 later.0))
    (λ found. inr found)
    (all_told as' bs (sum_behind x a) (sum_behind y b) (length-sha256 _) (length-sha256 _) fit.1 fits.1 (omega (arith, long)) same)

pub sums_tell : SumsTell
sums_tell before items others long fit fits as_many same =
    ⊎_elim (λ both. inl both.1) (λ found. inr found)
    (all_told items others before before long long (recursion_from_All IsWritable items fit) (recursion_from_All IsWritable others fits) as_many same)

-- a front of a list behind 32 others
first_32 : (s rest : List ℕ) (n : ℕ) → length s ≡ 32 → take 32 (take (32 * suc n) (s ++ rest)) ≡ s
first_32 s rest n long = take-take 32 (32 * suc n) (s ++ rest) (omega arith) ∙ take_at s rest 32 long

behind_32 : (s rest : List ℕ) (n : ℕ) → length s ≡ 32 → drop 32 (take (32 * suc n) (s ++ rest)) ≡ take (32 * n) rest
behind_32 s rest n long =
    let more : 32 * suc n ≡ 32 + 32 * n = omega arith in
    ap (λ (m : ℕ). drop 32 (take m (s ++ rest))) more ∙ drop-take 32 (32 * n) (s ++ rest) ∙ ap (take (32 * n)) (drop_at s rest 32 long)

module _ (a b : Item) (x y : List ℕ) where
  heads_agree : (as' bs : List Item) (n : ℕ) → take (32 * suc n) (sums_of x (a ∷ as')) ≡ take (32 * suc n) (sums_of y (b ∷ bs)) → sum_behind x a ≡ sum_behind y b
  heads_agree as' bs n same = sym (first_32 (sum_behind x a) (sums_of (sum_behind x a) as') n (length-sha256 _)) ∙ ap (take 32) same ∙ first_32 (sum_behind y b) (sums_of (sum_behind y b) bs) n (length-sha256 _)

  rests_agree : (as' bs : List Item) (n : ℕ) → take (32 * suc n) (sums_of x (a ∷ as')) ≡ take (32 * suc n) (sums_of y (b ∷ bs)) → take (32 * n) (sums_of (sum_behind x a) as') ≡ take (32 * n) (sums_of (sum_behind y b) bs)
  rests_agree as' bs n same = sym (behind_32 (sum_behind x a) (sums_of (sum_behind x a) as') n (length-sha256 _)) ∙ ap (drop 32) same ∙ behind_32 (sum_behind y b) (sums_of (sum_behind y b) bs) n (length-sha256 _)

fronts_told : (n : ℕ) (items others : List Item) (x y : List ℕ) → length x ≡ 32 → length y ≡ 32 → AllByRecursion IsWritable items → AllByRecursion IsWritable others → n ≤ length items → n ≤ length others
    → take (32 * n) (sums_of x items) ≡ take (32 * n) (sums_of y others) → (take n items ≡ take n others) ⊎ Collision
fronts_told zero items others x y one other fit fits few less same = inl refl
fronts_told (suc n) [] others x y one other fit fits few less same = absurd (omega (arith, few))
fronts_told (suc n) (a ∷ as') [] x y one other fit fits few less same = absurd (omega (arith, less))
fronts_told (suc n) (a ∷ as') (b ∷ bs) x y one other fit fits few less same =
    ⊎_elim
    (λ here. ⊎_elim (λ later. inl (λ i. here.1 i ∷ later i)) (λ found. inr found)
    (fronts_told n as' bs (sum_behind x a) (sum_behind y b) (length-sha256 _) (length-sha256 _) fit.1 fits.1 (omega (arith, few)) (omega (arith, less)) (rests_agree a b x y as' bs n same)))
    (λ found. inr found)
    (one_sum a b x y one other fit.0 fits.0 (heads_agree a b x y as' bs n same))

pub first_sums_tell : FirstSumsTell
first_sums_tell before items others n long fit fits few less same =
    fronts_told n items others before before long long (recursion_from_All IsWritable items fit) (recursion_from_All IsWritable others fits) few less same
