-- Numbers from 0 on, and filters of lists, an element at a time.
use Rattle.std.proofs.Common.{◌≡◌, ℕ, zero, suc, ◌+◌, ◌<◌, ◌≤◌, List, [], ◌∷◌, ◌++◌, length, take, get_or, Bool, cond, refl, sym, ap, ◌∙◌, arith, add-one}
use Rattle.std.specs.Prelude.{filter, count_by}
use Rattle.std.specs.List.{range_with_len}
use Rattle.std.proofs.lemmas.List.{take_more, take_all}
use Rattle.std.proofs.lemmas.List.Sums.{sum_by_push}
use Rattle.cov_history.proofs.Bools.{by_bool}
use Rattle.cov_history.proofs.Filters.{filter_append}

range_snoc : (a n : ℕ) → range_with_len a (suc n) ≡ range_with_len a n ++ (a + n) ∷ []
range_snoc a zero = let e : a ≡ a + 0 = omega arith in ap (λ (k : ℕ). k ∷ []) e
range_snoc a (suc n) = let e : (a + 1) + n ≡ a + suc n = omega arith in ap (λ (ks : List ℕ). a ∷ ks) (range_snoc (a + 1) n ∙ ap (λ (k : ℕ). range_with_len (a + 1) n ++ k ∷ []) e)

pub filter_one : {X : Type 0} (p : X → Bool) (x : X) → filter p (x ∷ []) ≡ cond (p x) (x ∷ []) []
filter_one p x = by_bool (p x) (λ k. rw k refl) (λ k. rw k refl)

-- one number more
pub range_more : (p : ℕ → Bool) (n : ℕ) (old new : List ℕ) (test : Bool) → old ≡ filter p (range_with_len 0 n) → test ≡ p n → new ≡ old ++ cond test (n ∷ []) [] → new ≡ filter p (range_with_len 0 (n + 1))
range_more p n old new test was is e =
    let one : range_with_len 0 (n + 1) ≡ range_with_len 0 n ++ n ∷ [] = rw (add-one) (range_snoc 0 n ∙ ap (λ (k : ℕ). range_with_len 0 n ++ k ∷ []) (zero_more n)) in
    e ∙ (λ i. was i ++ cond (is i) (n ∷ []) []) ∙ ap (λ (ns : List ℕ). filter p (range_with_len 0 n) ++ ns) (sym (filter_one p n)) ∙ sym (filter_append p (range_with_len 0 n) (n ∷ [])) ∙ ap (filter p) (sym one)
  where
    zero_more : (k : ℕ) → 0 + k ≡ k
    zero_more k = omega arith

pub range_done : (p : ℕ → Bool) (n most : ℕ) (all : List ℕ) → all ≡ filter p (range_with_len 0 n) → n ≡ most → all ≡ filter p (range_with_len 0 most)
range_done p n most all was e = was ∙ ap (λ (k : ℕ). filter p (range_with_len 0 k)) e

module _ {X : Type 0} (p : X → Bool) (xs : List X) where
  -- one element more
  pub take_filter : (i : ℕ) (x : X) (old new : List X) (test : Bool) → i < length xs → x ≡ get_or xs i x → old ≡ filter p (take i xs) → test ≡ p x → new ≡ old ++ cond test (x ∷ []) [] → new ≡ filter p (take (i + 1) xs)
  take_filter i x old new test lt at was is e =
      let one : take (i + 1) xs ≡ take i xs ++ x ∷ [] = take_more xs i x lt ∙ ap (λ (y : X). take i xs ++ y ∷ []) (sym at) in
      e ∙ (λ k. was k ++ cond (is k) (x ∷ []) []) ∙ ap (λ (ys : List X). filter p (take i xs) ++ ys) (sym (filter_one p x)) ∙ sym (filter_append p (take i xs) (x ∷ [])) ∙ ap (filter p) (sym one)

  pub take_filtered : (i : ℕ) (all : List X) → length xs ≤ i → all ≡ filter p (take i xs) → all ≡ filter p xs
  take_filtered i all le was = was ∙ ap (filter p) (take_all i xs le)

  pub take_count : (i : ℕ) (x : X) (old new : ℕ) → i < length xs → x ≡ get_or xs i x → old ≡ count_by p (take i xs) → new ≡ old + cond (p x) 1 0 → new ≡ count_by p (take (i + 1) xs)
  take_count i x old new lt at was e =
      let one : take (i + 1) xs ≡ take i xs ++ x ∷ [] = take_more xs i x lt ∙ ap (λ (y : X). take i xs ++ y ∷ []) (sym at) in
      let c = sum_by_push (λ (y : X). cond (p y) 1 0) (take i xs) x in
      let s = ap (count_by p) one in
      omega (arith, was, e, c, s)
