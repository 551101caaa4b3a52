-- The items of a part.
use Rattle.std.proofs.Common.{◌≡◌, ℕ, zero, suc, ◌+◌, List, [], ◌∷◌, ◌++◌, length, Bool, cond, Some, refl, ap, sym, ◌∙◌, arith}
use Rattle.std.specs.Prelude.{slice_get, filter}
use Rattle.std.specs.List.{range_with_len}
use Rattle.std.proofs.lemmas.List.Elements.{filter-append}
use Rattle.design_data.specs.declared.infos.InstInfo.{InstInfo}
use Rattle.sampler_plans.specs.Shares.{labels_at, chosen_items}

-- ---- a list of numbers that pass a test, one number more

range_last : (a n : ℕ) → range_with_len a (suc n) ≡ range_with_len a n ++ (a + n) ∷ []
range_last a zero = let e : a ≡ a + 0 = omega arith in ap (λ (k : ℕ). k ∷ []) e
range_last a (suc n) = let e : (a + 1) + n ≡ a + suc n = omega arith in ap (λ (ks : List ℕ). a ∷ ks) (range_last (a + 1) n ∙ ap (λ (k : ℕ). range_with_len (a + 1) n ++ k ∷ []) e)

filter_one : (p : ℕ → Bool) (x : ℕ) → filter p (x ∷ []) ≡ cond (p x) (x ∷ []) []
filter_one p x = by (p x) refl
  where
    by : (b : Bool) → p x ≡ b → filter p (x ∷ []) ≡ cond b (x ∷ []) []
    by b e = ap (λ (c : Bool). cond c (x ∷ []) []) e

pub passing_more : (p : ℕ → Bool) (n : ℕ) (old new : List ℕ) (test : Bool) → old ≡ filter p (range_with_len 0 n) → test ≡ p n → new ≡ old ++ cond test (n ∷ []) [] → new ≡ filter p (range_with_len 0 (n + 1))
passing_more p n old new test was is e =
    let next : n + 1 ≡ suc n = omega arith in
    let zero_more : 0 + n ≡ n = omega arith in
    let one : range_with_len 0 (n + 1) ≡ range_with_len 0 n ++ n ∷ [] = ap (λ (k : ℕ). range_with_len 0 k) next ∙ range_last 0 n ∙ ap (λ (k : ℕ). range_with_len 0 n ++ k ∷ []) zero_more in
    e ∙ (λ i. was i ++ cond (is i) (n ∷ []) []) ∙ ap (λ (ns : List ℕ). filter p (range_with_len 0 n) ++ ns) (sym (filter_one p n)) ∙ sym (filter-append p (range_with_len 0 n) (n ∷ [])) ∙ ap (filter p) (sym one)

-- ---- the items of an instance

-- the items of an instance that belong to the part
abbrev pub ShareAt : List InstInfo → (labels : List (List ℕ)) → (parts part : ℕ) → ℕ → List ℕ → Type 0
ShareAt instances labels parts part j own = (inst : InstInfo) → slice_get instances j ≡ Some inst → own ≡ chosen_items (labels_at labels j) parts part (length inst.items)
