-- Elements by their indexes.
use Rattle.std.proofs.Common.{◌≡◌, ℕ, zero, suc, ◌+◌, ◌<◌, ◌≤◌, ◌^◌, List, [], ◌∷◌, ◌++◌, length, get_or, refl, ap, sym, ◌∙◌, arith}
use Rattle.std.specs.Prelude.{slice_get, All}
use Rattle.std.specs.List.{flat_map, range_with_len}
use Rattle.std.proofs.lemmas.Option.{slice_get-get_or}
use Rattle.std.proofs.lemmas.List.{append-nil}
use Rattle.std.proofs.lemmas.List.Concat.{flat_map-append}
use Rattle.design_data.specs.declared.infos.ItemInfo.{ItemInfo}
use Rattle.design_data.specs.Bins.{size_of, coverage_bins}

-- the item at an index has so many coverage bins
pub size_at : (items : List ItemInfo) (index : ℕ) (item : ItemInfo) → index < length items → item ≡ get_or items index item → length (coverage_bins item) ≡ size_of (slice_get items index)
size_at items index item lt is = ap (λ (i : ItemInfo). length (coverage_bins i)) is ∙ sym (ap size_of (slice_get-get_or items index item lt))

-- and few enough for a `u32`
pub few_at : (items : List ItemInfo) (index n : ℕ) (item : ItemInfo) → All (λ i. length i.bins ≤ 65536) items → index < length items → item ≡ get_or items index item → n ≤ length item.bins → n < 2 ^ 32
few_at items index n item few lt is le = omega (arith, le, ap (λ (i : ItemInfo). length i.bins) is, few index item lt)

-- one number more in a range
pub range_more : (low n : ℕ) → range_with_len low (suc n) ≡ range_with_len low n ++ (low + n) ∷ []
range_more low zero = let e : low ≡ low + 0 = omega arith in ap (λ (m : ℕ). m ∷ []) e
range_more low (suc n) = ap (λ (ms : List ℕ). low ∷ ms) (range_more (low + 1) n ∙ (let e : low + 1 + n ≡ low + suc n = omega arith in ap (λ (m : ℕ). range_with_len (low + 1) n ++ m ∷ []) e))

module _ {A : Type 0} (f : ℕ → List A) where
  pub flat_more : (n : ℕ) → flat_map f (range_with_len 0 (n + 1)) ≡ flat_map f (range_with_len 0 n) ++ f n
  flat_more n =
      let e : n + 1 ≡ suc n = omega arith in
      ap (λ (m : ℕ). flat_map f (range_with_len 0 m)) e ∙ ap (flat_map f) (range_more 0 n) ∙ flat_map-append f (range_with_len 0 n) ((0 + n) ∷ [])
      ∙ (let z : 0 + n ≡ n = omega arith in ap (λ (m : ℕ). flat_map f (range_with_len 0 n) ++ flat_map f (m ∷ [])) z)
      ∙ ap (λ (xs : List A). flat_map f (range_with_len 0 n) ++ xs) (append-nil (f n))

-- a list without elements
pub none : {X : Type 0} → (xs : List X) → length xs ≡ 0 → xs ≡ []
none [] e = refl
none (x ∷ xs) e = absurd (omega (arith, e))
