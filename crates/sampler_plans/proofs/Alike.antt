-- Items that are alike, one by one.
use Rattle.std.proofs.Common.{◌≡◌, ◌<◌, ◌+◌, ℕ, List, [], ◌∷◌, length, get_or, Some, inl, inr, refl, subst, arith}
use Rattle.std.specs.Prelude.{slice_get}
use Rattle.std.proofs.lemmas.Bool.{cases_lt}
use Rattle.std.proofs.lemmas.List.{ext_get_or}
use Rattle.design_data.specs.declared.infos.ItemInfo.{ItemInfo}
use Rattle.sampler_plans.specs.declared.plan.ItemPlan.{ItemPlan}
use Rattle.sampler_plans.specs.ItemPlans.{IsPlanOf}

-- lists that have the same at each place
pub same_by_place : {A : Type 0} (a b : List A) → length a ≡ length b → ((k : ℕ) (d : A) → k < length a → get_or a k d ≡ get_or b k d) → a ≡ b
same_by_place [] [] long at = refl
same_by_place [] (y ∷ ys) long at = absurd (omega (arith, long))
same_by_place (x ∷ xs) [] long at = absurd (omega (arith, long))
same_by_place (x ∷ xs) (y ∷ ys) long at = ext_get_or x (x ∷ xs) (y ∷ ys) long (λ i lt. at i x lt)

-- the plans of the first n items
abbrev pub FirstPlans : List ItemInfo → List ItemPlan → ℕ → Type 0
FirstPlans items made n = (k : ℕ) (item : ItemInfo) (p : ItemPlan) → k < n → slice_get items k ≡ Some item → slice_get made k ≡ Some p → IsPlanOf items item item.shape p

pub plans_more : (items : List ItemInfo) (made : List ItemPlan) (n : ℕ) → FirstPlans items made n
    → ((item : ItemInfo) (p : ItemPlan) → slice_get items n ≡ Some item → slice_get made n ≡ Some p → IsPlanOf items item item.shape p) → FirstPlans items made (n + 1)
plans_more items made n before here = λ k item p lt e f. elim (cases_lt k n) [
  | inl less ↦ before k item p less e f
  | inr ge ↦ let same : k ≡ n = omega (arith, lt, ge) in here item p (subst (λ (j : ℕ). slice_get items j ≡ Some item) same e) (subst (λ (j : ℕ). slice_get made j ≡ Some p) same f)
]
