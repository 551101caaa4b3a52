-- What stands at a place of a list.
use Rattle.std.proofs.Common.{◌≡◌, ◌<◌, ◌+◌, ℕ, List, [], ◌∷◌, ◌++◌, length, get_or, Some, refl, ap, sym, subst, ◌∙◌, inl, inr, arith}
use Rattle.std.specs.Prelude.{slice_get}
use Rattle.std.proofs.lemmas.Bool.{cases_lt}
use Rattle.std.proofs.lemmas.List.{get_or_append_left}
use Rattle.std.proofs.lemmas.Option.{slice_get-get_or}

pub one_of : {X : Type 0} (P : X → Type 0) (xs : List X) (k : ℕ) (x y : X) → slice_get xs k ≡ Some x → slice_get xs k ≡ Some y → P x → P y
one_of P xs k x y e f h = let same : Some x ≡ Some y = sym e ∙ f in let equal : x ≡ y = cc in subst P equal h

-- what holds of the elements before a place, and of the one there
pub each_more : {X : Type 0} (P : ℕ → X → Type 0) (xs : List X) (t : ℕ) (x : X) → slice_get xs t ≡ Some x → P t x → ((k : ℕ) (y : X) → k < t → slice_get xs k ≡ Some y → P k y) → (k : ℕ) (y : X) → k < t + 1 → slice_get xs k ≡ Some y → P k y
each_more {X = X} P xs t x e own h k y lt at = elim (cases_lt k t) [
  | inl lower ↦ h k y lower at
  | inr ge ↦
      let same : t ≡ k = omega (arith, lt, ge) in
      one_of (λ (z : X). P k z) xs k x y (ap (λ (j : ℕ). slice_get xs j) (sym same) ∙ e) at (subst (λ (j : ℕ). P j x) same own)
]

-- the item and the plan at an index that the code reads
pub read_at : {X : Type 0} (xs : List X) (k : ℕ) (x : X) → k < length xs → x ≡ get_or xs k x → slice_get xs k ≡ Some x
read_at xs k x lt is = slice_get-get_or xs k x lt ∙ ap (λ (y : _). Some y) (sym is)

last_of : {X : Type 0} (xs : List X) (x d : X) → get_or (xs ++ x ∷ []) (length xs) d ≡ x
last_of [] x d = refl
last_of (y ∷ xs) x d = last_of xs x d

-- one state behind those before
pub each_push : {X : Type 0} (P : ℕ → X → Type 0) (states new : List X) (t : ℕ) (state : X) → length states ≡ t → new ≡ states ++ state ∷ [] → P t state → ((i : ℕ) (s : X) → i < t → P i (get_or states i s)) → (i : ℕ) (s : X) → i < t + 1 → P i (get_or new i s)
each_push {X = X} P states new t state len push own h i s lt = elim (cases_lt i t) [
  | inl lower ↦ subst (P i) (sym (ap (λ (xs : List X). get_or xs i s) push ∙ get_or_append_left states (state ∷ []) s i (omega (arith, lower, len)))) (h i s lower)
  | inr ge ↦
      let same : t ≡ i = omega (arith, lt, ge) in
      let read : get_or new i s ≡ state = ap (λ (xs : List X). get_or xs i s) push ∙ ap (λ (j : ℕ). get_or (states ++ state ∷ []) j s) (sym same ∙ sym len) ∙ last_of states state s in
      subst (P i) (sym read) (subst (λ (j : ℕ). P j state) same own)
]
