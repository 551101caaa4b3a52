-- Names that are made once.
use Rattle.std.proofs.Common.{◌≡◌, ◌∙◌, ℕ, zero, suc, ◌++◌, List, [], ◌∷◌, Option, Some, ap, sym, subst, refl}
use Rattle.std.specs.Prelude.{decimal, slice_get, slice_set}
use Rattle.elab_members.specs.Defaults.{AreNumbered}

same_some : {X : Type 0} (x y : X) → Some x ≡ Some y → x ≡ y
same_some x y e = cc

-- what holds of each element, and of a further one for its place, holds of each where that one is put there
replaced : {X : Type 0} (P : ℕ → X → Type 0) (xs : List X) (i : ℕ) (y : X) → ((k : ℕ) (x : X) → slice_get xs k ≡ Some x → P k x) → P i y → (k : ℕ) (x : X) → slice_get (slice_set xs i y) k ≡ Some x → P k x
replaced P [] i y h p k x e = h k x e
replaced P (a ∷ xs) zero y h p zero x e = subst (P zero) (same_some y x e) p
replaced P (a ∷ xs) zero y h p (suc k) x e = h (suc k) x e
replaced P (a ∷ xs) (suc i) y h p zero x e = h zero x e
replaced P (a ∷ xs) (suc i) y h p (suc k) x e = replaced (λ n z. P (suc n) z) xs i y (λ n z q. h (suc n) z q) p k x e

pub kept_numbered : (prefix : List ℕ) (names : List (Option (List ℕ))) (i : ℕ) (made : List ℕ) → AreNumbered prefix names → made ≡ prefix ++ decimal i → AreNumbered prefix (slice_set names i (Some made))
kept_numbered prefix names i made are is = λ k name e. replaced (λ n x. (text : List ℕ) → x ≡ Some text → text ≡ prefix ++ decimal n) names i (Some made) (λ n x q text s. are n text (q ∙ ap Some s)) (λ text s. sym (same_some made text s) ∙ is) k (Some name) e name refl
