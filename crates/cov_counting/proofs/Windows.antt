-- Windows that end with the last value.
use Rattle.std.proofs.Common.{◌≡◌, ◌⊎◌, ◌↔◌, ℕ, ◌+◌, ◌-◌, ◌<◌, ◌≤◌, List, ◌++◌, length, get_or, drop, Bool, true, false, inl, inr, ap, sym, ◌∙◌, arith, length-append, length-drop, take, subst, zero, suc, ◌∷◌, []}
use Rattle.std.specs.Prelude.{ℤ, Option, Any, All, ◌==◌}
use Rattle.std.proofs.lemmas.Bool.{cases_lt, false≢true}
use Rattle.std.proofs.lemmas.List.{get_or_append_left, get_or-append-add, take_more, take_all}
use Rattle.std.proofs.lemmas.List.Elements.{All-push}
use Rattle.trans_seq.specs.declared.seq.Seq.{Seq}
use Rattle.trans_seq.specs.Windows.{InSeq, InSome}

module _ {X : Type 0} (P : X → Type 0) (a b : List X) where
  any_left : Any P a → Any P (a ++ b)
  any_left h = (h.0, h.1, omega (arith, h.2, length-append a b), get_or_append_left a b h.1 h.0 h.2 ∙ h.3, h.4)

  any_right : Any P b → Any P (a ++ b)
  any_right h = (length a + h.0, h.1, omega (arith, h.2, length-append a b), get_or-append-add a b h.0 h.1 ∙ h.3, h.4)

  any_either : Any P (a ++ b) → Any P a ⊎ Any P b
  any_either h = elim (cases_lt h.0 (length a)) [
    | inl lt ↦ inl (h.0, h.1, lt, sym (get_or_append_left a b h.1 h.0 lt) ∙ h.3, h.4)
    | inr ge ↦
        let e : length a + (h.0 - length a) ≡ h.0 = omega (arith, ge) in
        inr (h.0 - length a, h.1, omega (arith, ge, h.2, length-append a b), sym (get_or-append-add a b (h.0 - length a) h.1) ∙ ap (λ (k : ℕ). get_or (a ++ b) k h.1) e ∙ h.3, h.4)
  ]

module _ (a b : List Seq) (w : List (Option ℤ)) where
  pub some_left : InSome a w → InSome (a ++ b) w
  some_left = any_left (λ seq. InSeq seq.items w) a b

  pub some_right : InSome b w → InSome (a ++ b) w
  some_right = any_right (λ seq. InSeq seq.items w) a b

  pub some_either : InSome (a ++ b) w → InSome a w ⊎ InSome b w
  some_either = any_either (λ seq. InSeq seq.items w) a b

  -- a window in neither list is in none of both
  pub some_neither : (InSome a w → ⊥) → (InSome b w → ⊥) → InSome (a ++ b) w → ⊥
  some_neither na nb h = elim (some_either h) [ inl x ↦ na x | inr y ↦ nb y ]

-- an answer `true` that holds, or an answer `false` that doesn't
pub yes : {P : Type 0} (r : Bool) → r ≡ true → P → (r ≡ true) ↔ P
yes r e p = (λ _. p, λ _. e)

pub no : {P : Type 0} (r : Bool) → r ≡ false → (P → ⊥) → (r ≡ true) ↔ P
no r e n = (λ t. absurd (false≢true (sym e ∙ t)), λ p. absurd (n p))

-- ---- a list, an element at a time

module _ {X : Type 0} (P : X → Type 0) (xs : List X) where
  pub all_more : (i : ℕ) (x : X) → i < length xs → x ≡ get_or xs i x → All P (take i xs) → P x → All P (take (i + 1) xs)
  all_more i x lt at h p = subst (All P) (sym (take_more xs i x lt)) (All-push P (take i xs) (get_or xs i x) h (subst P at p))

  pub all_done : (i : ℕ) → length xs ≤ i → All P (take i xs) → All P xs
  all_done i le h = subst (All P) (take_all i xs le) h

  pub none_more : (i : ℕ) (x : X) → i < length xs → x ≡ get_or xs i x → (Any P (take i xs) → ⊥) → (P x → ⊥) → Any P (take (i + 1) xs) → ⊥
  none_more i x lt at h p any = elim (any_either P (take i xs) (get_or xs i x ∷ []) (subst (Any P) (take_more xs i x lt) any)) [
    | inl earlier ↦ h earlier
    | inr here ↦ p (subst P (sym at) (only (get_or xs i x) here))
  ]
    where
      only : (y : X) → Any P (y ∷ []) → P y
      only y a = let z : a.0 ≡ 0 = omega (arith, a.2) in subst P (sym (ap (λ (k : ℕ). get_or (y ∷ []) k a.1) (sym z) ∙ a.3)) a.4

  pub none_done : (i : ℕ) → length xs ≤ i → (Any P (take i xs) → ⊥) → Any P xs → ⊥
  none_done i le h any = h (subst (Any P) (sym (take_all i xs le)) any)

-- all that is left of a list
pub rest_is : {X : Type 0} → (xs : List X) (k : ℕ) → take (length xs - k) (drop k xs) ≡ drop k xs
rest_is xs k = take_all (length xs - k) (drop k xs) (omega (arith, length-drop k xs))

-- an element that was read is the same whatever stands for none
pub at_any : {X : Type 0} → (xs : List X) (k : ℕ) (x d : X) → k < length xs → x ≡ get_or xs k x → x ≡ get_or xs k d
at_any [] k x d lt e = absurd (omega (arith, lt))
at_any (y ∷ xs) zero x d lt e = e
at_any (y ∷ xs) (suc k) x d lt e = at_any xs k x d (omega (arith, lt)) e

pub some_of : (n : ℕ) → (n == 0) ≡ false → 0 < n
some_of zero e = absurd (false≢true (sym e))
some_of (suc n) e = omega arith
