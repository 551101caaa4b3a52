-- Tests that answer true exactly where something holds.
use Rattle.std.proofs.Common.{◌≡◌, ◌↔◌, ℕ, ◌+◌, ◌<◌, ◌≤◌, zero, suc, Bool, true, false, List, [], ◌∷◌, ◌++◌, length, get_or, take, sym, subst, ◌∙◌, arith}
use Rattle.std.specs.List.{AllByRecursion}
use Rattle.std.proofs.lemmas.Bool.{false≢true}
use Rattle.std.proofs.lemmas.List.{take_more, take_all}

-- an answer `true` that holds, or an answer `false` that doesn't
pub yes : {P : Type 0} (r : Bool) → r ≡ true → P → (r ≡ true) ↔ P
yes r e p = (λ _. p, λ _. e)

pub no : {P : Type 0} (r : Bool) → r ≡ false → (P → ⊥) → (r ≡ true) ↔ P
no r e n = (λ t. absurd (false≢true (sym e ∙ t)), λ p. absurd (n p))

-- the answer of a test stands for something else as well
pub same : {P Q : Type 0} (r : Bool) → ((r ≡ true) ↔ P) → (P → Q) → (Q → P) → (r ≡ true) ↔ Q
same r h there back = (λ e. there (h.0 e), λ q. h.1 (back q))

-- ---- a list, an element at a time

pub all_snoc : {X : Type 0} (P : X → Type 0) (xs : List X) (x : X) → AllByRecursion P xs → P x → AllByRecursion P (xs ++ x ∷ [])
all_snoc P [] x h p = (p, tt)
all_snoc P (y ∷ xs) x h p = (h.0, all_snoc P xs x h.1 p)

pub all_at : {X : Type 0} (P : X → Type 0) (xs : List X) (i : ℕ) (d : X) → AllByRecursion P xs → i < length xs → P (get_or xs i d)
all_at P [] i d h lt = absurd (omega (arith, lt))
all_at P (x ∷ xs) zero d h lt = h.0
all_at P (x ∷ xs) (suc i) d h lt = all_at P xs i d h.1 (omega (arith, lt))

pub all_more : {X : Type 0} (P : X → Type 0) (xs : List X) (i : ℕ) (d : X) → i < length xs → AllByRecursion P (take i xs) → P (get_or xs i d) → AllByRecursion P (take (i + 1) xs)
all_more P xs i d lt h p = subst (AllByRecursion P) (sym (take_more xs i d lt)) (all_snoc P (take i xs) (get_or xs i d) h p)

pub all_done : {X : Type 0} (P : X → Type 0) (xs : List X) (i : ℕ) → length xs ≤ i → AllByRecursion P (take i xs) → AllByRecursion P xs
all_done P xs i le h = subst (AllByRecursion P) (take_all i xs le) h
