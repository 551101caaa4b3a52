-- An element at a place, and what stands past the end.
use Rattle.std.proofs.Common.{◌≡◌, ℕ, zero, suc, ◌<◌, ◌≤◌, List, [], ◌∷◌, length, get_or, refl, arith}
use Rattle.std.specs.Prelude.{slice_index_or}

-- an element that was read is the same whatever stands for none
pub read_is : {X : Type 0} → (xs : List X) (k : ℕ) (x d : X) → k < length xs → x ≡ get_or xs k x → x ≡ slice_index_or xs k d
read_is [] k x d lt e = absurd (omega (arith, lt))
read_is (y ∷ xs) zero x d lt e = e
read_is (y ∷ xs) (suc k) x d lt e = read_is xs k x d (omega (arith, lt)) e

pub past_is : {X : Type 0} → (xs : List X) (k : ℕ) (d : X) → length xs ≤ k → slice_index_or xs k d ≡ d
past_is [] k d le = refl
past_is (y ∷ xs) zero d le = absurd (omega (arith, le))
past_is (y ∷ xs) (suc k) d le = past_is xs k d (omega (arith, le))
