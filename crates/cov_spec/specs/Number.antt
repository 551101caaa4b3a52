-- How many places satisfy a fact.
use Rattle.std.specs.Prelude.{ℕ, zero, suc}

-- `Number P n c`: c is the number of the places k below n at which `P k`
pub data Number (P : ℕ → Type 0) : ℕ → ℕ → Type 0 where
  none : Number P zero zero
  yes : {n c : ℕ} → Number P n c → P n → Number P (suc n) (suc c)
  no : {n c : ℕ} → Number P n c → (P n → ⊥) → Number P (suc n) c
