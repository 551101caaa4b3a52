-- What a crash may leave of a file, from what was there at first and the calls since.
use Rattle.std.specs.Prelude.{◌≡◌, ◌⊎◌, ℕ, ◌≤◌, List, [], ◌∷◌, length}
use Rattle.std.proofs.Common.{inl, inr, arith}
use Rattle.cov_disk.specs.Files.{Torn}

-- a call, with what it may have done: nothing, a write of so many bytes at an offset, or a sync of these bytes
pub data Done : Type 0 where
  Looked : Done
  Wrote : (at n : ℕ) → Done
  Synced : (file : List ℕ) → Done

-- what may be left after these calls, the newest first
abbrev pub Leaves : (first : List ℕ) → List Done → List ℕ → Type 0
Leaves first [] c = c ≡ first
Leaves first (Looked ∷ earlier) c = Leaves first earlier c
Leaves first (Wrote at n ∷ earlier) c = (d : List ℕ) × Leaves first earlier d × Torn at n d c
Leaves first (Synced file ∷ earlier) c = (c ≡ file) × Leaves first earlier c

-- what may have been left since the moment after the first t calls
abbrev pub LeftSince : (first : List ℕ) → List Done → ℕ → List ℕ → Type 0
LeftSince first [] t c = Leaves first [] c
LeftSince first (call ∷ earlier) t c = Leaves first (call ∷ earlier) c ⊎ ((t ≤ length earlier) × LeftSince first earlier t c)

pub counts_now : (first : List ℕ) (calls : List Done) (t : ℕ) (c : List ℕ) → Leaves first calls c → LeftSince first calls t c
counts_now first [] t c left = left
counts_now first (call ∷ earlier) t c left = inl left

pub only_now : (first : List ℕ) (calls : List Done) (c : List ℕ) → LeftSince first calls (length calls) c → Leaves first calls c
only_now first [] c left = left
only_now first (call ∷ earlier) c (inl left) = left
only_now first (call ∷ earlier) c (inr past) = absurd (omega (arith, past.0))
