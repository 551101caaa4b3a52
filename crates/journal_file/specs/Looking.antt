-- What a call leaves of a disk that it only reads.
use Rattle.std.specs.Prelude.{◌≡◌, ℕ, List, Bool}
use Rattle.cov_disk.specs.Files.{LeavesOnly}

-- the disk tells the same bytes, and each image at any moment since was one before
pub record Looks {D : Type 0} (told : D → Bool) (seen : D → List ℕ) (may_leave : D → List ℕ → Type 0) (moment : D → ℕ) (left_since : D → ℕ → List ℕ → Type 0) (old new : D) : Type 0 where
  pub told_on : told new ≡ told old
  pub seen_on : seen new ≡ seen old
  pub images : (c : List ℕ) → may_leave new c → may_leave old c
  pub there : may_leave old (seen old) → may_leave new (seen new)
  pub moments : LeavesOnly moment left_since old new (may_leave old)

-- the disk tells still or doesn't, and each image at any moment since was one before
pub record Keeps {D : Type 0} (told : D → Bool) (may_leave : D → List ℕ → Type 0) (moment : D → ℕ) (left_since : D → ℕ → List ℕ → Type 0) (old new : D) : Type 0 where
  pub told_on : told new ≡ told old
  pub images : (c : List ℕ) → may_leave new c → may_leave old c
  pub moments : LeavesOnly moment left_since old new (may_leave old)
