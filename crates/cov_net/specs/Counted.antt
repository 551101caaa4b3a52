-- What the files and the standard streams promise beside their traits: they tell no content, and count exactly.
use Rattle.std.specs.Prelude.{◌≡◌, ℕ, ◌<◌, Result, Ok, Err, ⊤}
use Rattle.std.specs.Global.{Vec}
use Rattle.cov_base.specs.Plan.{one_more}
use Rattle.cov_base.specs.declared.shelf.ShelfRefusal.{ShelfRefusal}
use Rattle.cov_base.specs.declared.shelf.ShelfRefusal.TheVariants as refusal

-- The count of failures is one more where a read or a write failed, and else as before.
abbrev pub Counted : {T E : Type 0} → ℕ → ℕ → Result T E → Type 0
Counted before now (Ok value) = now ≡ before
Counted before now (Err cause) = now ≡ one_more before

-- The count of failures is one more where a load was refused, unless memory ran out, and else as before.
abbrev pub CountedLoad : ℕ → ℕ → Result (Vec ℕ) ShelfRefusal → Type 0
CountedLoad before now (Ok bytes) = now ≡ before
CountedLoad before now (Err refusal.Memory) = now ≡ before
CountedLoad before now (Err other) = now ≡ one_more before

-- No file is told, so none is said to be missing; the size of a file that is too long is above the limit.
abbrev pub IsUntoldRefusal : ℕ → ShelfRefusal → Type 0
IsUntoldRefusal most refusal.Missing = ⊥
IsUntoldRefusal most (refusal.TooLong size) = most < size
IsUntoldRefusal most other = ⊤
