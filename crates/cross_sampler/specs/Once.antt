-- Bins that rise at most once at a sample.
use Rattle.std.specs.Prelude.{◌≡◌, ◌⊎◌, ℕ, ◌+◌, ◌-◌, ◌^◌, ◌<◌, ◌≤◌, ◌==◌, List, length, slice_index, slice_get, Option, Some, None, Bool, true, not, ◌&&◌, if◌then◌else◌}
use Rattle.std.specs.List.{list_any}
use Rattle.design_data.specs.declared.infos.BinInfo.{BinInfo}
use Rattle.record_codec.specs.Samples.{Env}
use Rattle.cov_counting.specs.Hits.{holds}

abbrev pub guard_of : Env → Option BinInfo → Bool
guard_of env None = true
guard_of env (Some bin) = holds bin.guard env

-- the guard of the bin at an index is true
abbrev pub guard_at : List BinInfo → Env → ℕ → Bool
guard_at bins env b = guard_of env (slice_get bins b)

-- b is among the bins
abbrev pub is_among : ℕ → List ℕ → Bool
is_among b bins = list_any (λ x. x == b) bins

abbrev pub bit : Bool → ℕ
bit b = if b then 1 else 0

-- numbers that are those of none of so many bins from the first one on
abbrev pub IsOutside : (first bins number : ℕ) → Type 0
IsOutside first bins number = (number < first) ⊎ (first + bins ≤ number)

-- Each of the bins bears the mark; those that didn't before and whose guard is true have one more; no other number
-- changed. The counts of the bins stand from `first` on.
pub record Once (guard : ℕ → Bool) (first mark : ℕ) (bins stamps counts stamps' counts' : List ℕ) : Type 0 where
  pub same : length counts' ≡ length counts
  pub same_stamps : length stamps' ≡ length stamps
  pub stamped : (b : ℕ) → b < length stamps → slice_index stamps' b ≡ (if is_among b bins then mark else slice_index stamps b)
  pub at : (b : ℕ) → b < length stamps → slice_index counts' (first + b) ≡ slice_index counts (first + b) + bit (is_among b bins && (not (slice_index stamps b == mark) && guard b))
  pub others : (number : ℕ) → IsOutside first (length stamps) number → slice_index counts' number ≡ slice_index counts number

-- a bin without the mark has room for one more
abbrev pub HasRoom : (first mark : ℕ) (stamps counts : List ℕ) → Type 0
HasRoom first mark stamps counts = (b : ℕ) → b < length stamps → (slice_index stamps b ≡ mark → ⊥) → slice_index counts (first + b) < 2 ^ 64 - 1
