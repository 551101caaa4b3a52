-- Numbers that stand above the gains, and which of them are the gains.
use Rattle.std.proofs.Common.{◌≡◌, ℕ, ◌<◌, ◌≤◌, List, length, refl, ◌∙◌, arith, Option, Some, None, Bool, true, false}
use Rattle.std.specs.Prelude.{slice_index, slice_index_or}
use Rattle.tally.specs.declared.ranked.Ranked.{Ranked}
use Rattle.rank_report.specs.Steps.{open_gain, IsBest, IsBestRow, StandAbove, AreFresh}
use Rattle.rank_report.proofs.Greatest.{open_here, taken_here}

module _ (gains : List ℕ) (taken : List Bool) (numbers : List ℕ) (same : length numbers ≡ length gains) (above : StandAbove gains taken numbers) where
  -- where no number is above 0 no gain is
  pub no_gain : IsBest numbers taken None → IsBest gains taken None
  no_gain none index lt = let a = above index lt in let z = none index (omega arith) in omega (arith, a, z)

  free : (row : Ranked) → IsBestRow numbers taken row → (t : Bool) → slice_index_or taken row.test false ≡ t → slice_index_or taken row.test false ≡ false
  free row b false e = e
  free row b true e = let z = taken_here numbers taken row.test e in absurd (omega (arith, z, b.is, b.some))

  -- the gain at the greatest number
  pub open_exact : (row : Ranked) → IsBestRow numbers taken row → open_gain gains taken row.test ≡ slice_index gains row.test
  open_exact row b = open_here gains taken row.test (free row b (slice_index_or taken row.test false) refl)

  -- where one open gain is known all numbers that stand at it or above it are needed alone
  pub best_fresh : (floor index : ℕ) → index < length gains → floor ≤ open_gain gains taken index → AreFresh gains taken floor numbers → (next : Option Ranked) → IsBest numbers taken next → IsBest gains taken next
  best_fresh floor at lt high fresh None b = no_gain b
  best_fresh floor at lt high fresh (Some row) b =
      let a = above at lt in
      let g = b.greatest at (omega arith) in
      let e = fresh row.test (omega (arith, b.inside)) (omega (arith, a, g, b.is)) in
      record {
        inside = omega (arith, b.inside);
        is = b.is ∙ e;
        some = b.some;
        greatest = λ index lt. let a = above index lt in let g = b.greatest index (omega arith) in omega (arith, a, g);
        earliest = λ index lt. let a = above index (omega (arith, b.inside)) in let e = b.earliest index lt in omega (arith, a, e);
      }

-- ---- one after the other

-- the numbers of the pairs before i that aren't below `floor` are the gains
abbrev pub FreshBelow : List ℕ → List Bool → ℕ → ℕ → List ℕ → Type 0
FreshBelow gains taken floor i numbers = (index : ℕ) → index < i → floor ≤ open_gain numbers taken index → open_gain numbers taken index ≡ open_gain gains taken index
