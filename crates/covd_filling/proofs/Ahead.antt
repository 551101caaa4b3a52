-- Records that are read ahead of their turn, and counted.
use Rattle.std.proofs.Common.{◌≡◌, ℕ, suc, ◌+◌, ◌<◌, List, [], ◌∷◌, length, Result, refl, subst, arith}
use Rattle.std.specs.Prelude.{slice_index_or}
use Rattle.design_data.specs.declared.design.Design.{Design}
use Rattle.covd_filling.specs.declared.batches.Counted.{Counted}
use Rattle.covd_commands.specs.declared.finding.Source.{Source}
use Rattle.covd_commands.specs.declared.stop.Stop.{Stop}
use Rattle.covd_commands.specs.FromFiles.{Files}
use Rattle.covd_commands.specs.Finding.{Origin}
use Rattle.covd_filling.specs.Batches.{IsCounted, IsCountedIn, IsCountedAt, AreFound}
use Rattle.covd_commands.specs.Ahead.{AreRead}

module _ (files : Files) where
  -- what is counted of what is read
  pub found_all : (d : Design) (k : ℕ) (origins : List Origin) (batch : List Source) (left : List Origin) (found : List (Result Counted Stop)) → AreRead files origins batch left → length found ≡ length batch
      → ((index : ℕ) (x : Result Counted Stop) → index < length batch → IsCountedAt d k batch index (slice_index_or found index x)) → AreFound files d k origins found
  found_all d k origins batch left [] r len each = tt
  found_all d k origins [] left (x ∷ found) r len each = absurd (omega (arith, len))
  found_all d k [] (b ∷ batch) left (x ∷ found) r len each = absurd r
  found_all d k (o ∷ origins) (b ∷ batch) left (x ∷ found) r len each = (λ before now. here files before now o r.0, found_all d (k + 1) origins batch left found r.1 (omega (arith, len)) later)
    where
      here : IsCountedIn d k b x
      here = subst (λ (n : ℕ). IsCountedIn d n b x) (omega arith) (each 0 x (omega arith) b refl)

      later : (index : ℕ) (y : Result Counted Stop) → index < length batch → IsCountedAt d (k + 1) batch index (slice_index_or found index y)
      later index y lt read e = subst (λ (n : ℕ). IsCountedIn d n read (slice_index_or found index y)) (omega arith) (each (suc index) y (omega (arith, lt)) read e)

-- nothing is found
pub none_found : (files : Files) (d : Design) (k : ℕ) (origins : List Origin) (found : List (Result Counted Stop)) → length found ≡ 0 → AreFound files d k origins found
none_found files d k origins [] e = tt
none_found files d k origins (x ∷ found) e = absurd (omega (arith, e))

-- the first of what is found
pub next_one : (files : Files) (d e : Design) (k : ℕ) (origin : Origin) (later : List Origin) (found rest : List (Result Counted Stop)) (first : Result Counted Stop) → d ≡ e → found ≡ first ∷ rest → AreFound files d k (origin ∷ later) found → (before now : ℕ) → IsCounted files before now e k origin first
next_one files d e k origin later found rest first same is are before now =
    let begun = subst (λ (xs : List (Result Counted Stop)). AreFound files d k (origin ∷ later) xs) is are in
    subst (λ (x : Design). IsCounted files before now x k origin first) same (begun.0 before now)
