-- Records that are read ahead of their turn, and counted.
use Rattle.std.specs.Prelude.{◌≡◌, ℕ, ◌+◌, ◌^◌, ◌≤◌, List, [], ◌∷◌, length, slice_get, Some, Result, Ok, Err}
use Rattle.design_data.specs.declared.design.Design.{Design}
use Rattle.sampler.specs.Plans.{IsTallyOf}
use Rattle.covd_filling.specs.declared.batches.Counted.{Counted}
use Rattle.covd_commands.specs.declared.finding.Source.{Source}
use Rattle.covd_commands.specs.declared.stop.Stop.{Stop}
use Rattle.covd_commands.specs.FromFiles.{Files}
use Rattle.covd_commands.specs.Finding.{Origin, Finds, IsFound}
use Rattle.covd_commands.specs.Origins.{IsRead}
use Rattle.covd_commands.specs.Ahead.{AreShort}

-- the k-th record with its tally, or why none comes from there
abbrev pub IsCounted : Files → ℕ → ℕ → Design → (k : ℕ) → Origin → Result Counted Stop → Type 0
IsCounted files before now d k origin (Ok c) = Finds files d k origin c.rec × IsTallyOf d c.rec c.tally
IsCounted files before now d k origin (Err stop) = IsFound files before now d k origin (Err stop)

-- the same of what was read, whatever it was read of
abbrev pub IsCountedIn : Design → (k : ℕ) → Source → Result Counted Stop → Type 0
IsCountedIn d k read result = (files : Files) (before now : ℕ) (origin : Origin) → IsRead files origin read → IsCounted files before now d k origin result

-- the same at an index of a batch, the first of which has the k-th record
abbrev pub IsCountedAt : Design → (k : ℕ) → List Source → (index : ℕ) → Result Counted Stop → Type 0
IsCountedAt d k batch index result = (read : Source) → slice_get batch index ≡ Some read → IsCountedIn d (k + index) read result

-- a batch that begins with the k-th record can be counted
abbrev pub AreReady : (k : ℕ) → List Source → Type 0
AreReady k batch = (k + length batch ≤ 2 ^ 64) × AreShort batch

-- what is found of the first origins, in order, the first of which has the k-th record; no file of theirs was unread
abbrev pub AreFound : Files → Design → (k : ℕ) → List Origin → List (Result Counted Stop) → Type 0
AreFound files d k origins [] = Unit {0}
AreFound files d k [] (result ∷ found) = ⊥
AreFound files d k (origin ∷ origins) (result ∷ found) = ((before now : ℕ) → IsCounted files before now d k origin result) × AreFound files d (k + 1) origins found
