-- What is read of records ahead of their turn.
use Rattle.std.specs.Prelude.{◌≡◌, ℕ, List, [], ◌∷◌, slice_get, Some}
use Rattle.covd_commands.specs.declared.finding.Source.{Source}
use Rattle.covd_commands.specs.FromFiles.{Files}
use Rattle.covd_commands.specs.Finding.{Origin}
use Rattle.covd_commands.specs.Origins.{IsRead, IsShort}

-- no file of the batch is longer than a record
abbrev pub AreShort : List Source → Type 0
AreShort batch = (index : ℕ) (read : Source) → slice_get batch index ≡ Some read → IsShort read

-- the batch has what is read of the first origins, in order; the other ones are left
abbrev pub AreRead : Files → List Origin → List Source → (left : List Origin) → Type 0
AreRead files origins [] left = origins ≡ left
AreRead files [] (read ∷ batch) left = ⊥
AreRead files (origin ∷ origins) (read ∷ batch) left = IsRead files origin read × AreRead files origins batch left
