-- Where records come from as the code has it, and what is read of it before a record is decoded or made.
use Rattle.std.specs.Prelude.{◌≡◌, ℕ, ◌≤◌, List, length, map, replicate, string_bytes, Result}
use Rattle.cov_base.specs.Loads.{HasFile}
use Rattle.cov_ground.specs.Limits.{longest_record}
use Rattle.design_data.specs.declared.design.Design.{Design}
use Rattle.record_codec.specs.declared.record.Record.{Record}
use Rattle.covd_commands.specs.declared.origins.Origin.{Origin as Coded}
use Rattle.covd_commands.specs.declared.origins.Origin.TheVariants as one
use Rattle.covd_commands.specs.declared.origins.Origins.{Origins}
use Rattle.covd_commands.specs.declared.origins.Origins.TheVariants as many
use Rattle.covd_commands.specs.declared.finding.Source.{Source}
use Rattle.covd_commands.specs.declared.finding.Source.TheVariants as source
use Rattle.covd_commands.specs.declared.stop.Stop.{Stop}
use Rattle.covd_commands.specs.FromFiles.{Files}
use Rattle.covd_commands.specs.Finding.{Origin, File, Made, IsFound}

abbrev pub origin_of : Coded → Origin
origin_of (one.File name) = File name.now
origin_of (one.Made numbers) = Made numbers.seed numbers.rounds

abbrev pub origins_of : Origins → List Origin
origins_of (many.Files names) = map File (map string_bytes names.now)
origins_of (many.Made numbers) = replicate numbers.tests (Made numbers.seed numbers.rounds)

-- what is read of the origin
abbrev pub IsRead : Files → Origin → Source → Type 0
IsRead files (File name) (source.Bytes bytes) = HasFile files name bytes.items × (length bytes.items ≤ longest_record)
IsRead files (Made seed rounds) (source.Numbers numbers) = (numbers.seed ≡ seed) × (numbers.rounds ≡ rounds)
IsRead files origin other = ⊥

-- no file is longer than a record
abbrev pub IsShort : Source → Type 0
IsShort (source.Bytes bytes) = length bytes.items ≤ longest_record
IsShort (source.Numbers numbers) = Unit {0}

-- the k-th record of what was read, whatever it was read of, or why there is none
abbrev pub IsFoundIn : Design → (k : ℕ) → Source → Result Record Stop → Type 0
IsFoundIn d k read result = (files : Files) (before now : ℕ) (origin : Origin) → IsRead files origin read → IsFound files before now d k origin result
