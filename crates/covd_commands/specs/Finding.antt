-- Where a record comes from: that it is found there, or why none is; and what the steps of finding it answer.
use Rattle.std.specs.Prelude.{◌≡◌, ◌⊎◌, ℕ, ◌≤◌, List, Ok, Err, codes, ◌<◌, Result}
use Rattle.record_codec.specs.declared.record.Record.{Record}
use Rattle.record_codec.specs.Spelling.{Encodes, fields_of}
use Rattle.cov_ground.specs.Limits.{longest_record, most_events}
use Rattle.design_data.specs.declared.design.Design.{Design}
use Rattle.covd_commands.specs.declared.status.Status.{Status}
use Rattle.covd_commands.specs.declared.status.Status.TheVariants as status
use Rattle.record_codec.specs.Builders.{told}
use Rattle.covd_commands.specs.Unadmitted.{full_line}
use Rattle.covd_commands.specs.Making.{made_fields, made_events, made_size}
use Rattle.sampler.specs.Shape.{Fits}
use Rattle.covd_commands.specs.declared.stop.Stop.{Stop}
use Rattle.covd_commands.specs.declared.stop.Stop.TheVariants.{Memory, Refused}
use Rattle.covd_commands.specs.FromFiles.{NotLoaded, HasRecord, HasNoRecord, Files, IsRefusedText}

-- where a record comes from: the file of this name, or the generator
pub data Origin : Type 0 where
  File : (name : List ℕ) → Origin
  Made : (seed rounds : ℕ) → Origin

-- the k-th record comes from there; of the generator it is that of the test with this number
abbrev pub Finds : Files → Design → (k : ℕ) → Origin → Record → Type 0
Finds files d k (File name) r = HasRecord files name d r
Finds files d k (Made seed rounds) r = fields_of r ≡ made_fields d seed rounds k

-- the record of a test would have too many events, or else too many bytes, and the line says how many
abbrev pub IsTooMuch : Design → (seed rounds test : ℕ) → List ℕ → Type 0
IsTooMuch d seed rounds test text =
    ((most_events < made_events d seed rounds test) × (text ≡ full_line test (codes "events") 0 (made_events d seed rounds test)))
    ⊎ ((made_events d seed rounds test ≤ most_events) × (longest_record < made_size d seed rounds test) × (text ≡ full_line test (codes "record") 0 (told (made_size d seed rounds test))))

-- No k-th record comes from there: the file can't be had, or has no record that fits the design; or a limit is passed.
abbrev pub FindsNone : Files → ℕ → ℕ → Design → (k : ℕ) → Origin → Status → List ℕ → Type 0
FindsNone files before now d k (File name) s text = NotLoaded files before now name longest_record s text ⊎ ((s ≡ status.RecordRefused) × HasNoRecord files name d k text)
FindsNone files before now d k (Made seed rounds) s text = (s ≡ status.AdmitRefused) × IsTooMuch d seed rounds k text

-- ---- steps

-- a record isn't admitted, with this line
abbrev pub IsLine : (line : List ℕ) → Stop → Type 0
IsLine line (Refused a) = (a.status ≡ status.AdmitRefused) × (a.text.items ≡ line)
IsLine line Memory = Unit {0}

-- the k-th record from its bytes
abbrev pub IsDecoded : (k : ℕ) → Design → List ℕ → Result Record Stop → Type 0
IsDecoded k d bytes (Ok r) = Encodes r bytes × Fits d r
IsDecoded k d bytes (Err (Refused a)) = (a.status ≡ status.RecordRefused) × ((r : Record) → Encodes r bytes → Fits d r → ⊥) × IsRefusedText k d bytes a.text.items
IsDecoded k d bytes (Err Memory) = Unit {0}

-- the record of a test
abbrev pub IsMade : Design → (seed rounds test : ℕ) → Result Record Stop → Type 0
IsMade d seed rounds test (Ok r) = fields_of r ≡ made_fields d seed rounds test
IsMade d seed rounds test (Err (Refused a)) = (a.status ≡ status.AdmitRefused) × IsTooMuch d seed rounds test a.text.items
IsMade d seed rounds test (Err Memory) = Unit {0}

-- the k-th record, or why none comes from there
abbrev pub IsFound : Files → ℕ → ℕ → Design → (k : ℕ) → Origin → Result Record Stop → Type 0
IsFound files before now d k origin (Ok r) = Finds files d k origin r
IsFound files before now d k origin (Err (Refused a)) = FindsNone files before now d k origin a.status a.text.items
IsFound files before now d k origin (Err Memory) = Unit {0}

-- why nothing can be read of an origin: no record comes from there
abbrev pub NoneComes : Files → ℕ → ℕ → Origin → Stop → Type 0
NoneComes files before now origin stop = (d : Design) (k : ℕ) → IsFound files before now d k origin (Err stop)
