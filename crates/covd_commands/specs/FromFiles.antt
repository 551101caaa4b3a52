-- What the files of a shelf have: a design, a record that fits it, or why they can't be had.
use Rattle.std.specs.Prelude.{◌≡◌, ◌⊎◌, ℕ, ◌≤◌, List, length, Option}
use Rattle.cov_spec.specs.Causes.{Rose}
use Rattle.cov_base.specs.Loads.{HasFile, LacksFile, HasLongFile}
use Rattle.record_codec.specs.declared.record.Record.{Record}
use Rattle.record_codec.specs.declared.fault.RecordFault.{RecordFault}
use Rattle.record_codec.specs.Spelling.{Encodes}
use Rattle.record_codec.specs.Reading.{HasFault}
use Rattle.cov_compile.specs.declared.fault.CompileFault.{CompileFault}
use Rattle.cov_compile.specs.Compiling.{IsDesign, IsDesignFault}
use Rattle.cov_compile.specs.Elaboration.{Parts, parts_of}
use Rattle.cov_ground.specs.Limits.{longest_design, longest_record}
use Rattle.design_data.specs.declared.design.Design.{Design}
use Rattle.covd_commands.specs.declared.status.Status.{Status}
use Rattle.covd_commands.specs.declared.status.Status.TheVariants as status
use Rattle.sampler.specs.Shape.{Fits, IsWrongAt}
use Rattle.covd_commands.specs.Lines.{IsDesignFaultText, IsFaultText, wrong_shape_text, cannot_read_text, too_long_text}

-- the files of a shelf, where it tells them
abbrev pub Files : Type 0
Files = Option (List (List ℕ × List ℕ))

-- The file of that name isn't there, or the count of the shelf's faults rose from `before` to `now`.
abbrev pub IsUnread : Files → ℕ → ℕ → List ℕ → Type 0
IsUnread files before now name = LacksFile files name ⊎ Rose before now

-- status and text where the file of that name, of at most so many bytes, can't be had
abbrev pub NotLoaded : Files → ℕ → ℕ → List ℕ → ℕ → Status → List ℕ → Type 0
NotLoaded files before now name most status.ShelfFault text = IsUnread files before now name × (text ≡ cannot_read_text name)
NotLoaded files before now name most status.FileTooLong text = (size : ℕ) × HasLongFile files before now name most size × (text ≡ too_long_text name size)
NotLoaded files before now name most other text = ⊥

-- the file of that name has the design
pub record HasDesign (files : Files) (name : List ℕ) (d : Design) : Type 0 where
  pub text : List ℕ
  pub file : HasFile files name text
  pub short : length text ≤ longest_design
  pub is_design : IsDesign (parts_of d) text

-- the file of that name has no design, and the line says why: the text's fault and its place
pub record HasNoDesign (files : Files) (name line : List ℕ) : Type 0 where
  pub text : List ℕ
  pub file : HasFile files name text
  pub short : length text ≤ longest_design
  pub none : (parts : Parts) → IsDesign parts text → ⊥
  pub fault : CompileFault
  pub cause : IsDesignFault text fault
  pub says : IsDesignFaultText fault line

-- status and text where the design of that name can't be had
abbrev pub NoDesign : Files → ℕ → ℕ → List ℕ → Status → List ℕ → Type 0
NoDesign files before now name status.DesignRefused text = HasNoDesign files name text
NoDesign files before now name s text = NotLoaded files before now name longest_design s text

-- the file of that name has the record, and it fits the design
pub record HasRecord (files : Files) (name : List ℕ) (d : Design) (r : Record) : Type 0 where
  pub bytes : List ℕ
  pub file : HasFile files name bytes
  pub short : length bytes ≤ longest_record
  pub encodes : Encodes r bytes
  pub fits : Fits d r

-- Why the bytes of the k-th record are none that fits the design, and the line that says so: the first fault at which the
-- bytes are no record, or the first place at which the tables of the record that they are differ from the design's.
abbrev pub IsRefusedText : (k : ℕ) → Design → List ℕ → List ℕ → Type 0
IsRefusedText k d bytes text =
    ((fault : RecordFault) × HasFault bytes fault × IsFaultText k fault text)
    ⊎ ((r : Record) × Encodes r bytes × (at : ℕ) × IsWrongAt d r at × (text ≡ wrong_shape_text k at))

-- the file of that name, that of the k-th record, has none that fits the design, and the line says why
pub record HasNoRecord (files : Files) (name : List ℕ) (d : Design) (k : ℕ) (text : List ℕ) : Type 0 where
  pub bytes : List ℕ
  pub file : HasFile files name bytes
  pub short : length bytes ≤ longest_record
  pub none : (r : Record) → Encodes r bytes → Fits d r → ⊥
  pub line : IsRefusedText k d bytes text
