-- What the commands over one design and one record answer: a status and a text, from names and the files of a shelf. The
-- steps are: load of the design, compiling; for `count` load of the record, decoding and shape; for `record` load of the
-- dump, reading it and making its record; then printing. The first step that refuses decides.
use Rattle.std.specs.Prelude.{◌≡◌, ◌⊎◌, ℕ, List, [], ◌∷◌, Ok, Err, codes}
use Rattle.record_codec.specs.declared.record.Record.{Record}
use Rattle.record_codec.specs.Spelling.{Encodes, fields_of}
use Rattle.cov_counting.specs.Tallies.{IsTally}
use Rattle.cov_ground.specs.Limits.{longest_design, longest_record}
use Rattle.cov_tree.specs.declared.declarations.DesignText.{DesignText}
use Rattle.design_data.specs.declared.design.Design.{Design}
use Rattle.covd_commands.specs.declared.status.Status.{Status}
use Rattle.covd_commands.specs.declared.status.Status.TheVariants as status
use Rattle.vcd_reader.specs.DumpFault.{DumpFault}
use Rattle.vcd_reader.specs.Reading.{longest_dump}
use Rattle.covd_commands.specs.Lines.{count_text, IsDumpFaultText}
use Rattle.covd_commands.specs.Dumps.{IsTestId, HasText, HasMade}
use Rattle.covd_commands.specs.FromFiles.{Files, NotLoaded, HasDesign, HasNoDesign, HasRecord, HasNoRecord}

-- ---- words

-- the words are `count`, the design's name and the record's
abbrev pub IsCountCommand : List (List ℕ) → List ℕ → List ℕ → Type 0
IsCountCommand words design rec = words ≡ codes "count" ∷ design ∷ rec ∷ []

-- the words are `record`, the names of the design, the dump and the scope, and the id of the test
abbrev pub IsRecordCommand : List (List ℕ) → (design dump scope id : List ℕ) → Type 0
IsRecordCommand words design dump scope id = (words ≡ codes "record" ∷ design ∷ dump ∷ scope ∷ id ∷ []) × IsTestId id

abbrev pub IsNoCount : List (List ℕ) → Type 0
IsNoCount words = (design rec : List ℕ) → IsCountCommand words design rec → ⊥

abbrev pub IsNoRecord : List (List ℕ) → Type 0
IsNoRecord words = (design dump scope id : List ℕ) → IsRecordCommand words design dump scope id → ⊥

-- ---- answers

-- the text of the counts of the record
abbrev pub IsCountText : Design → Record → List ℕ → Type 0
IsCountText d r text = (counts : List ℕ) × IsTally d r counts × (text ≡ count_text d r.id counts)

-- Status and text of `count DESIGN RECORD`: the cause of each status.
abbrev pub Counts : Files → ℕ → ℕ → List ℕ → List ℕ → Status → List ℕ → Type 0
Counts files before now design rec status.Done text = (d : Design) × HasDesign files design d × (r : Record) × HasRecord files rec d r × IsCountText d r text
Counts files before now design rec status.DesignRefused text = HasNoDesign files design text
Counts files before now design rec status.RecordRefused text = (d : Design) × HasDesign files design d × HasNoRecord files rec d 1 text
Counts files before now design rec status.ShelfFault text = NotLoaded files before now design longest_design status.ShelfFault text ⊎ ((d : Design) × HasDesign files design d × NotLoaded files before now rec longest_record status.ShelfFault text)
Counts files before now design rec status.FileTooLong text = NotLoaded files before now design longest_design status.FileTooLong text ⊎ ((d : Design) × HasDesign files design d × NotLoaded files before now rec longest_record status.FileTooLong text)
Counts files before now design rec other text = ⊥

-- Status and text of `record DESIGN DUMP SCOPE ID`: the cause of each status.
abbrev pub Records : Files → ℕ → ℕ → (design dump scope id : List ℕ) → Status → List ℕ → Type 0
Records files before now design dump scope id status.Done text =
    (tree : DesignText) × (d : Design) × HasText files design tree d
    × (r : Record) × HasMade files dump tree d scope id (Ok (fields_of r)) × Encodes r text
Records files before now design dump scope id status.DesignRefused text = HasNoDesign files design text
Records files before now design dump scope id status.DumpRefused text =
    (tree : DesignText) × (d : Design) × HasText files design tree d
    × (fault : DumpFault) × HasMade files dump tree d scope id (Err fault) × IsDumpFaultText fault text
Records files before now design dump scope id status.ShelfFault text = NotLoaded files before now design longest_design status.ShelfFault text ⊎ ((d : Design) × HasDesign files design d × NotLoaded files before now dump longest_dump status.ShelfFault text)
Records files before now design dump scope id status.FileTooLong text = NotLoaded files before now design longest_design status.FileTooLong text ⊎ ((d : Design) × HasDesign files design d × NotLoaded files before now dump longest_dump status.FileTooLong text)
Records files before now design dump scope id other text = ⊥
