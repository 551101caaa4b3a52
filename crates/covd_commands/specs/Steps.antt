-- The parts of an answer.
use Rattle.std.specs.Prelude.{◌≡◌, ℕ, ◌≤◌, List, length, Ok, Err}
use Rattle.cov_base.specs.Loads.{HasFile}
use Rattle.record_codec.specs.declared.record.Record.{Record}
use Rattle.record_codec.specs.Spelling.{Encodes, fields_of}
use Rattle.covd_commands.specs.declared.loading.Loaded.{Loaded}
use Rattle.covd_commands.specs.declared.loading.Loaded.TheVariants.{Bytes, Refused}
use Rattle.covd_commands.specs.declared.loading.HadDesign.{HadDesign}
use Rattle.covd_commands.specs.declared.loading.HadDesign.TheVariants as had
use Rattle.covd_commands.specs.declared.record.HadText.{HadText}
use Rattle.covd_commands.specs.declared.record.HadText.TheVariants as texts
use Rattle.cov_tree.specs.declared.declarations.DesignText.{DesignText}
use Rattle.design_data.specs.declared.design.Design.{Design}
use Rattle.vcd_reader.specs.DumpFault.{DumpFault}
use Rattle.covd_commands.specs.declared.status.Status.{Status}
use Rattle.covd_commands.specs.declared.status.Status.TheVariants as status
use Rattle.sampler.specs.Shape.{Fits}
use Rattle.covd_commands.specs.Lines.{IsDumpFaultText}
use Rattle.covd_commands.specs.Dumps.{HasText, made_of}
use Rattle.covd_commands.specs.FromFiles.{Files, NotLoaded, NoDesign, HasDesign, IsRefusedText}
use Rattle.covd_commands.specs.Commands.{IsCountText}

-- a file's bytes, or the answer that it can't be had
abbrev pub IsLoaded : Files → ℕ → ℕ → List ℕ → ℕ → Loaded → Type 0
IsLoaded files before now name most (Bytes bytes) = HasFile files name bytes.items × (length bytes.items ≤ most)
IsLoaded files before now name most (Refused a) = NotLoaded files before now name most a.status a.text.items

-- a design from its file, or the answer that it can't be had
abbrev pub IsHad : Files → ℕ → ℕ → List ℕ → HadDesign → Type 0
IsHad files before now name (had.Compiled d) = HasDesign files name d
IsHad files before now name (had.Refused a) = NoDesign files before now name a.status a.text.items

-- the answer to a record's bytes
abbrev pub CountsRecord : Design → List ℕ → Status → List ℕ → Type 0
CountsRecord d bytes status.Done text = (r : Record) × Encodes r bytes × Fits d r × IsCountText d r text
CountsRecord d bytes status.RecordRefused text = ((r : Record) → Encodes r bytes → Fits d r → ⊥) × IsRefusedText 1 d bytes text
CountsRecord d bytes other text = ⊥

-- a design with its text's declarations from its file, or the answer that it can't be had
abbrev pub IsHadText : Files → ℕ → ℕ → List ℕ → HadText → Type 0
IsHadText files before now name (texts.Declared text) = HasText files name text.tree text.design
IsHadText files before now name (texts.Refused a) = NoDesign files before now name a.status a.text.items

-- the answer to a dump's bytes
abbrev pub RecordsDump : DesignText → Design → (bytes scope id : List ℕ) → Status → List ℕ → Type 0
RecordsDump tree d bytes scope id status.Done text = (r : Record) × (made_of tree d bytes scope id ≡ Ok (fields_of r)) × Encodes r text
RecordsDump tree d bytes scope id status.DumpRefused text = (fault : DumpFault) × (made_of tree d bytes scope id ≡ Err fault) × IsDumpFaultText fault text
RecordsDump tree d bytes scope id other text = ⊥
