-- From the answer to a dump's bytes to that of the command.
use Rattle.std.proofs.Common.{◌≡◌, ℕ, ◌≤◌, List, length, sym, ap, subst}
use Rattle.std.specs.Prelude.{Result, Ok, Err}
use Rattle.cov_tree.specs.declared.declarations.DesignText.{DesignText}
use Rattle.cov_base.specs.Loads.{HasFile}
use Rattle.design_data.specs.declared.design.Design.{Design}
use Rattle.record_codec.specs.declared.record.Fields.{Fields}
use Rattle.record_codec.specs.declared.record.Record.{Record}
use Rattle.record_codec.specs.Spelling.{fields_of, spelling}
use Rattle.vcd_reader.specs.Dump.{Dump}
use Rattle.vcd_reader.specs.DumpFault.{DumpFault}
use Rattle.vcd_reader.specs.DumpFault.TheVariants.{Syntax, TimeBack, UnknownCode, BadEvent, NoSignal, WidthDiffers, TooManyEvents, TooLong, Memory}
use Rattle.vcd_reader.specs.Reading.{HasRead, longest_dump}
use Rattle.vcd_reader.specs.Refusals.{◌>>=◌, Fails, Gives}
use Rattle.covd_commands.specs.declared.status.Status.{Status}
use Rattle.covd_commands.specs.declared.status.Status.TheVariants as status
use Rattle.covd_commands.specs.FromFiles.{Files, HasDesign}
use Rattle.covd_commands.specs.Commands.{Records}
use Rattle.covd_commands.specs.Dumps.{HasText, made_of}
use Rattle.covd_commands.specs.Lines.{IsDumpFaultText}
use Rattle.covd_commands.specs.Steps.{RecordsDump}

-- ---- a dump, then its record

module _ (f : Dump → Result Fields DumpFault) where
  -- where the dump isn't read, that is the refusal
  pub unread : (given : Result Dump DumpFault) (fault : DumpFault) → HasRead (Err fault) given → Fails fault (given >>= f)
  unread given (Syntax at) h = ap (λ (x : Result Dump DumpFault). x >>= f) h
  unread given (TimeBack at) h = ap (λ (x : Result Dump DumpFault). x >>= f) h
  unread given (UnknownCode at) h = ap (λ (x : Result Dump DumpFault). x >>= f) h
  unread given (BadEvent at) h = absurd h
  unread given (NoSignal n) h = absurd h
  unread given (WidthDiffers n) h = absurd h
  unread given (TooManyEvents n) h = absurd h
  unread given (TooLong n) h = absurd h
  unread given Memory h = tt

  -- where it is read, what follows decides
  pub read : (given : Result Dump DumpFault) (dump : Dump) (made : Result Record DumpFault) → given ≡ Ok dump → Gives fields_of made (f dump) → Gives fields_of made (given >>= f)
  read given dump made h g = subst (λ (x : Result Dump DumpFault). Gives fields_of made (x >>= f)) (sym h) g

-- ---- the answer to a dump's bytes

module _ (tree : DesignText) (d : Design) (bytes scope id : List ℕ) where
  with_status : (is s : Status) (text : List ℕ) → s ≡ is → RecordsDump tree d bytes scope id is text → RecordsDump tree d bytes scope id s text
  with_status is s text e h = subst (λ (x : Status). RecordsDump tree d bytes scope id x text) (sym e) h

  pub done : (r : Record) (s : Status) (text : List ℕ) → Gives fields_of (Ok r) (made_of tree d bytes scope id) → (s ≡ status.Done) × (text ≡ spelling r) → RecordsDump tree d bytes scope id s text
  done r s text made a = with_status status.Done s text a.0 (r, made, record { spelled = a.1 })

  -- a refusal that has a line is that of the definition
  fault_of : (fault : DumpFault) (text : List ℕ) → Fails fault (made_of tree d bytes scope id) → IsDumpFaultText fault text → made_of tree d bytes scope id ≡ Err fault
  fault_of (Syntax at) text h t = h
  fault_of (TimeBack at) text h t = h
  fault_of (UnknownCode at) text h t = h
  fault_of (BadEvent at) text h t = h
  fault_of (NoSignal n) text h t = h
  fault_of (WidthDiffers n) text h t = h
  fault_of (TooManyEvents n) text h t = h
  fault_of (TooLong n) text h t = h
  fault_of Memory text h t = absurd t

  pub refused : (fault : DumpFault) (s : Status) (text : List ℕ) → Gives fields_of (Err fault) (made_of tree d bytes scope id) → (s ≡ status.DumpRefused) × IsDumpFaultText fault text → RecordsDump tree d bytes scope id s text
  refused fault s text made a = with_status status.DumpRefused s text a.0 (fault, fault_of fault text made a.1, a.1)

-- ---- the answer of the command

-- a design text has its design
pub has_design : (files : Files) (name : List ℕ) (tree : DesignText) (d : Design) → HasText files name tree d → HasDesign files name d
has_design files name tree d h =
    record { text = h.text; file = h.file; short = h.short; is_design = record { decls = tree.decls; declares = h.is_text.declares; elaborates = h.is_text.elaborates } }

-- where both files are had
pub records : (files : Files) (before now : ℕ) (design dump scope id : List ℕ) (tree : DesignText) (d : Design) (bytes : List ℕ) → HasText files design tree d → HasFile files dump bytes → length bytes ≤ longest_dump
    → (s : Status) (text : List ℕ) → RecordsDump tree d bytes scope id s text → Records files before now design dump scope id s text
records files before now design dump scope id tree d bytes has file short status.Done text h = (tree, d, has, h.0, record { bytes = bytes; file = file; short = short; is_made = h.1 }, h.2)
records files before now design dump scope id tree d bytes has file short status.DumpRefused text h = (tree, d, has, h.0, record { bytes = bytes; file = file; short = short; is_made = h.1 }, h.2)
records files before now design dump scope id tree d bytes has file short other text h = absurd h
