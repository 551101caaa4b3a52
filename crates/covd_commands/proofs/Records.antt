-- From the answer to a record's bytes to the command's.
use Rattle.std.proofs.Common.{◌≡◌, ℕ, ◌≤◌, List, length, Err, inl, inr, sym, subst}
use Rattle.cov_base.specs.Loads.{HasFile}
use Rattle.record_codec.specs.declared.fault.RecordFault.{RecordFault}
use Rattle.record_codec.specs.declared.fault.RecordFault.TheVariants.{Short, BadMagic, BadVersion, BadField, TooManyEvents, Trailing, Memory}
use Rattle.record_codec.specs.declared.record.Record.{Record}
use Rattle.record_codec.specs.Spelling.{Encodes}
use Rattle.record_codec.specs.Reading.{reading, HasFault, HasRead}
use Rattle.design_data.specs.declared.design.Design.{Design}
use Rattle.covd_commands.specs.declared.status.Status.{Status}
use Rattle.covd_commands.specs.declared.status.Status.TheVariants as status
use Rattle.sampler.specs.Shape.{Fits, IsWrongAt}
use Rattle.cov_ground.specs.Limits.{longest_record}
use Rattle.covd_commands.specs.Lines.{IsFaultText, wrong_shape_text}
use Rattle.covd_commands.specs.FromFiles.{Files, HasDesign}
use Rattle.covd_commands.specs.Commands.{IsCountText, Counts}
use Rattle.covd_commands.specs.Steps.{CountsRecord}
use Rattle.sampler.proofs.Tables.{does_not_fit}

with_status : (d : Design) (bytes : List ℕ) (is s : Status) (text : List ℕ) → s ≡ is → CountsRecord d bytes is text → CountsRecord d bytes s text
with_status d bytes is s text e h = subst (λ (x : Status). CountsRecord d bytes x text) (sym e) h

-- a record that fits is counted
pub done : (d : Design) (bytes : List ℕ) (r : Record) (s : Status) (text : List ℕ) → Encodes r bytes → Fits d r → (s ≡ status.Done) × IsCountText d r text → CountsRecord d bytes s text
done d bytes r s text h fits a = with_status d bytes status.Done s text a.0 (r, h, fits, a.1)

-- one that doesn't fit is refused
pub unfit : (d : Design) (bytes : List ℕ) (r : Record) (at : ℕ) (s : Status) (text : List ℕ) → Encodes r bytes → ((other : Record) → Encodes other bytes → other ≡ r) → IsWrongAt d r at
    → (s ≡ status.RecordRefused) × (text ≡ wrong_shape_text 1 at) → CountsRecord d bytes s text
unfit d bytes r at s text h only wrong a =
    with_status d bytes status.RecordRefused s text a.0
    (λ q k fits. does_not_fit d r at wrong (subst (λ (x : Record). Fits d x) (only q k) fits), inr (r, h, at, wrong, a.1))

-- a fault that has a line is that of the bytes
pub fault_of : (k : ℕ) (bytes : List ℕ) (fault : RecordFault) (text : List ℕ) → HasRead (Err fault) (reading bytes) → IsFaultText k fault text → HasFault bytes fault
fault_of k bytes (Short at) text h t = h
fault_of k bytes BadMagic text h t = h
fault_of k bytes (BadVersion version) text h t = h
fault_of k bytes (BadField at) text h t = h
fault_of k bytes (TooManyEvents count) text h t = h
fault_of k bytes (Trailing at) text h t = h
fault_of k bytes Memory text h t = absurd t

-- bytes that are no record are refused
pub undecoded : (d : Design) (bytes : List ℕ) (fault : RecordFault) (s : Status) (text : List ℕ) → ((r : Record) (f : RecordFault) → Encodes r bytes → HasFault bytes f → ⊥) → HasRead (Err fault) (reading bytes)
    → (s ≡ status.RecordRefused) × IsFaultText 1 fault text → CountsRecord d bytes s text
undecoded d bytes fault s text no_fault h a =
    let is = fault_of 1 bytes fault text h a.1 in
    with_status d bytes status.RecordRefused s text a.0 (λ r k fits. no_fault r fault k is, inl (fault, is, a.1))

-- the command's answer, where both files are had
pub counts : (files : Files) (before now : ℕ) (design rec : List ℕ) (d : Design) (bytes : List ℕ) → HasDesign files design d → HasFile files rec bytes → length bytes ≤ longest_record
    → (s : Status) (text : List ℕ) → CountsRecord d bytes s text → Counts files before now design rec s text
counts files before now design rec d bytes has file short status.Done text h = (d, has, h.0, record { bytes = bytes; file = file; short = short; encodes = h.1; fits = h.2 }, h.3)
counts files before now design rec d bytes has file short status.RecordRefused text h = (d, has, record { bytes = bytes; file = file; short = short; none = h.0; line = h.1 })
counts files before now design rec d bytes has file short other text h = absurd h
