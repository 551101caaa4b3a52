-- What the bytes of an upload are beside the opening design: a record for a Commit, or a design text for a Revise.
use Rattle.std.specs.Prelude.{◌≡◌, ℕ, ◌+◌, ◌<◌, ◌≤◌, List, [], ◌∷◌, length, Option, Some, None, Ok, Bool, if◌then◌else◌}
use Rattle.cov_ground.specs.Limits.{longest_design}
use Rattle.design_data.specs.declared.design.Design.{Design}
use Rattle.record_codec.specs.declared.record.Record.{Record}
use Rattle.record_codec.specs.declared.fault.RecordFault.{RecordFault}
use Rattle.record_codec.specs.declared.fault.RecordFault.TheVariants as no_record
use Rattle.record_codec.specs.Spelling.{fields_of}
use Rattle.record_codec.specs.Reading.{HasFault, reading}
use Rattle.sampler.specs.Shape.{Fits, IsWrongAt}
use Rattle.cov_compile.specs.declared.fault.CompileFault.{CompileFault}
use Rattle.cov_compile.specs.Compiling.{IsDesignFault}
use Rattle.cov_history.specs.declared.entry.Revision.{Revision}
use Rattle.cov_history.specs.Tables.{same_signal, same_instance}
use Rattle.store_core.specs.Histories.{Declaring}

-- ---- the tables of two designs

-- the first place at which two lists differ, where one of them may have no element; the first elements have this place
abbrev pub apart : {A : Type 0} → (same : A → A → Bool) → (place : ℕ) → List A → List A → Option ℕ
apart same place [] [] = None
apart same place [] (y ∷ ys) = Some place
apart same place (x ∷ xs) [] = Some place
apart same place (x ∷ xs) (y ∷ ys) = if same x y then apart same (place + 1) xs ys else Some place

-- a place among signals, or else one among instances, counted on after so many signals
abbrev pub first_place : (signals : Option ℕ) → (count : ℕ) → (instances : Option ℕ) → Option ℕ
first_place (Some place) count instances = Some place
first_place None count None = None
first_place None count (Some place) = Some (count + place)

-- The first place at which a new design's tables differ from the opening design's: that of a signal; where these agree,
-- that of an instance, counted on after the opening design's signals.
unfoldable pub tables_apart : (opening new : Design) → Option ℕ
tables_apart opening new =
    first_place (apart same_signal 0 new.signals opening.signals) (length opening.signals) (apart (same_instance new.groups opening.groups) 0 new.instances opening.instances)

-- ---- records

-- No record; one whose tables aren't the opening design's, with the first place that differs; or one that fits.
pub data Content : Type 0 where
  NoRecord : RecordFault → Content
  OtherShape : ℕ → Content
  Fitting : Record → Content

-- the bytes encode the record
abbrev pub Holds : List ℕ → Record → Type 0
Holds bytes r = reading bytes ≡ Ok (fields_of r)

abbrev pub IsContent : (opening : Design) → List ℕ → Content → Type 0
IsContent opening bytes (NoRecord fault) = HasFault bytes fault
IsContent opening bytes (OtherShape place) = (r : Record) × Holds bytes r × IsWrongAt opening r place
IsContent opening bytes (Fitting r) = Holds bytes r × Fits opening r

-- ---- texts

-- Too long; no design, with the first fault; a design whose tables aren't the opening design's; or one with these tables.
pub data Text : Type 0 where
  LongText : Text
  NoDesign : CompileFault → Text
  OtherTables : ℕ → Text
  Revising : Revision → Text

abbrev pub IsTextContent : (opening : Design) → List ℕ → Text → Type 0
IsTextContent opening text LongText = longest_design < length text
IsTextContent opening text (NoDesign fault) = (length text ≤ longest_design) × IsDesignFault text fault
IsTextContent opening text (OtherTables place) = (d : Design) × Declaring text d × (tables_apart opening d ≡ Some place)
IsTextContent opening text (Revising revision) = (revision.text ≡ text) × Declaring text revision.design × (tables_apart opening revision.design ≡ None)
