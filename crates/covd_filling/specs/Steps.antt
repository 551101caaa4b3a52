-- What the steps of filling a store answer.
use Rattle.std.specs.Prelude.{◌≡◌, ℕ, ◌≤◌, List, [], ◌++◌, ◌||◌, Bool, true, false, Some, None, Result, Ok, Err}
use Rattle.design_data.specs.declared.design.Design.{Design}
use Rattle.record_codec.specs.declared.record.Record.{Record}
use Rattle.cov_history.specs.declared.entry.Entry.{Entry}
use Rattle.cov_history.specs.History.{design_of}
use Rattle.merge_store.specs.declared.store.Store.{Store}
use Rattle.merge_store.specs.AdmitFault.{AdmitFault}
use Rattle.merge_store.specs.Stores.{opening_of, entries_of}
use Rattle.merge_store.specs.Told.{refused}
use Rattle.covd_commands.specs.declared.stop.Stop.{Stop}
use Rattle.covd_commands.specs.declared.stop.Stop.TheVariants.{Memory, Refused}
use Rattle.covd_commands.specs.declared.status.Status.{Status}
use Rattle.covd_commands.specs.declared.status.Status.TheVariants as status
use Rattle.covd_commands.specs.Options.{Options}
use Rattle.covd_commands.specs.Unadmitted.{refusal_line}
use Rattle.covd_commands.specs.FromFiles.{Files}
use Rattle.covd_commands.specs.Finding.{Origin}
use Rattle.covd_filling.specs.declared.admitting.Taking.{Taking}
use Rattle.covd_filling.specs.declared.admitting.Taking.TheVariants as taking
use Rattle.covd_filling.specs.declared.leaving.Left.{Left}
use Rattle.covd_filling.specs.Admission.{admission, behind}
use Rattle.covd_filling.specs.Left.{left_line, name_of, ended_cause, refusal_cause}
use Rattle.covd_filling.specs.Outcomes.{Outcome, Becomes, Filled, nothing_yet, Shown, Prints, Fills}
use Rattle.covd_filling.specs.Outcomes.{Taken, Unpassed, Refused as NotTaken}

-- a store over this design, which no entry has changed
pub record IsPlain (d : Design) (s : Store) : Type 0 where
  pub opening : opening_of s ≡ d
  pub same : design_of d (entries_of s) ≡ d

-- ---- one record

-- why a store doesn't admit the k-th record
abbrev pub IsRefusal : (k : ℕ) → AdmitFault → Stop → Type 0
IsRefusal k fault (Refused a) = (refusal_line k (refused fault) ≡ Some a.text.items) × (a.status ≡ status.AdmitRefused)
IsRefusal k fault Memory = Unit {0}

-- The k-th record is admitted; or it is refused, and nothing is changed.
abbrev pub Admits : Design → (k : ℕ) → List Entry → Record → (after : List Entry) → Result (Unit {0}) Stop → Type 0
Admits d k h r after (Ok done) = (refusal_line k (admission d h r) ≡ None) × (after ≡ behind d h r)
Admits d k h r after (Err (Refused a)) =
    (refusal_line k (admission d h r) ≡ Some a.text.items) × (a.status ≡ status.AdmitRefused) × (after ≡ h)
Admits d k h r after (Err Memory) = Unit {0}

-- What becomes of the k-th record, and of the history.
abbrev pub Takes : (passed : Bool) → Files → ℕ → ℕ → Design → (k : ℕ) → List Entry → Origin → (after : List Entry)
    → Result Taking Stop → Type 0
Takes passed files before now d k h origin after (Ok taking.Taken) =
    (r : Record) × Becomes passed files before now d k h origin (Taken r) × (after ≡ behind d h r)
Takes passed files before now d k h origin after (Ok (taking.Unpassed status)) =
    Becomes passed files before now d k h origin (Unpassed status) × (after ≡ h)
Takes passed files before now d k h origin after (Err (Refused a)) =
    Becomes passed files before now d k h origin (NotTaken a.status a.text.items) × (after ≡ h)
Takes passed files before now d k h origin after (Err Memory) = Unit {0}

-- ---- those that are left out

-- a line more, of a record that couldn't be taken in or didn't pass
pub record IsLeft (line : List ℕ) (refused : Bool) (old new : Left) : Type 0 where
  pub text : new.text.items ≡ old.text.items ++ line
  pub partly : new.partly ≡ (old.partly || refused)

-- what becomes of the lines behind the k-th record, or why the command ends
abbrev pub Notes : (keep_going : Bool) → (k : ℕ) → Origin → (old new : Left) → Result Taking Stop → Result (Unit {0}) Stop → Type 0
Notes keep_going k origin old new (Ok taking.Taken) (Ok done) = new ≡ old
Notes keep_going k origin old new (Ok (taking.Unpassed status)) (Ok done) =
    IsLeft (left_line k (ended_cause status) (name_of origin k)) false old new
Notes keep_going k origin old new (Err (Refused a)) (Ok done) =
    (keep_going ≡ true) × IsLeft (left_line k (refusal_cause a.status k (name_of origin k) a.text.items) (name_of origin k)) true old new
Notes keep_going k origin old new (Err (Refused a)) (Err (Refused b)) = (keep_going ≡ false) × (b ≡ a)
Notes keep_going k origin old new given (Err Memory) = Unit {0}
Notes keep_going k origin old new given other = ⊥

-- ---- all of them

-- what has come of a store and of the lines of those that were left out
abbrev pub filled_of : Store → Left → Filled
filled_of store left = record { history = entries_of store; left = left.text.items; partly = left.partly }

-- whatever is shown of what has come of these records is the answer, at any later count of faults
pub record Leads (options : Options) (files : Files) (before now : ℕ) (d : Design) (origins : List Origin) (f : Filled) : Type 0 where
  pub ends : (shown : Shown) (last : ℕ) → now ≤ last → (s : Status) (text : List ℕ) → Prints shown d f s text
      → Fills shown options files before last d 1 nothing_yet origins s text

-- whatever is shown at the end, the command has ended with this status and line
abbrev pub Stops : Options → Files → ℕ → ℕ → Design → List Origin → Stop → Type 0
Stops options files before now d origins (Refused a) = (shown : Shown) → Fills shown options files before now d 1 nothing_yet origins a.status a.text.items
Stops options files before now d origins Memory = Unit {0}

abbrev pub IsFilled : Options → Files → ℕ → ℕ → Design → List Origin → (after : Store) → Result Left Stop → Type 0
IsFilled options files before now d origins after (Ok left) = Leads options files before now d origins (filled_of after left)
IsFilled options files before now d origins after (Err stop) = Stops options files before now d origins stop

-- a store over the design that took the records that come from there in, with the lines of those that were left out; or
-- why the command ends
abbrev pub IsStored : Options → Files → ℕ → ℕ → Design → List Origin → Result (Store × Left) Stop → Type 0
IsStored options files before now d origins (Ok p) = IsPlain d p.0 × Leads options files before now d origins (filled_of p.0 p.1)
IsStored options files before now d origins (Err stop) = Stops options files before now d origins stop
