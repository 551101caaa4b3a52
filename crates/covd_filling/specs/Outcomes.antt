-- A store that is filled with records, one after the other: what becomes of each, and what is left at the end.
use Rattle.std.specs.Prelude.{◌≡◌, ◌⊎◌, ℕ, ◌+◌, List, [], ◌∷◌, ◌++◌, ◌==◌, ◌||◌, not, Bool, true, false, Option, Some, None, Result, Ok, Err, if◌then◌else◌}
use Rattle.record_codec.specs.declared.record.Record.{Record}
use Rattle.design_data.specs.declared.design.Design.{Design}
use Rattle.cov_history.specs.declared.entry.Entry.{Entry}
use Rattle.covd_commands.specs.declared.status.Status.{Status}
use Rattle.covd_commands.specs.declared.status.Status.TheVariants as status
use Rattle.covd_commands.specs.Options.{Options}
use Rattle.covd_commands.specs.Unadmitted.{refusal_line}
use Rattle.covd_commands.specs.FromFiles.{Files}
use Rattle.covd_commands.specs.Finding.{Origin, Finds, FindsNone}
use Rattle.covd_filling.specs.Admission.{admission, behind}
use Rattle.covd_filling.specs.Left.{left_line, name_of, ended_cause, refusal_cause}

-- ---- one record

pub data Outcome : Type 0 where
  -- it is taken in
  Taken : Record → Outcome
  -- its test ended so, and tests that ended OK alone are asked for
  Unpassed : (status : ℕ) → Outcome
  -- it isn't found or isn't admitted, as this status and this line say
  Refused : Status → List ℕ → Outcome

-- where passed tests alone are asked for, whether the record's test ended OK
abbrev pub may_pass : (passed : Bool) → Record → Bool
may_pass passed r = not passed || r.status == 0

-- what becomes of the k-th record, which comes from there, where the store has the history `h` so far
abbrev pub Becomes : (passed : Bool) → Files → ℕ → ℕ → Design → (k : ℕ) → (h : List Entry) → Origin → Outcome → Type 0
Becomes passed files before now d k h origin (Taken r) =
    Finds files d k origin r × (may_pass passed r ≡ true) × (refusal_line k (admission d h r) ≡ None)
Becomes passed files before now d k h origin (Unpassed status) =
    (r : Record) × Finds files d k origin r × (may_pass passed r ≡ false) × (status ≡ r.status)
Becomes passed files before now d k h origin (Refused s line) =
    FindsNone files before now d k origin s line
    ⊎ ((r : Record) × Finds files d k origin r × (may_pass passed r ≡ true) × (s ≡ status.AdmitRefused)
    × (refusal_line k (admission d h r) ≡ Some line))

-- ---- all of them

-- what has come of the records so far
pub record Filled : Type 0 where
  pub history : List Entry
  -- the lines of those that were left out
  pub left : List ℕ
  -- one of them could not be taken in
  pub partly : Bool

abbrev pub nothing_yet : Filled
nothing_yet = record { history = []; left = []; partly = false }

-- the record has been taken in
abbrev pub with_taken : Design → Filled → Record → Filled
with_taken d f r = record { history = behind d f.history r; left = f.left; partly = f.partly }

-- a record has been left out with this line
abbrev pub with_left : Filled → (line : List ℕ) → (refused : Bool) → Filled
with_left f line refused = record { history = f.history; left = f.left ++ line; partly = f.partly || refused }

-- what has come behind the k-th record; or the status and the line with which the command ends
abbrev pub passes_on : Options → Design → (k : ℕ) → Origin → Filled → Outcome → Result Filled (Status × List ℕ)
passes_on options d k origin f (Taken r) = Ok (with_taken d f r)
passes_on options d k origin f (Unpassed status) = Ok (with_left f (left_line k (ended_cause status) (name_of origin k)) false)
passes_on options d k origin f (Refused s line) =
    if options.keep_going
    then Ok (with_left f (left_line k (refusal_cause s k (name_of origin k) line) (name_of origin k)) true)
    else Err (s, line)

-- the command ends with this status and text: as it goes on, or at once
abbrev pub EndsBy : (Filled → Type 0) → Status → List ℕ → Result Filled (Status × List ℕ) → Type 0
EndsBy GoesOn s text (Ok f) = GoesOn f
EndsBy GoesOn s text (Err end) = (s ≡ end.0) × (text ≡ end.1)

-- a status and a text for what has come of all records over a design
abbrev pub Shown : Type 0
Shown = Design → Filled → Status × List ℕ

-- what is shown of what has come of all records
abbrev pub Prints : Shown → Design → Filled → Status → List ℕ → Type 0
Prints shown d f s text = (s ≡ (shown d f).0) × (text ≡ (shown d f).1)

-- Status and text of a command over this design that takes in the records that come from there, one after the other, the
-- first of them being the k-th, and shows what has come of all.
abbrev pub Fills : Shown → Options → Files → ℕ → ℕ → Design → (k : ℕ) → Filled → List Origin → Status → List ℕ → Type 0
Fills shown options files before now d k f [] s text = Prints shown d f s text
Fills shown options files before now d k f (origin ∷ later) s text =
    (outcome : Outcome) × Becomes options.passed files before now d k f.history origin outcome
    × EndsBy (λ g. Fills shown options files before now d (k + 1) g later s text) s text (passes_on options d k origin f outcome)
