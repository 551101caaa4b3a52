-- A call on the outside that is made again while it is passed over, as one that a signal interrupts. `call` has the state
-- before it, its answer, and the state after it.
use Rattle.std.specs.Prelude.{◌≡◌, ◌⊎◌, ℕ, zero, suc, ◌-◌, ◌^◌, List, Result, Ok, Err, IfErr, IsErr, ⊤}
use Rattle.std.specs.IoError.{error_kind}
use Rattle.std.specs.declared.io.Error.{Error}
use Rattle.std.specs.declared.io.ErrorKind.TheVariants as kind
use Rattle.cov_base.specs.declared.failed.Failed.{Failed}

-- ---- which errors are passed over

abbrev pub IsInterrupted : Error → Type 0
IsInterrupted e = error_kind e ≡ kind.Interrupted

-- the caller gave the connection up before it was taken, or a signal interrupted the call
abbrev pub IsGivenUp : Error → Type 0
IsGivenUp e = IsInterrupted e ⊎ (error_kind e ≡ kind.ConnectionAborted)

-- ---- calls in a row

-- so many steps, one after the other
abbrev pub Repeats : {S : Type 0} → (S → S → Type 0) → ℕ → S → S → Type 0
Repeats step zero before after = before ≡ after
Repeats {S} step (suc n) before after = (s : S) × Repeats step n before s × step s after

-- a call that is passed over
abbrev pub Passes : {S T : Type 0} → (Error → Type 0) → (S → Result T Error → S → Type 0) → S → S → Type 0
Passes passed call before after = (e : Error) × passed e × call before (Err e) after

-- after so many calls none is made any more
abbrev pub most_calls : ℕ
most_calls = 2 ^ 64 - 1

-- the answer of the first call that isn't passed over
pub record First {S T : Type 0} (passed : Error → Type 0) (call : S → Result T Error → S → Type 0) (before : S) (answer : Result T Error) (after : S) : Type 0 where
  pub calls : ℕ
  pub last : S
  pub passes : Repeats (Passes {T = T} passed call) calls before last
  pub answered : call last answer after
  pub kept : IfErr answer (λ e. passed e → ⊥)

-- That answer; or an error, where the most calls are all passed over.
abbrev pub Answers : {S T : Type 0} → (Error → Type 0) → (S → Result T Error → S → Type 0) → S → Result T Error → S → Type 0
Answers {S} {T} passed call before answer after =
    First passed call before answer after
    ⊎ (Repeats (Passes {T = T} passed call) most_calls before after × IsErr answer)

-- the same of a call that leaves no state: only what it `gave` is told
abbrev pub Gives : {T : Type 0} → (Error → Type 0) → (Result T Error → Type 0) → Result T Error → Type 0
Gives {T} passed gave answer = Answers {S = ⊤} passed (λ _ a _. gave a) tt answer tt

-- ---- what streams and doors tell of it

-- a source answers as its reader did, and tells of an error only that there was one
abbrev pub IsReadAs : Result ℕ Error → Result ℕ Failed → Type 0
IsReadAs (Ok n) result = result ≡ Ok n
IsReadAs (Err e) result = IsErr result

-- a sink in the same way, but that a write of no byte is a failure
abbrev pub IsWrittenAs : Result ℕ Error → Result ℕ Failed → Type 0
IsWrittenAs (Ok zero) result = IsErr result
IsWrittenAs (Ok (suc n)) result = result ≡ Ok (suc n)
IsWrittenAs (Err e) result = IsErr result

-- a source's read is its reader's
pub record ReadsBy {R : Type 0} (reads : R × List ℕ → Result ℕ Error → R × List ℕ → Type 0) (before : R × List ℕ) (result : Result ℕ Failed) (after : R × List ℕ) : Type 0 where
  pub answer : Result ℕ Error
  pub given : Answers IsInterrupted reads before answer after
  pub same : IsReadAs answer result

-- a sink's write is its writer's
pub record WritesBy {W : Type 0} (writes : W → Result ℕ Error → W → Type 0) (before : W) (result : Result ℕ Failed) (after : W) : Type 0 where
  pub answer : Result ℕ Error
  pub given : Answers IsInterrupted writes before answer after
  pub same : IsWrittenAs answer result

-- A door's accept is its listener's: what it hands out is what was accepted, and it fails only as the listener did.
abbrev pub AcceptsBy : {S L : Type 0} → (Result S Error → Type 0) → (L → S) → Result L Failed → Type 0
AcceptsBy accepts inner (Ok link) = Gives IsGivenUp accepts (Ok (inner link))
AcceptsBy {S} accepts inner (Err cause) = (error : Error) × Gives {T = S} IsGivenUp accepts (Err error)
