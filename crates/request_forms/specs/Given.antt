-- What a function of the readers returned, seen by view, is what reading gives.
use Rattle.std.specs.Prelude.{◌≡◌, ℕ, Result, Ok, Err}
use Rattle.request_forms.specs.declared.fault.BadAt.{BadAt}
use Rattle.request_forms.specs.declared.fault.Fault.{Fault}
use Rattle.request_forms.specs.declared.fault.Fault.TheVariants.{At, Memory}
use Rattle.request_forms.specs.declared.requests.Request.{Request}
use Rattle.request_forms.specs.Requests.{WantsMemory}

abbrev pub Gives : {X Y : Type 0} → (X → Y) → Result X BadAt → Result Y ℕ → Type 0
Gives view (Ok x) read = read ≡ Ok (view x)
Gives view (Err e) read = read ≡ Err e.left

-- the same, where memory may run out
abbrev pub GivesOrLacks : {X Y : Type 0} → (X → Y) → Result X Fault → Result Y ℕ → Type 0
GivesOrLacks view (Ok x) read = read ≡ Ok (view x)
GivesOrLacks view (Err (At left)) read = read ≡ Err left
GivesOrLacks view (Err Memory) read = Unit {0}

-- a request, where memory may run out for its text alone
abbrev pub Asks : Result Request Fault → Result Request ℕ → Type 0
Asks (Ok r) read = read ≡ Ok r
Asks (Err (At left)) read = read ≡ Err left
Asks (Err Memory) read = WantsMemory read
