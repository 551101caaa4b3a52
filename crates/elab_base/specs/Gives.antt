-- Steps that may fail, with the first fault that is met; and what a function owes to the definition of its step.
use Rattle.std.specs.Prelude.{◌≡◌, ℕ, ◌+◌, List, [], ◌∷◌, Result, Ok, Err, Bool, if◌then◌else◌}
use Rattle.const_eval.specs.declared.fault.BindFault.{BindFault}
use Rattle.const_eval.specs.declared.fault.BindFault.TheVariants as bind_fault
use Rattle.elab_base.specs.declared.fault.ElabKind.{ElabKind}
use Rattle.elab_base.specs.declared.fault.ElabKind.TheVariants as kind
use Rattle.elab_base.specs.declared.fault.ElabFault.{ElabFault}
use Rattle.elab_base.specs.declared.fault.ElabFault.TheVariants as errors

-- a kind and a place
abbrev pub Refusal : Type 0
Refusal = ElabKind × ℕ

infixl 10 ◌>>=◌
abbrev pub ◌>>=◌ : {A B : Type 0} → Result A Refusal → (A → Result B Refusal) → Result B Refusal
(Ok x) >>= f = f x
(Err e) >>= f = Err e

-- what has to hold, or else this fault
unfoldable pub needs : Bool → ElabKind → ℕ → Result (Unit {0}) Refusal
needs holds kind at = if holds then Ok tt else Err (kind, at)

-- a list walked from the left with its places, until the first fault
unfoldable pub each_at : {A S : Type 0} → (ℕ → A → S → Result S Refusal) → ℕ → List A → S → Result S Refusal
each_at step k [] s = Ok s
each_at step k (x ∷ xs) s = do
  t ← step k x s
  each_at step (k + 1) xs t

-- the same where the places don't matter
abbrev pub each : {A S : Type 0} → (A → S → Result S Refusal) → List A → S → Result S Refusal
each step xs s = each_at (λ k. step) 0 xs s

-- ---- what a function owes

-- a function's fault is that of its definition, unless memory ran out
abbrev pub Fails : {Y : Type 0} → ElabFault → Result Y Refusal → Type 0
Fails errors.Memory given = Unit {0}
Fails (errors.Fault kind at) given = given ≡ Err (kind, at)

-- what a function returned is what a definition gives, unless memory ran out
abbrev pub Gives : {X : Type 0} → Result X ElabFault → Result X Refusal → Type 0
Gives (Ok x) given = given ≡ Ok x
Gives (Err e) given = Fails e given

-- the same of a function that changes what it is lent
abbrev pub Makes : {S : Type 0} → Result (Unit {0}) ElabFault → S → Result S Refusal → Type 0
Makes (Ok _) new given = given ≡ Ok new
Makes (Err e) new given = Fails e given

-- the same of a function whose value stands for what the definition gives
abbrev pub GivesAs : {X Y : Type 0} → (X → Y) → Result X ElabFault → Result Y Refusal → Type 0
GivesAs meant (Ok x) given = given ≡ Ok (meant x)
GivesAs meant (Err e) given = Fails e given

-- ---- the faults of expressions as faults of a design

abbrev pub fault_of : BindFault → ElabFault
fault_of (bind_fault.UnknownName at) = errors.Fault kind.UnknownName at
fault_of (bind_fault.TooWide at) = errors.Fault kind.TooWide at
fault_of (bind_fault.BadSelect at) = errors.Fault kind.BadSelect at
fault_of (bind_fault.BadConcat at) = errors.Fault kind.BadConcat at
fault_of (bind_fault.UnknownLiteral at) = errors.Fault kind.UnknownLiteral at
fault_of (bind_fault.NotConstant at) = errors.Fault kind.NotConstant at
fault_of bind_fault.Memory = errors.Memory

-- no definition gives want of memory: what stands for it here is never met
abbrev pub refusal_of : ElabFault → Refusal
refusal_of (errors.Fault kind at) = (kind, at)
refusal_of errors.Memory = (kind.UnknownName, 0)

abbrev pub lifted : {X : Type 0} → Result X BindFault → Result X Refusal
lifted (Ok x) = Ok x
lifted (Err e) = Err (refusal_of (fault_of e))
