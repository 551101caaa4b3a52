-- Steps that may fail, with the first fault that is met; and what a function owes to the definition of its step.
use Rattle.std.specs.Prelude.{◌≡◌, Result, Ok, Err}
use Rattle.vcd_dump.specs.declared.fault.Fault.{Fault}
use Rattle.vcd_dump.specs.declared.fault.Fault.TheVariants.{Syntax, TimeBack, UnknownCode, Memory}

infixl 10 ◌>>=◌
abbrev pub ◌>>=◌ : {A B : Type 0} → Result A Fault → (A → Result B Fault) → Result B Fault
(Ok x) >>= f = f x
(Err e) >>= f = Err e

-- a function's fault is that of its definition, unless memory ran out
abbrev pub Fails : {Y : Type 0} → Fault → Result Y Fault → Type 0
Fails Memory given = Unit {0}
Fails (Syntax left) given = given ≡ Err (Syntax left)
Fails (TimeBack left) given = given ≡ Err (TimeBack left)
Fails (UnknownCode left) given = given ≡ Err (UnknownCode left)

-- what a function returned is what a definition gives, unless memory ran out
abbrev pub Gives : {X : Type 0} → Result X Fault → Result X Fault → Type 0
Gives (Ok x) given = given ≡ Ok x
Gives (Err e) given = Fails e given

-- the same of a function that changes what it is lent
abbrev pub Makes : {S : Type 0} → Result (Unit {0}) Fault → S → Result S Fault → Type 0
Makes (Ok done) new given = given ≡ Ok new
Makes (Err e) new given = Fails e given
