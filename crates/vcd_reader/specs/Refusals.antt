-- Steps from a dump to its record that may refuse, with the first refusal; and what a function owes to its definition.
use Rattle.std.specs.Prelude.{◌≡◌, List, [], ◌∷◌, Result, Ok, Err}
use Rattle.vcd_dump.specs.declared.fault.DumpFault.{DumpFault}
use Rattle.vcd_dump.specs.declared.fault.DumpFault.TheVariants.{Syntax, TimeBack, UnknownCode, BadEvent, NoSignal, WidthDiffers, TooManyEvents, TooLong, Memory}

infixl 10 ◌>>=◌
abbrev pub ◌>>=◌ : {A B : Type 0} → Result A DumpFault → (A → Result B DumpFault) → Result B DumpFault
(Ok x) >>= f = f x
(Err e) >>= f = Err e

-- a list walked from the left until the first refusal
unfoldable pub each : {A S : Type 0} → (A → S → Result S DumpFault) → List A → S → Result S DumpFault
each step [] s = Ok s
each step (x ∷ xs) s = do
  t ← step x s
  each step xs t

-- a function's refusal is that of its definition, unless memory ran out
abbrev pub Fails : {Y : Type 0} → DumpFault → Result Y DumpFault → Type 0
Fails Memory given = Unit {0}
Fails (Syntax at) given = given ≡ Err (Syntax at)
Fails (TimeBack at) given = given ≡ Err (TimeBack at)
Fails (UnknownCode at) given = given ≡ Err (UnknownCode at)
Fails (BadEvent at) given = given ≡ Err (BadEvent at)
Fails (NoSignal n) given = given ≡ Err (NoSignal n)
Fails (WidthDiffers n) given = given ≡ Err (WidthDiffers n)
Fails (TooManyEvents n) given = given ≡ Err (TooManyEvents n)
Fails (TooLong n) given = given ≡ Err (TooLong n)

-- what a function returned is what a definition gives, unless memory ran out
abbrev pub Gives : {X Y : Type 0} → (X → Y) → Result X DumpFault → Result Y DumpFault → Type 0
Gives view (Ok x) given = given ≡ Ok (view x)
Gives view (Err e) given = Fails e given

-- the same of a function that changes what it is lent
abbrev pub Makes : {S : Type 0} → Result (Unit {0}) DumpFault → S → Result S DumpFault → Type 0
Makes (Ok done) new given = given ≡ Ok new
Makes (Err e) new given = Fails e given
