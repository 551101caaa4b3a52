-- Lists that are walked until the first refusal.
use Rattle.std.proofs.Common.{◌≡◌, ℕ, List, [], ◌∷◌, length, Option, Result, Ok, refl, sym, ap, subst, arith}
use Rattle.design_data.specs.declared.infos.Signal.{Signal}
use Rattle.vcd_dump.specs.declared.header.Code.{Code}
use Rattle.vcd_dump.specs.declared.fault.DumpFault.{DumpFault}
use Rattle.vcd_dump.specs.declared.fault.DumpFault.TheVariants.{Syntax, TimeBack, UnknownCode, BadEvent, NoSignal, WidthDiffers, TooManyEvents, TooLong, Memory}
use Rattle.vcd_reader.specs.Refusals.{◌>>=◌, Fails, each}
use Rattle.vcd_reader.specs.Signals.{add_code}

-- what is left of the list gives what all of it gives
pub record Left {A S : Type 0} (step : A → S → Result S DumpFault) (xs : List A) (s : S) (all : Result S DumpFault) : Type 0 where
  pub left : each step xs s ≡ all

pub begins : {A S : Type 0} (step : A → S → Result S DumpFault) (xs : List A) (s : S) → Left step xs s (each step xs s)
begins step xs s = record { left = refl }

pub next_is : {A S : Type 0} {step : A → S → Result S DumpFault} {before : List A} {x : A} {xs : List A} {s : S} {all : Result S DumpFault}
    → Left step before s all → before ≡ x ∷ xs → Left step (x ∷ xs) s all
next_is {step = step} {s = s} {all = all} l is = subst (λ (ys : List _). Left step ys s all) is l

pub goes_on : {A S : Type 0} {step : A → S → Result S DumpFault} {x : A} {xs : List A} {s : S} {all : Result S DumpFault} (t : S)
    → Left step (x ∷ xs) s all → step x s ≡ Ok t → Left step xs t all
unfolding each
goes_on t l e = let h = rw e at l.left in record { left = h }

stopped : {S : Type 0} (e : DumpFault) (given : Result S DumpFault) (f : S → Result S DumpFault) (all : Result S DumpFault) → Fails e given → (given >>= f) ≡ all → Fails e all
stopped Memory given f all h is = tt
stopped (Syntax n) given f all h is = let g = rw h at is in sym g
stopped (TimeBack n) given f all h is = let g = rw h at is in sym g
stopped (UnknownCode n) given f all h is = let g = rw h at is in sym g
stopped (BadEvent n) given f all h is = let g = rw h at is in sym g
stopped (NoSignal n) given f all h is = let g = rw h at is in sym g
stopped (WidthDiffers n) given f all h is = let g = rw h at is in sym g
stopped (TooManyEvents n) given f all h is = let g = rw h at is in sym g
stopped (TooLong n) given f all h is = let g = rw h at is in sym g

pub stops : {A S : Type 0} {step : A → S → Result S DumpFault} {x : A} {xs : List A} {s : S} {all : Result S DumpFault} (e : DumpFault)
    → Left step (x ∷ xs) s all → Fails e (step x s) → Fails e all
unfolding each
stops {step = step} {x = x} {xs = xs} {s = s} {all = all} e l h = stopped e (step x s) (each step xs) all h l.left

pub is_done : {A S : Type 0} {step : A → S → Result S DumpFault} (xs : List A) {s : S} {all : Result S DumpFault} → Left step xs s all → length xs ≡ 0 → all ≡ Ok s
unfolding each
is_done [] l e = sym l.left
is_done (x ∷ xs) l e = absurd (omega arith)

-- codes that are found alike
pub found_alike : (f g : List ℕ → Option Code) (signals : List Signal) → ((name : List ℕ) → f name ≡ g name) → each (add_code f) signals [] ≡ each (add_code g) signals []
found_alike f g signals same = ap (λ (h : List ℕ → Option Code). each (add_code h) signals []) (λ i name. same name i)
