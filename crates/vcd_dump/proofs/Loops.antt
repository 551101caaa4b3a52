-- Words that are read one by one.
use Rattle.std.proofs.Common.{◌≡◌, List, [], ◌∷◌, Result, Ok, refl, sym}
use Rattle.vcd_dump.specs.declared.fault.Fault.{Fault}
use Rattle.vcd_dump.specs.declared.fault.Fault.TheVariants.{Syntax, TimeBack, UnknownCode, Memory}
use Rattle.vcd_dump.specs.declared.reading.Reading.{Reading}
use Rattle.vcd_dump.specs.Words.{Word}
use Rattle.vcd_dump.specs.Gives.{◌>>=◌, Fails}
use Rattle.vcd_dump.specs.Reading.{read_word, read_words}

-- what is left of the words gives what all of them give
pub record Left (ws : List Word) (r : Reading) (all : Result Reading Fault) : Type 0 where
  pub left : read_words ws r ≡ all

pub begins : (ws : List Word) (r : Reading) → Left ws r (read_words ws r)
begins ws r = record { left = refl }

pub goes_on : {before : List Word} {r : Reading} {all : Result Reading Fault} (w : Word) (ws : List Word) (more : Reading)
    → Left before r all → before ≡ w ∷ ws → read_word w r ≡ Ok more → Left ws more all
unfolding read_words
goes_on w ws more l is e = let h = rw (is, e) at l.left in record { left = h }

stopped : (e : Fault) (given : Result Reading Fault) (f : Reading → Result Reading Fault) (all : Result Reading Fault) → Fails e given → (given >>= f) ≡ all → Fails e all
stopped Memory given f all h is = tt
stopped (Syntax left) given f all h is = let g = rw h at is in sym g
stopped (TimeBack left) given f all h is = let g = rw h at is in sym g
stopped (UnknownCode left) given f all h is = let g = rw h at is in sym g

pub stops : {before : List Word} {r : Reading} {all : Result Reading Fault} (e : Fault) (w : Word) (ws : List Word)
    → Left before r all → before ≡ w ∷ ws → Fails e (read_word w r) → Fails e all
unfolding read_words
stops {r = r} {all = all} e w ws l is h = let whole = rw is at l.left in stopped e (read_word w r) (read_words ws) all h whole

pub is_done : {before : List Word} {r : Reading} {all : Result Reading Fault} → Left before r all → before ≡ [] → all ≡ Ok r
unfolding read_words
is_done l is = let h = rw is at l.left in sym h
