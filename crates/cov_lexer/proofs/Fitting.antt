-- What fits a form.
use Rattle.std.proofs.Common.{◌≡◌, ℕ, ◌≤◌, List, [], ◌∷◌, Bool, true, false, inl, inr, length, get_or, subst, arith}
use Rattle.std.proofs.lemmas.Bool.{cases_lt, cases_order}
use Rattle.std.proofs.lemmas.List.{get_or_past}
use Rattle.cov_lexer.specs.Forms.{Part, Many, Passes, HasForm}
use Rattle.cov_lexer.specs.Reading.{Runs}

-- a byte that passes a test which 0 doesn't stands in the text
pub inside : (p : ℕ → Bool) (text : List ℕ) (i : ℕ) → p 0 ≡ false → p (get_or text i 0) ≡ true → Passes p text i
inside p text i z h = elim (cases_lt i (length text)) [
  | inl l ↦ (l, h)
  | inr l ↦ absurd (let g = subst (λ q. p q ≡ true) (get_or_past text i 0 l) h in cc)
]

-- the run is the only way to read any number of bytes, where what follows can't begin with one of them
pub run_then : (p : ℕ → Bool) (ps : List Part) (text : List ℕ) (i m n : ℕ) → Runs p text i m →
    ((q k : ℕ) → Passes p text q → HasForm text ps q k → ⊥) → HasForm text (Many p ∷ ps) i n → HasForm text ps m n
run_then p ps text i m n r avoid f = elim (cases_order f.0 m) [
  | inl e ↦ subst (λ q. HasForm text ps q n) e f.4
  | inr o ↦ elim o [
    | inl l ↦ absurd (avoid f.0 n (let u = r.inside in omega arith, r.all f.0 f.1 l) f.4)
    | inr l ↦ absurd (let a = f.3 m r.from l in let u = f.2 in let b = r.stops (omega arith) in cc)
  ]
]

-- a run at the end of a form is the longest
pub run_last : (p : ℕ → Bool) (text : List ℕ) (i m n : ℕ) → Runs p text i m → HasForm text (Many p ∷ []) i n → n ≤ m
run_last p text i m n r f = elim (cases_lt m n) [
  | inl l ↦ absurd (let e = f.4 in let u = f.2 in let a = f.3 m r.from (omega arith) in let b = r.stops (omega arith) in cc)
  | inr l ↦ l
]

-- the run itself fits
pub run_fits : (p : ℕ → Bool) (ps : List Part) (text : List ℕ) (i m n : ℕ) → Runs p text i m → HasForm text ps m n → HasForm text (Many p ∷ ps) i n
run_fits p ps text i m n r f = (m, r.from, r.inside, r.all, f)
