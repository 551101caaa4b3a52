-- A loop that walks a list until the first fault.
use Rattle.std.proofs.Common.{◌≡◌, ℕ, ◌+◌, ◌≤◌, ◌<◌, List, ◌∷◌, length, drop, get_or, refl, sym, ◌∙◌, add-one, drop-cons, Result, Ok}
use Rattle.std.proofs.lemmas.List.{drop_all}
use Rattle.elab_base.specs.declared.fault.ElabFault.{ElabFault}
use Rattle.elab_base.specs.declared.fault.ElabFault.TheVariants as errors
use Rattle.elab_base.specs.Gives.{Refusal, ◌>>=◌, Fails, each_at}

-- what is left of the walk gives what the whole walk gives
pub record Left {A S : Type 0} (step : ℕ → A → S → Result S Refusal) (i : ℕ) (xs : List A) (s : S) (whole : Result S Refusal) : Type 0 where
  pub left : each_at step i (drop i xs) s ≡ whole

next_is : {A : Type 0} (xs : List A) (i : ℕ) (x : A) → i < length xs → x ≡ get_or xs i x → drop i xs ≡ x ∷ drop (i + 1) xs
next_is xs i x lt is = drop-cons xs i x lt ∙ rw (add-one, ← is) refl

pub left_begins : {A S : Type 0} (step : ℕ → A → S → Result S Refusal) (xs : List A) (s : S) → Left step 0 xs s (each_at step 0 xs s)
left_begins step xs s = record { left = refl }

pub left_more : {A S : Type 0} {step : ℕ → A → S → Result S Refusal} {i : ℕ} {xs : List A} {s : S} {whole : Result S Refusal} (x : A) (t : S)
    → Left step i xs s whole → i < length xs → x ≡ get_or xs i x → step i x s ≡ Ok t → Left step (i + 1) xs t whole
unfolding each_at
left_more {step = step} {i = i} {xs = xs} {s = s} {whole = whole} x t l lt is e =
    let h = rw (next_is xs i x lt is, e) at l.left in
    record { left = h }

fails_along : {S : Type 0} (e : ElabFault) (f : S → Result S Refusal) (given : Result S Refusal) (whole : Result S Refusal) → Fails e given → (given >>= f) ≡ whole → Fails e whole
fails_along errors.Memory f given whole h w = tt
fails_along (errors.Fault kind at) f given whole h w = let g = rw h at w in sym g

pub left_stops : {A S : Type 0} {step : ℕ → A → S → Result S Refusal} {i : ℕ} {xs : List A} {s : S} {whole : Result S Refusal} (e : ElabFault) (x : A)
    → Left step i xs s whole → i < length xs → x ≡ get_or xs i x → Fails e (step i x s) → Fails e whole
unfolding each_at
left_stops {step = step} {i = i} {xs = xs} {s = s} {whole = whole} e x l lt is h =
    let w = rw (next_is xs i x lt is) at l.left in
    fails_along e (each_at step (i + 1) (drop (i + 1) xs)) (step i x s) whole h w

pub left_done : {A S : Type 0} {step : ℕ → A → S → Result S Refusal} {i : ℕ} {xs : List A} {s : S} {whole : Result S Refusal} → Left step i xs s whole → length xs ≤ i → whole ≡ Ok s
unfolding each_at
left_done {step = step} {i = i} {xs = xs} {s = s} {whole = whole} l le =
    let w = rw (drop_all i xs le) at l.left in
    sym w
