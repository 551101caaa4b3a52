-- Reading one after the other, as a loop does.
use Rattle.std.proofs.Common.{◌≡◌, ℕ, suc, ◌-◌, ◌+◌, ◌≤◌, ◌<◌, List, [], ◌∷◌, ◌++◌, Result, Ok, Err, refl, sym, ap, subst, ◌∙◌, append_assoc, arith}
use Rattle.std.proofs.lemmas.List.{append-nil}
use Rattle.record_codec.specs.declared.fault.Fault.{Fault}
use Rattle.record_codec.specs.declared.fault.Fault.TheVariants.{Short, BadMagic, BadVersion, BadField, TooManyEvents, Trailing, Memory}
use Rattle.record_codec.specs.Reading.{◌>>=◌, Fails, appended, counted}
use Rattle.record_codec.specs.Reading.{Reader}
use Rattle.record_codec.proofs.Readers.{bind_ok, ok_is}

-- what was read before, and what is still read
abbrev pub with_front : {A : Type 0} → List A → Result (List A × List ℕ) Fault → Result (List A × List ℕ) Fault
with_front front read = read >>= λ x. Ok (front ++ x.0, x.1)

-- what is still read behind what was read before makes the whole
pub record SoFar {A : Type 0} (read : Reader A) (bytes : List ℕ) (count : ℕ) (front : List A) (rest : List ℕ) (i : ℕ) : Type 0 where
  pub so_far : with_front front (counted read (count - i) rest) ≡ counted read count bytes

pub regroup : {A : Type 0} (front : List A) (x : A) (read : Result (List A × List ℕ) Fault) → with_front front (read >>= λ y. Ok (x ∷ y.0, y.1)) ≡ with_front (front ++ x ∷ []) read
regroup front x (Ok y) = ap (λ (xs : List _). Ok (xs, y.1)) (simp append_assoc)
regroup front x (Err f) = refl

pub goes_on : {A : Type 0} {read : Reader A} {bytes : List ℕ} {count : ℕ} {front : List A} {rest : List ℕ} {i : ℕ} (x : A) (after : List ℕ) → i < count → read rest ≡ Ok (x, after)
    → SoFar read bytes count front rest i → SoFar read bytes count (front ++ x ∷ []) after (i + 1)
unfolding counted
goes_on {read = read} {bytes = bytes} {count = count} {front = front} {rest = rest} {i = i} x after lt h before =
    let k : count - i ≡ suc (count - (i + 1)) = omega arith in
    let one : with_front front (counted read (count - i) rest) ≡ with_front (front ++ x ∷ []) (counted read (count - (i + 1)) after) = rw (k, h) (regroup front x (counted read (count - (i + 1)) after)) in
    record { so_far = sym one ∙ before.so_far }

stops : {A : Type 0} {read : Reader A} {bytes : List ℕ} {count : ℕ} {front : List A} {rest : List ℕ} {i : ℕ} (f : Fault) → i < count → read rest ≡ Err f
    → SoFar read bytes count front rest i → counted read count bytes ≡ Err f
unfolding counted
stops {read = read} {count = count} {front = front} {rest = rest} {i = i} f lt h before =
    let k : count - i ≡ suc (count - (i + 1)) = omega arith in
    let one : with_front front (counted read (count - i) rest) ≡ Err f = rw (k, h) refl in
    sym before.so_far ∙ one

ends : {A : Type 0} {read : Reader A} {bytes : List ℕ} {count : ℕ} {front : List A} {rest : List ℕ} {i : ℕ} (f : Fault) → i < count → Fails f (read rest)
    → SoFar read bytes count front rest i → Fails f (counted read count bytes)
ends Memory lt h before = tt
ends (Short left) lt h before = stops (Short left) lt h before
ends BadMagic lt h before = stops BadMagic lt h before
ends (BadVersion version) lt h before = stops (BadVersion version) lt h before
ends (BadField left) lt h before = stops (BadField left) lt h before
ends (TooManyEvents many) lt h before = stops (TooManyEvents many) lt h before
ends (Trailing left) lt h before = stops (Trailing left) lt h before

pub is_done : {A : Type 0} {read : Reader A} {bytes : List ℕ} {count : ℕ} {front : List A} {rest : List ℕ} {i : ℕ} → count ≤ i → SoFar read bytes count front rest i → counted read count bytes ≡ Ok (front, rest)
unfolding counted
is_done {read = read} {count = count} {front = front} {rest = rest} {i = i} le before =
    let k : count - i ≡ 0 = omega arith in
    let one : with_front front (counted read (count - i) rest) ≡ Ok (front, rest) = rw k (ap (λ (xs : List _). Ok (xs, rest)) (append-nil front)) in
    sym before.so_far ∙ one

-- ---- where each one is put behind those before

pub puts_on : {A : Type 0} {read : Reader A} {bytes : List ℕ} {count : ℕ} {front : List A} {rest : List ℕ} {i : ℕ} (new : List A) (after : List ℕ) → i < count → appended front (read rest) ≡ Ok (new, after)
    → SoFar read bytes count front rest i → SoFar read bytes count new after (i + 1)
puts_on {A = A} {read = read} {bytes = bytes} {count = count} {front = front} {rest = rest} {i = i} new after lt e before =
    let b = bind_ok (read rest) _ (new, after) e in
    let made : List A × List ℕ = (front ++ b.0.0 ∷ [], b.0.1) in
    subst (λ (y : List A × List ℕ). SoFar read bytes count y.0 y.1 (i + 1)) {x = made} (ok_is made (new, after) b.2) (goes_on b.0.0 b.0.1 lt b.1 before)

err_back : {A : Type 0} (front : List A) (read : Result (A × List ℕ) Fault) (f : Fault) → appended front read ≡ Err f → read ≡ Err f
err_back front (Ok x) f e = absurd cc
err_back front (Err d) f e = let same : d ≡ f = cc in ap Err same

fails_back : {A : Type 0} (front : List A) (read : Result (A × List ℕ) Fault) (f : Fault) → Fails f (appended front read) → Fails f read
fails_back front read Memory h = tt
fails_back front read (Short left) h = err_back front read (Short left) h
fails_back front read BadMagic h = err_back front read BadMagic h
fails_back front read (BadVersion version) h = err_back front read (BadVersion version) h
fails_back front read (BadField left) h = err_back front read (BadField left) h
fails_back front read (TooManyEvents many) h = err_back front read (TooManyEvents many) h
fails_back front read (Trailing left) h = err_back front read (Trailing left) h

pub put_ends : {A : Type 0} {read : Reader A} {bytes : List ℕ} {count : ℕ} {front : List A} {rest : List ℕ} {i : ℕ} (f : Fault) → i < count → Fails f (appended front (read rest))
    → SoFar read bytes count front rest i → Fails f (counted read count bytes)
put_ends {read = read} {front = front} {rest = rest} f lt h before = ends f lt (fails_back front (read rest) f h) before
