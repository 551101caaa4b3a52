-- Rows that are read in a loop, each put behind those before.
use Rattle.std.proofs.Common.{◌≡◌, ℕ, zero, suc, ◌+◌, ◌-◌, ◌<◌, ◌≤◌, eqb, Bool, true, false, cond, List, [], ◌∷◌, ◌++◌, length, Result, Ok, Err, refl, sym, ap, subst, ◌∙◌, append_assoc, arith, inl, inr}
use Rattle.std.proofs.lemmas.Bool.{cases_lt, eqb-true}
use Rattle.std.proofs.lemmas.List.{append-nil}
use Rattle.request_forms.specs.declared.fault.Fault.{Fault}
use Rattle.request_forms.specs.declared.fault.Fault.TheVariants.{At, Memory}
use Rattle.request_forms.specs.Given.{GivesOrLacks}
use Rattle.request_forms.specs.Reading.{◌>>=◌, Reader, nothing}
use Rattle.cov_proto.specs.Reading.{appended, rows_in}

-- rows behind others
abbrev pub with_front : {A : Type 0} → List A → Result (List A) ℕ → Result (List A) ℕ
with_front front read = do
  more ← read
  Ok (front ++ more)

-- So many rows are read, these bytes are left, and what is read of them is missing.
pub record SoFar {A : Type 0} (read : Reader A) (total : ℕ) (bytes : List ℕ) (front : List A) (rest : List ℕ) (i : ℕ) : Type 0 where
  pub so_far : with_front front (rows_in read (total - i) rest) ≡ rows_in read total bytes

regroup : {A : Type 0} (front : List A) (x : A) (read : Result (List A) ℕ) → with_front front (do
  others ← read
  Ok (x ∷ others)) ≡ with_front (front ++ x ∷ []) read
regroup front x (Ok others) = ap Ok (sym (append_assoc front (x ∷ []) others))
regroup front x (Err left) = refl

not_empty : (n : ℕ) → 0 < n → eqb n 0 ≡ false
not_empty n lt = grind arith

pub goes_on : {A : Type 0} {read : Reader A} {total : ℕ} {bytes : List ℕ} {front : List A} {rest : List ℕ} {i : ℕ} (x : A) (after : List ℕ) → i < total → 0 < length rest → read rest ≡ Ok (x, after)
    → SoFar read total bytes front rest i → SoFar read total bytes (front ++ x ∷ []) after (i + 1)
unfolding rows_in
goes_on {read = read} {total = total} {front = front} {rest = rest} {i = i} x after lt some h before =
    let k : total - i ≡ suc (total - (i + 1)) = omega arith in
    let filled : eqb (length rest) 0 ≡ false = not_empty (length rest) some in
    let one : with_front front (rows_in read (total - i) rest) ≡ with_front (front ++ x ∷ []) (rows_in read (total - (i + 1)) after) = rw (k, filled, h) (regroup front x (rows_in read (total - (i + 1)) after)) in
    record { so_far = sym one ∙ before.so_far }

pub stops : {A : Type 0} {read : Reader A} {total : ℕ} {bytes : List ℕ} {front : List A} {rest : List ℕ} {i : ℕ} (left : ℕ) → i < total → 0 < length rest → read rest ≡ Err left
    → SoFar read total bytes front rest i → rows_in read total bytes ≡ Err left
unfolding rows_in
stops {read = read} {total = total} {front = front} {rest = rest} {i = i} left lt some h before =
    let k : total - i ≡ suc (total - (i + 1)) = omega arith in
    let filled : eqb (length rest) 0 ≡ false = not_empty (length rest) some in
    let one : with_front front (rows_in read (total - i) rest) ≡ Err left = rw (k, filled, h) refl in
    sym before.so_far ∙ one

-- nothing is left, wherever the count stands
pub is_done : {A : Type 0} {read : Reader A} {total : ℕ} {bytes : List ℕ} {front : List A} {rest : List ℕ} {i : ℕ} → length rest ≡ 0
    → SoFar read total bytes front rest i → rows_in read total bytes ≡ Ok front
unfolding rows_in
is_done {read = read} {total = total} {front = front} {rest = rest} {i = i} e before = sym before.so_far ∙ ap (with_front front) (nil (total - i)) ∙ ap Ok (append-nil front)
  where
    nil : (n : ℕ) → rows_in read n rest ≡ Ok []
    nil zero = rw e refl
    nil (suc n) = rw e refl

-- all have been counted, and bytes are left
pub is_over : {A : Type 0} {read : Reader A} {total : ℕ} {bytes : List ℕ} {front : List A} {rest : List ℕ} {i : ℕ} → total ≤ i → 0 < length rest
    → SoFar read total bytes front rest i → rows_in read total bytes ≡ Err (length rest)
unfolding rows_in
is_over {read = read} {total = total} {front = front} {rest = rest} {i = i} le some before =
    let k : total - i ≡ 0 = omega arith in
    let filled : eqb (length rest) 0 ≡ false = not_empty (length rest) some in
    let one : with_front front (rows_in read (total - i) rest) ≡ Err (length rest) = rw (k, filled) refl in
    sym before.so_far ∙ one

-- ---- where each one is put behind those before

abbrev good : {A : Type 0} → A → Result A ℕ
good x = Ok x

good_is : {A : Type 0} (x y : A) → good x ≡ good y → x ≡ y
good_is x y e = cc

appended_ok : {A : Type 0} (front : List A) (read : Result (A × List ℕ) ℕ) (new : List A × List ℕ) → appended front read ≡ Ok new → (x : A × List ℕ) × (read ≡ Ok x) × ((front ++ x.0 ∷ [], x.1) ≡ new)
appended_ok front (Ok x) new e = (x, refl, good_is (front ++ x.0 ∷ [], x.1) new e)
appended_ok front (Err left) new e = absurd cc

appended_err : {A : Type 0} (front : List A) (read : Result (A × List ℕ) ℕ) (left : ℕ) → appended front read ≡ Err left → read ≡ Err left
appended_err front (Ok x) left e = absurd cc
appended_err front (Err other) left e = let same : other ≡ left = cc in ap Err same

pub puts_on : {A : Type 0} {read : Reader A} {total : ℕ} {bytes : List ℕ} {front : List A} {rest : List ℕ} {i : ℕ} (new : List A) (after : List ℕ) → i < total → 0 < length rest → appended front (read rest) ≡ Ok (new, after)
    → SoFar read total bytes front rest i → SoFar read total bytes new after (i + 1)
puts_on {A = A} {read = read} {total = total} {bytes = bytes} {front = front} {rest = rest} {i = i} new after lt some e before =
    let a = appended_ok front (read rest) (new, after) e in
    let put : List A × List ℕ = (front ++ a.0.0 ∷ [], a.0.1) in
    subst (λ (y : List A × List ℕ). SoFar read total bytes y.0 y.1 (i + 1)) {x = put} a.2 (goes_on a.0.0 a.0.1 lt some a.1 before)

pub put_ends : {A : Type 0} {read : Reader A} {total : ℕ} {bytes : List ℕ} {front : List A} {rest : List ℕ} {i : ℕ} (f : Fault) → i < total → 0 < length rest → GivesOrLacks {X = List A × List ℕ} (λ x. x) (Err f) (appended front (read rest))
    → SoFar read total bytes front rest i → GivesOrLacks {X = List A} (λ x. x) (Err f) (rows_in read total bytes)
put_ends {read = read} {front = front} {rest = rest} (At left) lt some h before = stops left lt some (appended_err front (read rest) left h) before
put_ends Memory lt some h before = tt

-- ---- the end

pub is_zero : (n : ℕ) (b : Bool) → b ≡ eqb n 0 → b ≡ true → n ≡ 0
is_zero n b e t = eqb-true n 0 (sym e ∙ t)

pub is_some : (n : ℕ) (b : Bool) → b ≡ eqb n 0 → b ≡ false → 0 < n
is_some n b e f =
    elim (cases_lt 0 n) [
      | inl lt ↦ lt
      | inr le ↦ let zero : n ≡ 0 = omega arith in absurd (apart (rw zero at (sym e ∙ f)))
    ]
  where
    apart : true ≡ false → ⊥
    apart q = cc

ends_well : {A : Type 0} (b : Bool) (x y : A) (d : ℕ) → cond b (good x) (Err d) ≡ Ok y → b ≡ true
ends_well true x y d e = refl
ends_well false x y d e = absurd cc

ends_badly : {A : Type 0} (b : Bool) (x : A) (d left : ℕ) → cond b (good x) (Err d) ≡ Err left → (b ≡ false) × (d ≡ left)
ends_badly true x d left e = absurd cc
ends_badly false x d left e = (refl, cc)

pub at_end : (rest : List ℕ) (x : Unit {0}) → nothing rest ≡ Ok x → length rest ≡ 0
at_end rest x e = is_zero (length rest) (eqb (length rest) 0) refl (ends_well (eqb (length rest) 0) tt x (length rest) e)

pub not_at_end : (rest : List ℕ) (left : ℕ) → nothing rest ≡ Err left → (0 < length rest) × (length rest ≡ left)
not_at_end rest left e =
    let t = ends_badly (eqb (length rest) 0) tt (length rest) left e in
    (is_some (length rest) (eqb (length rest) 0) refl t.0, t.1)
