-- A buffer between two ends.
use Rattle.std.proofs.Common.{◌≡◌, ℕ, zero, suc, ◌+◌, ◌-◌, ◌≤◌, List, [], ◌∷◌, ◌++◌, length, take, drop, refl, sym, ap, ◌∙◌, arith, length-take}
use Rattle.std.proofs.lemmas.List.{take-append-le, take_all, drop-take, length-drop}
use Rattle.std.specs.List.{copy_within}
use Rattle.cov_session.proofs.Grown.{take_more_of}

drop_within : (k : ℕ) (xs ys : List ℕ) → k ≤ length xs → drop k (xs ++ ys) ≡ drop k xs ++ ys
drop_within zero xs ys le = refl
drop_within (suc k) [] ys le = absurd (omega arith)
drop_within (suc k) (x ∷ xs) ys le = drop_within k xs ys (omega arith)

-- n bytes are put behind the end
pub filled : (s e n : ℕ) (b b' old : List ℕ) → s ≤ e → e ≤ length b → drop s (take e b) ≡ old → take e b' ≡ take e b → drop s (take (e + n) b') ≡ old ++ take n (drop e b')
filled s e n b b' old le fits v front =
    ap (drop s) (sym (take_more_of e n b'))
    ∙ (ap (λ l. drop s (l ++ take n (drop e b'))) front
    ∙ (drop_within s (take e b) (take n (drop e b')) (omega (arith, length-take e b))
    ∙ ap (λ l. l ++ take n (drop e b')) v))

pub written : (n : ℕ) (xs ys : List ℕ) → length xs ≡ n → take n (xs ++ drop (length xs) ys) ≡ xs
written n xs ys e = take-append-le n xs (drop (length xs) ys) (omega arith) ∙ take_all n xs (omega arith)

drop_take : (s e : ℕ) (b : List ℕ) → s ≤ e → drop s (take e b) ≡ take (e - s) (drop s b)
drop_take s e b le = let p : e ≡ s + (e - s) = omega arith in ap (λ n. drop s (take n b)) p ∙ drop-take s (e - s) b

pub moved : (b b' : List ℕ) (s e : ℕ) → s ≤ e → e ≤ length b → b' ≡ copy_within b s e 0 → take (e - s) b' ≡ drop s (take e b)
moved b b' s e le fits q = rw q (take-append-le (e - s) (take (e - s) (drop s b)) (drop (0 + (e - s)) b) (omega (arith, length-take (e - s) (drop s b), length-drop s b)) ∙ (take_all (e - s) (take (e - s) (drop s b)) (omega (arith, length-take (e - s) (drop s b))) ∙ sym (drop_take s e b le)))

pub filled_all : (s e n len : ℕ) (v b b' old : List ℕ) → s ≤ e → e ≤ length b → drop s (take e b) ≡ old → take e b' ≡ take e b → length b' ≡ len → drop s (take (e + n) (take len (b' ++ drop (length b') v))) ≡ old ++ take n (drop e b')
filled_all s e n len v b b' old le fits view front long = rw (written len b' v long) (filled s e n b b' old le fits view front)

pub took_long : (n e m : ℕ) (xs : List ℕ) → n ≤ m → e + m ≤ length xs → length (take n (drop e xs)) ≡ n
took_long n e m xs le fits = omega (arith, length-take n (drop e xs), length-drop e xs)
