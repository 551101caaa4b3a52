-- A room that is filled piece by piece.
use Rattle.std.proofs.Common.{◌≡◌, ℕ, ◌+◌, ◌≤◌, ◌<◌, List, ◌++◌, length, take, drop, sym, ◌∙◌, ap, arith, take-append-drop}
use Rattle.std.proofs.lemmas.List.{take-take, drop-take, drop-drop}
use Rattle.cov_disk.specs.Files.{HandsOver}

take_two : {A : Type 0} (a b : ℕ) (xs : List A) → take (a + b) xs ≡ take a xs ++ take b (drop a xs)
take_two a b xs = sym (take-append-drop a (take (a + b) xs)) ∙ (λ i. take-take a (a + b) xs (omega arith) i ++ drop-take a b xs i)

pub filled_more : (file old new : List ℕ) (offset at n : ℕ) → take at old ≡ take at (drop offset file) → take at new ≡ take at old → HandsOver file (offset + at) n (drop at new) → take (at + n) new ≡ take (at + n) (drop offset file)
filled_more file old new offset at n was front h =
    take_two at n new
    ∙ (λ i. (front ∙ was) i ++ (h.bytes ∙ ap (λ (l : List ℕ). take n l) (sym (drop-drop at offset file))) i)
    ∙ sym (take_two at n (drop offset file))

pub there_more : (file room : List ℕ) (offset at n : ℕ) → HandsOver file (offset + at) n room → 0 < n → offset + (at + n) ≤ length file
there_more file room offset at n h some = omega (arith, h.within, some)
