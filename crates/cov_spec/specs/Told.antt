-- What a call does to the bytes that an object of the outside tells. The rule is one for what is read and what is
-- written: an object that tells nothing (None) promises nothing of its bytes; it may stop telling, and never begins again.
use Rattle.std.specs.Prelude.{◌≡◌, ℕ, List, ◌++◌, take, Option, Some, None, ⊤, Result, MatchResult}
use Rattle.std.specs.Io.KnownBytes.{IsAtEnd}

-- the bytes told before and then these are the bytes told now
abbrev pub Grows : Option (List ℕ) → Option (List ℕ) → List ℕ → Type 0
Grows before None bytes = ⊤
Grows None (Some now) bytes = ⊥
Grows (Some before) (Some now) bytes = now ≡ before ++ bytes

-- the bytes told before are these and then the bytes told now
abbrev pub Shrinks : Option (List ℕ) → Option (List ℕ) → List ℕ → Type 0
Shrinks before None bytes = ⊤
Shrinks None (Some now) bytes = ⊥
Shrinks (Some before) (Some now) bytes = before ≡ bytes ++ now

-- the bytes told are as before
abbrev pub Stays : Option (List ℕ) → Option (List ℕ) → Type 0
Stays before None = ⊤
Stays None (Some now) = ⊥
Stays (Some before) (Some now) = now ≡ before

-- some of the bytes, from the front, were appended
abbrev pub GrowsByFront : Option (List ℕ) → Option (List ℕ) → List ℕ → Type 0
GrowsByFront before now bytes = (n : ℕ) × Grows before now (take n bytes)

-- a write appends the first n bytes at `Ok(n)`, and none at a refusal
abbrev pub Writes : {E : Type 0} → Option (List ℕ) → Option (List ℕ) → Result ℕ E → List ℕ → Type 0
Writes before now result bytes = MatchResult result (λ n. Grows before now (take n bytes)) (λ _. Stays before now)

-- a read takes the bytes that it puts to the front of the room: n of them at `Ok(n)`, none at the end alone, and none at a
-- refusal
abbrev pub Reads : {E : Type 0} → Option (List ℕ) → Option (List ℕ) → Result ℕ E → List ℕ → Type 0
Reads before now result room = MatchResult result (λ n. Shrinks before now (take n room) × (n ≡ 0 → IsAtEnd now)) (λ _. Stays before now)
