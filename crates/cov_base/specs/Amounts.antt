-- How much one call moves.
use Rattle.std.specs.Prelude.{ℕ, ◌<◌, ◌≤◌, List, length, Result, IfOk}
use Rattle.std.specs.Global.{Vec}

-- a write takes at least one of the bytes, and at most all of them
abbrev pub WritesSome : {E : Type 0} → Result ℕ E → List ℕ → Type 0
WritesSome result bytes = IfOk result (λ n. (0 < n) × (n ≤ length bytes))

-- a load hands over at most so many bytes
abbrev pub LoadsAtMost : {E : Type 0} → Result (Vec ℕ) E → ℕ → Type 0
LoadsAtMost result most = IfOk result (λ bytes. length bytes.items ≤ most)
