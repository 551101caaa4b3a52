-- Frames on a stream: the length of a body in four bytes with the highest first, and the body.
use Rattle.std.specs.Prelude.{ℕ, List, ◌++◌, length}
use Rattle.std.specs.Int.{w32, to_be_bytes}

-- the most bytes of a body
abbrev pub longest_body : ℕ
longest_body = 1048640

-- the length in four bytes, and the body
abbrev pub frame : List ℕ → List ℕ
frame body = to_be_bytes w32 (length body) ++ body
