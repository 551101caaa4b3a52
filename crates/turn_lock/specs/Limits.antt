-- The limits of a lock.
use Rattle.std.specs.Prelude.{ℕ}

-- the most seats of a lock at a time
abbrev pub most_seats : ℕ
most_seats = 4096
