-- How many bits a type may have.
use Rattle.std.specs.Prelude.{ℕ, ◌≤◌}
use Rattle.cov_ground.specs.Limits.{most_bits}

-- a type of so many bits
abbrev pub HasWidth : ℕ → Type 0
HasWidth width = (1 ≤ width) × (width ≤ most_bits)
