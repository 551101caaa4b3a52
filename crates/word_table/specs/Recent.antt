-- The last values of a trace.
use Rattle.std.specs.Prelude.{◌≡◌, ℤ, ℕ, ◌-◌, ◌≤◌, ◌⊎◌, List, length, drop, Option}

-- the most values of a word
abbrev pub longest : ℕ
longest = 120

-- the values are the last ones of the trace: at least as many as a word may have, or all of them
pub record AreLast (kept w : List (Option ℤ)) : Type 0 where
  pub fits : length kept ≤ length w
  pub same : drop (length w - length kept) w ≡ kept
  pub enough : (length kept ≡ length w) ⊎ (longest ≤ length kept)
