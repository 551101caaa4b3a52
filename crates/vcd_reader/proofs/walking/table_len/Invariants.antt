use Rattle.std.proofs.Common.{ℕ, ◌≤◌, ◌<◌, length}
use Rattle.std.specs.List.{AllByRecursion}
use Rattle.vcd_reader.proofs.walking.table_len.Given as goal

abbrev pub invariant-loop-code : goal.invariant-loop-code
invariant-loop-code l = record { least : (n : ℕ) → l.len ≤ n → AllByRecursion (λ code. code < n) l.rest → AllByRecursion (λ code. code < n) l.codes }

abbrev pub decreases-loop-code : goal.decreases-loop-code
decreases-loop-code l = length l.rest
