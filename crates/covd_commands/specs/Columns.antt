-- The column of counts that the printing code hands about.
use Rattle.std.specs.Prelude.{ℕ, List, Option, Some, None}
use Rattle.covd_commands.specs.declared.lines.Column.{Column}
use Rattle.covd_commands.specs.declared.lines.Column.TheVariants.{Bare, Counted}

-- the counts, where they are printed
abbrev pub counts_of : Column → Option (List ℕ)
counts_of Bare = None
counts_of (Counted counts) = Some counts.now
