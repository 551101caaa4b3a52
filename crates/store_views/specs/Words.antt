-- The words of what is told.
use Rattle.std.specs.Prelude.{ℕ, ◌==◌, List, codes, if◌then◌else◌}
use Rattle.store_views.specs.declared.state.BinState.{BinState}
use Rattle.store_views.specs.declared.state.BinState.TheVariants.{Covered, Hole, Out, Uncounted}

-- how a test ended
abbrev pub status_word : ℕ → List ℕ
status_word status = if status == 0 then codes "OK" else if status == 1 then codes "WARNING" else if status == 2 then codes "ERROR" else codes "FATAL"

-- the word of a bin's state
abbrev pub state_word : BinState → List ℕ
state_word Covered = codes "covered"
state_word Hole = codes "hole"
state_word Out = codes "out"
state_word Uncounted = codes "-"
