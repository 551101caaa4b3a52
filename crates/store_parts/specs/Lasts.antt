-- Kinds of changes.
use Rattle.std.specs.Prelude.{Bool, true, false}
use Rattle.cov_history.specs.declared.entry.Event.{Event}
use Rattle.cov_history.specs.declared.entry.Event.TheVariants.{Admit}

abbrev pub is_test : Event → Bool
is_test (Admit r) = true
is_test other = false
