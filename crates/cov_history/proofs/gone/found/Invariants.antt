use Rattle.std.proofs.Common.{◌≡◌, take}
use Rattle.std.specs.Prelude.{filter}
use Rattle.cov_history.specs.History.{is_found}
use Rattle.cov_history.proofs.gone.found.Given as goal

abbrev pub invariant-loop-path : goal.invariant-loop-path
invariant-loop-path l = l.left.items ≡ filter (is_found l.design) (take l.path-index l.out)
