use Rattle.std.proofs.Common.{◌≡◌, take, not, bytes_eq}
use Rattle.std.specs.Prelude.{filter}
use Rattle.cov_history.proofs.gone.without.Given as goal

abbrev pub invariant-loop-other : goal.invariant-loop-other
invariant-loop-other l = l.left.items ≡ filter (λ p. not (bytes_eq p l.path)) (take l.other-index l.out)
