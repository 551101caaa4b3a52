use Rattle.std.proofs.Common.{◌≡◌, drop}
use Rattle.cov_lexer.specs.Kinds.{has_code}
use Rattle.cov_lexer.proofs.kind.Kind.is_one_of.Given as goal

abbrev pub invariant-loop-kind : goal.invariant-loop-kind
invariant-loop-kind l = has_code l.code l.kinds ≡ has_code l.code (drop l.kind-index l.kinds)
