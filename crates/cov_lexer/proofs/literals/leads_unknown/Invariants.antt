use Rattle.std.proofs.Common.{◌≡◌, find, not, drop}
use Rattle.cov_lexer.specs.Literals.{is_gap}
use Rattle.cov_lexer.proofs.literals.leads_unknown.Given as goal

abbrev pub invariant-loop-digit : goal.invariant-loop-digit
invariant-loop-digit l = find (λ c. not (is_gap c)) l.digits ≡ find (λ c. not (is_gap c)) (drop l.digit-index l.digits)
