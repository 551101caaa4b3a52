use Rattle.std.proofs.Common.{◌≡◌, take, false}
use Rattle.std.specs.List.{list_any}
use Rattle.elab_bins.specs.Wildcards.{has_number}
use Rattle.elab_bins.proofs.wildcards.have_number.Given as goal

abbrev pub invariant-loop-pattern : goal.invariant-loop-pattern
invariant-loop-pattern l = list_any (has_number l.domain) (take l.pattern-index l.patterns) ≡ false
