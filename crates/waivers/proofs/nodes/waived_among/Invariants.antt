use Rattle.waivers.specs.Patterns.{is_match}
use Rattle.waivers.proofs.Places.{IsFoundSo}
use Rattle.waivers.proofs.nodes.waived_among.Given as goal

abbrev pub invariant-loop-place : goal.invariant-loop-place
invariant-loop-place l = IsFoundSo (is_match l.pattern) l.paths l.place l.places.items
