use Rattle.std.proofs.Common.{◌≡◌, Option, None, map, drop}
use Rattle.const_eval.specs.Scopes.{names_with}
use Rattle.const_eval.specs.Terms.{Term}
use Rattle.const_eval.specs.Fronts.{IsFront}
use Rattle.const_eval.specs.Binding.{parts_behind, seen}
use Rattle.const_eval.proofs.binding.+expressions.Given as goal

-- some terms stand for the parts so far, and what is left behind them gives what all parts give
abbrev pub invariant-bind_parts-loop-part : goal.invariant-bind_parts-loop-part
invariant-bind_parts-loop-part l = (terms : Option Term) × IsFront l.front terms × (parts_behind terms (map (seen (names_with l.item l.scope)) (drop l.part-index l.parts)) ≡ parts_behind None (map (seen (names_with l.item l.scope)) l.parts))
