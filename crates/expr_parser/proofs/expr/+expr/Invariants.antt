use Rattle.std.proofs.Common.{◌+◌, ◌-◌, ◌*◌, ◌≤◌, length}
use Rattle.cov_grammar.specs.Parses.{Reads}
use Rattle.cov_grammar.specs.declared.place.Place.{Place}
use Rattle.cov_grammar.specs.Expressions.{unary_in, binary_in, inner_at}
use Rattle.expr_parser.proofs.ExprWalks.{Joins, Lists}
use Rattle.expr_parser.proofs.expr.+expr.Given as goal

abbrev pub decreases-part_expr : goal.decreases-part_expr
decreases-part_expr l = 30 * l.room.levels + 27

abbrev pub decreases-binary : goal.decreases-binary
decreases-binary l = 30 * l.room.levels + 6 + 2 * l.level

abbrev pub decreases-climbed : goal.decreases-climbed
decreases-climbed l = 30 * l.room.levels + 5 + 2 * l.level

abbrev pub decreases-operand : goal.decreases-operand
decreases-operand l = 30 * l.room.levels + 4

abbrev pub decreases-unary : goal.decreases-unary
decreases-unary l = 30 * l.room.levels + 3

abbrev pub decreases-primary : goal.decreases-primary
decreases-primary l = 30 * l.room.levels + 2

abbrev pub decreases-index : goal.decreases-index
decreases-index l = 30 * l.room.levels + 1

abbrev pub decreases-low_end : goal.decreases-low_end
decreases-low_end l = 30 * l.room.levels + 28

abbrev pub decreases-parts : goal.decreases-parts
decreases-parts l = 30 * l.room.levels + 28

abbrev pub invariant-climbed-loop-below : goal.invariant-climbed-loop-below
invariant-climbed-loop-below l = record {
  within : l.done ≤ l.level;
  reads : (start : Place) → Reads (λ r. unary_in l.reader.text.now l.reader.tokens.now l.standing (inner_at l.reader.text.now l.reader.tokens.now r.operators l.standing r.levels)) l.room start l.fn.first l.fn.place →
      Reads (λ r. binary_in l.reader.text.now l.reader.tokens.now r.operators l.standing (inner_at l.reader.text.now l.reader.tokens.now r.operators l.standing r.levels) l.done) l.room start l.left l.at;
}

abbrev pub decreases-climbed-loop-below : goal.decreases-climbed-loop-below
decreases-climbed-loop-below l = l.level - l.done

abbrev pub invariant-climbed-loop-op : goal.invariant-climbed-loop-op
invariant-climbed-loop-op l =
    (start : Place) → Reads (λ r. unary_in l.reader.text.now l.reader.tokens.now l.standing (inner_at l.reader.text.now l.reader.tokens.now r.operators l.standing r.levels)) l.room start l.fn.first l.fn.place →
    Joins l.reader.text.now l.reader.tokens.now l.standing l.room l.below (l.below + 1) start l.left l.at

abbrev pub decreases-climbed-loop-op : goal.decreases-climbed-loop-op
decreases-climbed-loop-op l = length l.reader.tokens.now - l.at.at

abbrev pub invariant-parts-loop-next : goal.invariant-parts-loop-next
invariant-parts-loop-next l = Lists l.reader.text.now l.reader.tokens.now l.room l.fn.place l.parts l.at

abbrev pub decreases-parts-loop-next : goal.decreases-parts-loop-next
decreases-parts-loop-next l = length l.reader.tokens.now - l.at.at
