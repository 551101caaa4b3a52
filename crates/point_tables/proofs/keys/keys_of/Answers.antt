use Rattle.std.proofs.Common.{sym, subst, List}
use Rattle.value_index.specs.declared.sets.Span.{Span}
use Rattle.point_tables.specs.Keys.{AreKeysOf}
use Rattle.point_tables.proofs.Keyed.{keys_of_set}
use Rattle.point_tables.proofs.keys.keys_of.Goals as goal

pub returns : goal.returns
returns c = subst (λ (keys : List Span). AreKeysOf c.args.least c.args.set.now keys) (sym c.of.ensures)
    (keys_of_set c.args.least c.loop-range.spans.items c.intervals-range-items.result.now c.args.set.now c.loop-range.range-index c.loop-range.invariant c.intervals-range-items.ensures.value c.loop-range-test.false c.intervals-range-items.ensures.normal)
