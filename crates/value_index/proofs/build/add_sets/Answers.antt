use Rattle.std.proofs.Common.{List, subst}
use Rattle.value_index.specs.declared.sets.Span.{Span}
use Rattle.value_index.specs.Built.{SpansAdded}
use Rattle.value_index.proofs.Added.{holds_more}
use Rattle.value_index.proofs.build.add_sets.Goals as goal

pub loop-i-preserved : goal.loop-i-preserved
loop-i-preserved c =
    holds_more c.args.cuts.now c.args.sets.now c.loop-i.i c.index-sets-i.result c.loop-i.rows c.add_spans.new.rows c.loop-i-test.true c.index-sets-i.is c.loop-i.invariant
    (subst (λ (d : List Span). SpansAdded c.args.cuts.now d c.loop-i.i c.loop-i.rows c.add_spans.new.rows) c.as_slice.ensures c.in_ok-add_spans.ensures)
