use Rattle.std.proofs.Common.{refl, sym, ◌∙◌}
use Rattle.std.proofs.lemmas.Bool.{not-true, not_from_false, false≢true}
use Rattle.trans_auto.proofs.RunLemmas.{ends-from, remains-from}
use Rattle.trans_auto.proofs.runs.answer_of.Goals as goal

pub returns-then-ends-clause-counts : goal.returns-then-ends-clause-counts
returns-then-ends-clause-counts c = λ u some h.
    let both = remains-from c.args.own.now c.args.removed.now c.args.run u c.accepts-ends.result c.accepts-removed.result some h c.accepts-ends.ensures c.accepts-removed.ensures in
    ((λ n. both.0 (c.if-ends.true, not-true c.accepts-removed.result n)), (λ r. not_from_false c.accepts-removed.result (both.1 r).1))

pub returns-then-ends-clause-ends : goal.returns-then-ends-clause-ends
returns-then-ends-clause-ends c = λ u some h.
    let mine = ends-from c.args.own.now c.args.removed.now c.args.run u c.accepts-ends.result some h c.accepts-ends.ensures in
    ((λ t. mine.0 c.if-ends.true), (λ i. refl))

pub returns-else-ends-clause-counts : goal.returns-else-ends-clause-counts
returns-else-ends-clause-counts c = λ u some h.
    let mine = ends-from c.args.own.now c.args.removed.now c.args.run u c.accepts-ends.result some h c.accepts-ends.ensures in
    ((λ f. absurd (false≢true f)), (λ r. sym c.if-ends.false ∙ mine.1 r.0))

pub returns-else-ends-clause-ends : goal.returns-else-ends-clause-ends
returns-else-ends-clause-ends c = λ u some h.
    let mine = ends-from c.args.own.now c.args.removed.now c.args.run u c.accepts-ends.result some h c.accepts-ends.ensures in
    ((λ f. absurd (false≢true f)), (λ i. sym c.if-ends.false ∙ mine.1 i))
