use Rattle.std.proofs.Common.{refl, below_more, subst, sym, ◌∙◌, arith}
use Rattle.trans_seq.specs.Windows.{InSome}
use Rattle.std.proofs.lemmas.Bool.{false≢true}
use Rattle.cov_counting.proofs.Windows.{yes, no, rest_is}
use Rattle.cov_counting.proofs.points.ends_none.Goals as goal

pub returns-then-found : goal.returns-then-found
returns-then-found c = no _ refl (λ none. none c.loop-from.from c.loop-from-test.true (subst (InSome c.args.seqs.now) (rest_is c.args.values.now c.loop-from.from) (c.in_ok-found.ensures.0 c.if-found.true)))

pub loop-from-preserved : goal.loop-from-preserved
loop-from-preserved c = below_more _ _ c.loop-from.invariant (λ s. false≢true (sym c.if-found.false ∙ c.in_ok-found.ensures.1 (subst (InSome c.args.seqs.now) (sym (rest_is c.args.values.now c.loop-from.from)) s)))

pub returns : goal.returns
returns c = yes _ refl (λ from lt. c.loop-from.invariant from (omega (arith, lt, c.loop-from-test.false)))
