use Rattle.std.proofs.Common.{refl, below_more, ◌++◌, subst, sym, ◌∙◌, arith}
use Rattle.cov_counting.specs.Steps.{Keeps}
use Rattle.std.proofs.lemmas.Bool.{false≢true}
use Rattle.cov_counting.proofs.Windows.{no, rest_is}
use Rattle.cov_counting.proofs.points.counts.Goals as goal

pub loop-from-preserved : goal.loop-from-preserved
loop-from-preserved c = below_more _ _ c.loop-from.invariant (λ k. false≢true (sym c.if-kept.false ∙ c.in_ok-kept.ensures.1 (subst (Keeps c.args.seqs.now (c.args.ignored.now ++ c.args.illegal.now)) (sym (rest_is c.args.values.now c.loop-from.from)) k)))

pub returns : goal.returns
returns c = no _ refl (λ h. c.loop-from.invariant h.from (omega (arith, h.some, c.loop-from-test.false)) (h.in_own, h.not_removed))
