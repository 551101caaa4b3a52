use Rattle.std.proofs.Common.{subst, sym, false}
use Rattle.trans_auto.specs.Steps.{SeqsStep}
use Rattle.trans_auto.proofs.Languages.{seqs-dead}
use Rattle.trans_auto.proofs.removing.Step.moved.Goals as goal

pub returns-then-old-eq0-clause-is : goal.returns-then-old-eq0-clause-is
returns-then-old-eq0-clause-is c = λ v s. subst (λ n. SeqsStep false 0 n 0 v c.args.removed.now) (sym c.if-old-eq0.true) (seqs-dead 0 v c.args.removed.now)
