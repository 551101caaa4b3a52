use Rattle.std.proofs.Common.{refl, sym, ◌∙◌}
use Rattle.std.proofs.lemmas.Bool.{false≢true}
use Rattle.trans_seq.specs.declared.seq.Seq.{Seq}
use Rattle.trans_seq.specs.Windows.{InSeq}
use Rattle.cov_counting.proofs.Windows.{yes, no, none_more, none_done}
use Rattle.cov_counting.proofs.points.in_some.Goals as goal

pub returns-then-found : goal.returns-then-found
returns-then-found c = yes _ refl (c.loop-seq.seq-index, c.seq-item.result, c.loop-seq-test.true, sym c.seq-item.is, c.in_ok-found.ensures.0 c.if-found.true)

pub loop-seq-preserved : goal.loop-seq-preserved
loop-seq-preserved c =
    none_more (λ (seq : Seq). InSeq seq.items c.args.window.now) c.args.seqs.now c.loop-seq.seq-index c.seq-item.result c.loop-seq-test.true c.seq-item.is c.loop-seq.invariant
    (λ is. false≢true (sym c.if-found.false ∙ c.in_ok-found.ensures.1 is))

pub returns : goal.returns
returns c = no _ refl (none_done (λ (seq : Seq). InSeq seq.items c.args.window.now) c.args.seqs.now c.loop-seq.seq-index c.loop-seq-test.false c.loop-seq.invariant)
