use Rattle.std.proofs.Common.{arith, subst, sym}
use Rattle.trans_auto.specs.Steps.{SeqsStep}
use Rattle.trans_auto.specs.Layout.{SeqsInside, SeqsLaid}
use Rattle.trans_auto.proofs.BitLemmas.{no-bit}
use Rattle.trans_auto.proofs.Moving.{seqs-moved}
use Rattle.trans_auto.proofs.side.Side.step.Goals as goal

pub returns : goal.returns
returns c = λ v.
    let s = c.self.inside in
    let seqs = s.seqs.items in
    let a = c.args in
    let laid : SeqsLaid 0 seqs c.deref.result.now = subst (λ cells. SeqsLaid 0 seqs cells) (sym c.deref.ensures.value) c.self.invariant.1 in
    let enters = (c.seqs_enter-enters.ensures 0 seqs laid (λ k le. no-bit k)).here in
    let m = c.self.invariant.2 in
    subst (λ xs. SeqsInside 0 a.inside v xs → SeqsStep a.fresh 0 a.old c.moved.result v xs) c.self.view_is
    (λ within. seqs-moved s.masks a.inside c.seqs_enter-enters.result a.old c.moved.result c.moved.ensures.here c.moved.ensures.above a.fresh 0 v seqs (omega (arith, c.self.invariant.0)) m.runs m.gaps m.ends m.later within enters)
