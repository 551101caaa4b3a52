use Rattle.std.proofs.Common.{refl, subst, sym, ◌∙◌, List}
use Rattle.std.proofs.lemmas.Bool.{false≢true}
use Rattle.trans_seq.specs.declared.seq.Seq.{Seq}
use Rattle.design_data.specs.declared.infos.BinInfo.{BinInfo}
use Rattle.design_data.specs.Bins.{seqs_of}
use Rattle.cov_counting.specs.Hits.{EndsNone}
use Rattle.cov_counting.proofs.Windows.{yes, no, all_more, all_done}
use Rattle.cov_counting.proofs.points.ends_no_bin.Goals as goal

pub returns-then-not-none : goal.returns-then-not-none
returns-then-not-none c = no _ refl (λ all.
    let here = subst (λ (b : BinInfo). EndsNone (seqs_of b.rule) c.args.values.now) (sym c.bin-item.is) (all c.loop-bin.bin-index c.bin-item.result c.loop-bin-test.true) in
    false≢true (sym c.if-not-none.true ∙ c.in_ok-none.ensures.1 (subst (λ (s : List Seq). EndsNone s c.args.values.now) (sym c.seqs_of.ensures) here)))

pub loop-bin-preserved : goal.loop-bin-preserved
loop-bin-preserved c =
    let here = subst (λ (s : List Seq). EndsNone s c.args.values.now) c.seqs_of.ensures (c.in_ok-none.ensures.0 c.if-not-none.false) in
    all_more (λ (bin : BinInfo). EndsNone (seqs_of bin.rule) c.args.values.now) c.args.bins.now c.loop-bin.bin-index c.bin-item.result c.loop-bin-test.true c.bin-item.is c.loop-bin.invariant here

pub returns : goal.returns
returns c = yes _ refl (all_done (λ (bin : BinInfo). EndsNone (seqs_of bin.rule) c.args.values.now) c.args.bins.now c.loop-bin.bin-index c.loop-bin-test.false c.loop-bin.invariant)
