use Rattle.std.proofs.Common.{◌∙◌, List, subst, sym}
use Rattle.trans_seq.specs.declared.seq.Seq.{Seq}
use Rattle.trans_auto.specs.Removing.{IsStep}
use Rattle.trans_auto.proofs.removing.Removing.begin.Goals as goal

pub returns-then-is_empty : goal.returns-then-is_empty
returns-then-is_empty c =
    subst (λ (seqs : List Seq). IsStep seqs c.args.sample c.rest.new.self) (sym (c.is_empty.ensures c.if-is_empty.true) ∙ c.self.view_is) (c.rest.ensures c.args.sample)
