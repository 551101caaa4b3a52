use Rattle.std.proofs.Common.{sym, ◌∙◌}
use Rattle.trans_seq.proofs.SameLemmas.{same-ranges}
use Rattle.trans_seq.proofs.seq.same_values.Goals as goal

pub returns : goal.returns
returns c = let both = same-ranges c.args.first.now c.args.second.now in
    ((λ t. both.0 (sym c.eq.ensures ∙ t)), (λ e. c.eq.ensures ∙ both.1 e))
