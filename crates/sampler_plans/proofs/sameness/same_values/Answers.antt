use Rattle.std.proofs.Common.{sym, ◌∙◌}
use Rattle.trans_seq.proofs.SameLemmas.{same-ranges}
use Rattle.sampler_plans.proofs.sameness.same_values.Goals as goal

pub returns : goal.returns
returns c = λ t. (same-ranges c.args.first.now c.args.second.now).0 (sym c.eq.ensures ∙ t)
