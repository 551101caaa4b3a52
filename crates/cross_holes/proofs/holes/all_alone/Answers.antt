use Rattle.std.proofs.Common.{sym, ◌∙◌}
use Rattle.cross_holes.proofs.Joining.{filter_all}
use Rattle.cross_holes.proofs.holes.all_alone.Goals as goal

pub returns-clause-alone : goal.returns-clause-alone
returns-clause-alone c = c.in_ok-alone.ensures ∙ sym (filter_all c.args.holes.now)
