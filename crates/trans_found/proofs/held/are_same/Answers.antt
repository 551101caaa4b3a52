use Rattle.std.proofs.Common.{◌∙◌, sym}
use Rattle.trans_found.proofs.News.{same_word}
use Rattle.trans_found.proofs.held.are_same.Goals as goal

pub returns : goal.returns
returns c = λ yes. same_word c.args.first.now c.args.second.now (sym c.eq.ensures ∙ yes)
