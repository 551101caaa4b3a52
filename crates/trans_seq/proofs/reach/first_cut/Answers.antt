use Rattle.std.proofs.Common.{◌∙◌, true, false, ap, get_or, length, ◌+◌, arith}
use Rattle.std.proofs.lemmas.List.{get_or-set_other}
use Rattle.trans_seq.proofs.ReachLemmas.{none-marked}
use Rattle.trans_seq.proofs.reach.first_cut.Goals as goal

pub returns-clause-others : goal.returns-clause-others
returns-clause-others c = λ k some.
    let none = c.in_ok-cuts.cuts.items in
    get_or-set_other none 0 k true false (λ e. omega (arith, e, some))
    ∙ ap (λ l. get_or l k false) c.in_ok-cuts.ensures ∙ none-marked (length c.args.window.now + 1) k
