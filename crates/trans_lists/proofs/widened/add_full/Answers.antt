use Rattle.std.proofs.Common.{◌∙◌}
use Rattle.trans_found.proofs.FoundLemmas.{popped}
use Rattle.trans_lists.proofs.widened.add_full.Goals as goal

pub returns-clause-first : goal.returns-clause-first
returns-clause-first c =
    let first = c.args.first.now.items in
    popped first c.in-Some.value c.push_full.new.first.items c.pop.new.self.items c.push_full.new.first.len c.pop.ensures.rest c.push_full.new.first.ok.0 (c.in_ok-push_full.ensures.first ∙ c.in_ok-push.ensures.items)

pub returns-clause-full : goal.returns-clause-full
returns-clause-full c = λ lists all had. c.in_ok-push_full.ensures.full lists c.args.first.now.items all c.in_ok-push.ensures.items had
