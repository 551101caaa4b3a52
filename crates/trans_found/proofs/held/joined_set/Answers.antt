use Rattle.trans_seq.proofs.Results.{if_ok}
use Rattle.trans_found.proofs.HeldLemmas.{joined-other, joined-set}
use Rattle.trans_found.proofs.held.joined_set.Goals as goal

pub returns-then-branch : goal.returns-then-branch
returns-then-branch c =
    if_ok _ _ (λ both is. joined-other c.args.set.now c.args.other.now both (c.in_ok-is_part.ensures c.if-branch.true) is) c.copy.result c.copy.ensures

pub returns-then-branch-2 : goal.returns-then-branch-2
returns-then-branch-2 c =
    if_ok _ _ (λ both is. joined-set c.args.set.now c.args.other.now both (c.in_ok-is_part-2.ensures c.if-branch-2.true) is) c.copy-then-branch-2.result c.copy-then-branch-2.ensures
