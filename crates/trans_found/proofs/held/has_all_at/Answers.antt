use Rattle.std.proofs.Common.{refl, subst}
use Rattle.trans_found.specs.Held.{words, HasAll}
use Rattle.trans_seq.proofs.Results.{if_ok}
use Rattle.trans_found.proofs.HeldLemmas.{full-part, held-at}
use Rattle.trans_found.proofs.held.has_all_at.Goals as goal

pub returns : goal.returns
returns c =
    let first = c.args.first.now in
    let set = c.args.set.now in
    let rest = c.args.rest.now in
    let held = c.in-Some.held.now in
    if_ok _ _ (λ full parts yes lists all.
    full-part lists first set held.numbers rest (c.in_ok-is_part.ensures c.if-not-branch.false)
    (held-at lists first first held.numbers held.numbers held.rest rest refl refl (subst (λ l. HasAll (words l) (words rest)) c.as_slice.ensures (parts yes)) (c.in-Some.ensures lists all))) c.are_parts.result c.are_parts.ensures
