use Rattle.std.proofs.Common.{◌≡◌, refl, subst, List}
use Rattle.std.specs.Prelude.{ℤ}
use Rattle.cov_base.specs.Sets.{written}
use Rattle.trans_found.specs.Held.{words, begun_by, HasAll, AreHeld}
use Rattle.trans_seq.proofs.Results.{if_ok}
use Rattle.trans_found.proofs.HeldLemmas.{held-at, has-none}
use Rattle.trans_found.proofs.held.numbers_at.Goals as goal

pub returns-then-branch : goal.returns-then-branch
returns-then-branch c =
    let first = c.args.first.now in
    let rest = c.args.rest.now in
    let held = c.in-Some.held.now in
    let parts : HasAll (words held.rest) (words rest) = subst (λ l. HasAll (words l) (words rest)) c.as_slice.ensures (c.in_ok-are_parts.ensures c.if-branch.true) in
    if_ok (λ numbers. numbers ≡ held.numbers) (λ numbers. (lists : List (List ℤ)) → AreHeld c.args.known.now lists → HasAll lists (begun_by first (written numbers) rest))
    (λ numbers is lists all. held-at lists first first held.numbers numbers held.rest rest refl is parts (c.in-Some.ensures lists all)) c.copy.result c.copy.ensures

pub returns : goal.returns
returns c = λ lists all. has-none lists c.args.first.now c.new.result c.args.rest.now c.new.ensures
