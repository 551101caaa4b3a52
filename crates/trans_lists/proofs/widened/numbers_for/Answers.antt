use Rattle.std.proofs.Common.{◌≡◌, refl, List}
use Rattle.std.specs.Prelude.{ℤ}
use Rattle.cov_base.specs.Sets.{written}
use Rattle.trans_found.specs.Held.{begun_by, HasAll}
use Rattle.trans_seq.proofs.Results.{if_ok}
use Rattle.trans_found.proofs.HeldLemmas.{held-at, has-none}
use Rattle.trans_lists.proofs.widened.numbers_for.Goals as goal

pub returns-then-branch : goal.returns-then-branch
returns-then-branch c =
    let numbers = c.args.numbers.now in
    let rest = c.args.rest.now in
    let wide = c.args.wide.now in
    if_ok (λ some. some ≡ numbers) (λ some. (first : List ℤ) (lists : List (List ℤ)) → HasAll lists (begun_by first (written numbers) rest) → HasAll lists (begun_by first (written some) wide))
    (λ some is first lists h. held-at lists first first numbers some rest wide refl is (c.in_ok-are_parts.ensures c.if-branch.true) h) c.copy.result c.copy.ensures

pub returns : goal.returns
returns c = λ first lists h. has-none lists first c.new.result c.args.wide.now c.new.ensures
