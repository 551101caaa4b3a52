use Rattle.std.proofs.Common.{rules, ◌≡◌, ◌∙◌, subst, sym}
use Rattle.std.specs.Prelude.{Some}
use Rattle.std.specs.Ordering.{int_eq}
use Rattle.std.specs.HashMap.{get}
use Rattle.cov_base.specs.Sets.{written}
use Rattle.trans_found.specs.Held.{begun_by, HasAll}
use Rattle.trans_found.proofs.held.kept_at.Goals as goal

pub returns-then-are_same : goal.returns-then-are_same
returns-then-are_same c = λ lists all.
    let held = c.in-Some.held.now in
    let there : get int_eq c.args.known.now.kept c.args.mark ≡ Some held = search (rules, c.in-Some.ensures.value, c.get.ensures.value, c.in-Some.is) in
    let same : held.first ≡ c.args.first.now = sym c.as_slice.ensures ∙ c.are_same.ensures c.if-are_same.true in
    subst (λ f. HasAll lists (begun_by f (written held.numbers) held.rest)) same (all c.args.mark held there)
