use Rattle.std.proofs.Common.{rules, ◌≡◌, ◌-◌, ◌<◌, [], ◌∷◌, length, map, take, drop, ap, ◌∙◌, subst, arith, IfSome}
use Rattle.cov_ground.specs.Limits.{most_bins}
use Rattle.trans_found.specs.Held.{words}
use Rattle.trans_found.specs.Found.{packed}
use Rattle.trans_found.specs.Lists.{all_of}
use Rattle.trans_found.specs.Alone.{ahead, behind, groups_ahead}
use Rattle.trans_found.proofs.AloneLemmas.{groups_tail, groups_same, over_groups, within_groups}
use Rattle.trans_found.proofs.alone.groups_before.Goals as goal

pub returns-then-count-clause-err : goal.returns-then-count-clause-err
returns-then-count-clause-err c =
    let over : most_bins < length (all_of (groups_ahead c.args.items.now c.args.groups.now)) =
    over_groups c.args.items.now c.args.groups.now c.from.result c.count_ahead-count.result (c.from.ensures ∙ c.count_of.ensures) c.count_ahead-count.ensures (omega arith) in
    search (rules, over)

pub returns-in_ok-with_tail-in-Some-clause-ok : goal.returns-in_ok-with_tail-in-Some-clause-ok
returns-in_ok-with_tail-in-Some-clause-ok c =
    let items = c.args.items.now in
    let groups = c.args.groups.now in
    let size = c.before_tail-size.result in
    let only : words (take (length items - size) (drop size items)) ≡ c.in-Some.tail.items ∷ [] =
    subst (λ found. IfSome found (λ list. words (take (length items - size) (drop size items)) ≡ list.items ∷ [])) c.in-Some.is c.in_ok-tail.ensures in
    c.in_ok-with_tail-in-Some.ensures
    ∙ ap (λ tail. packed (map (λ g. ahead (take size items) (behind tail g)) groups)) c.as_slice.ensures.value
    ∙ ap packed (groups_tail items size c.in-Some.tail.items groups only)

pub returns-in_ok-with_tail-in-Some-clause-few : goal.returns-in_ok-with_tail-in-Some-clause-few
returns-in_ok-with_tail-in-Some-clause-few c =
    within_groups c.args.items.now c.args.groups.now c.from.result c.count_ahead-count.result (c.from.ensures ∙ c.count_of.ensures) c.count_ahead-count.ensures (omega arith)

pub returns-in_ok-with_tail-in-None-clause-ok : goal.returns-in_ok-with_tail-in-None-clause-ok
returns-in_ok-with_tail-in-None-clause-ok c = c.in_ok-with_tail-in-None.ensures ∙ ap packed (groups_same c.args.items.now c.args.groups.now)

pub returns-in_ok-with_tail-in-None-clause-few : goal.returns-in_ok-with_tail-in-None-clause-few
returns-in_ok-with_tail-in-None-clause-few c =
    within_groups c.args.items.now c.args.groups.now c.from.result c.count_ahead-count.result (c.from.ensures ∙ c.count_of.ensures) c.count_ahead-count.ensures (omega arith)
