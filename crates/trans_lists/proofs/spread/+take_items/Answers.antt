use Rattle.std.proofs.Common.{rules, ◌≡◌, ◌+◌, ◌<◌, List, [], ◌∷◌, ◌++◌, length, take, ap, subst, sym, ◌∙◌, arith}
use Rattle.std.specs.Prelude.{ℤ}
use Rattle.std.specs.List.{flat_map}
use Rattle.cov_base.specs.Sets.{written}
use Rattle.trans_found.specs.Lists.{news}
use Rattle.trans_found.specs.Found.{Takes, FailsAfter, lists_of}
use Rattle.trans_found.specs.Held.{begun, begun_by, HasAll, AreHeld}
use Rattle.trans_found.proofs.News.{Word}
use Rattle.trans_found.proofs.FoundLemmas.{takes_none, takes_part, fails_part, value_at, none_at, popped}
use Rattle.trans_found.proofs.ListingLemmas.{others, split, if_err}
use Rattle.trans_found.proofs.HeldLemmas.{begun-item, begun-none, passed-known, takes-same, takes-known, fails-same, takes-has, takes-keeps, held-more, on-ok}
use Rattle.trans_lists.proofs.spread.+take_items.Goals as goal
use Rattle.trans_lists.proofs.spread.+take_items.Goals.{take_numbers-in-Some+in_ok-push+in_ok-take_items, take_numbers-in_default}

pub take_items-returns-in-empty-clause-held : goal.take_items-returns-in-empty-clause-held
take_items-returns-in-empty-clause-held t c =
    on-ok _ _ (λ took. held-more c.args.known.now c.args.found.now c.take_first.new.found (begun c.as_slice.result.now []) took c.requires.held) c.take_first.result c.take_first.ensures.ok

pub take_items-returns-then-is_kept-clause-ok : goal.take_items-returns-then-is_kept-clause-ok
take_items-returns-then-is_kept-clause-ok t c =
    let items = c.args.items.now in
    let item = c.item-item.result in
    let first = c.args.first.now.items in
    let parts : items ≡ item ∷ others items = split items item (omega arith) c.item-item.is in
    on-ok _ _ (λ took. subst (λ l. Takes c.args.found.now c.take_unknown.new.found l) (begun-item first item (others items) ∙ ap (λ l. begun first l) (sym parts)) took) c.take_unknown.result c.take_unknown.ensures.ok

pub take_items-returns-then-is_kept-clause-err : goal.take_items-returns-then-is_kept-clause-err
take_items-returns-then-is_kept-clause-err t c =
    let items = c.args.items.now in
    let item = c.item-item.result in
    let first = c.args.first.now.items in
    let parts : items ≡ item ∷ others items = split items item (omega arith) c.item-item.is in
    if_err _ _ (λ e h. subst (λ l. FailsAfter (lists_of c.args.found.now) l e) (begun-item first item (others items) ∙ ap (λ l. begun first l) (sym parts)) h) c.take_unknown.result c.take_unknown.ensures.err

pub take_items-returns-else-is_kept-clause-ok : goal.take_items-returns-else-is_kept-clause-ok
take_items-returns-else-is_kept-clause-ok t c =
    let items = c.args.items.now in
    let item = c.item-item.result in
    let first = c.args.first.now.items in
    let parts : items ≡ item ∷ others items = split items item (omega arith) c.item-item.is in
    on-ok _ _ (λ took. subst (λ l. Takes c.args.found.now c.take_numbers.new.found l) (begun-item first item (others items) ∙ ap (λ l. begun first l) (sym parts)) took) c.take_numbers.result c.take_numbers.ensures.ok

pub take_items-returns-else-is_kept-clause-err : goal.take_items-returns-else-is_kept-clause-err
take_items-returns-else-is_kept-clause-err t c =
    let items = c.args.items.now in
    let item = c.item-item.result in
    let first = c.args.first.now.items in
    let parts : items ≡ item ∷ others items = split items item (omega arith) c.item-item.is in
    if_err _ _ (λ e h. subst (λ l. FailsAfter (lists_of c.args.found.now) l e) (begun-item first item (others items) ∙ ap (λ l. begun first l) (sym parts)) h) c.take_numbers.result c.take_numbers.ensures.err

pub take_numbers-returns-in_err-take_items-clause-err : goal.take_numbers-returns-in_err-take_items-clause-err
take_numbers-returns-in_err-take_items-clause-err t c =
    let numbers = written c.args.set.now in
    let first = c.args.first.now.items in
    let rest = c.args.rest.now in
    let k = c.loop-k.k in
    let v = c.in-Some.value in
    let e = c.in_err-take_items.field-0.0 in
    let g : ℤ → List Word = λ v. begun (first ++ v ∷ []) rest in
    let within : k < length numbers = omega (arith, c.count-k-end.ensures.value, c.loop-k-test.true) in
    let pushed : c.push.new.self.items ≡ first ++ v ∷ [] = c.in_ok-push.ensures.items ∙ ap (λ f. f ++ v ∷ []) c.loop-k.invariant.first in
    let failed : FailsAfter (lists_of c.loop-k.found) (g v) e = subst (λ f. FailsAfter (lists_of c.loop-k.found) (begun f rest) e) pushed c.in_err-take_items.ensures.err in
    let all : FailsAfter (lists_of c.args.found.now) (begun_by first numbers rest) e =
    fails_part g c.args.found.now c.loop-k.found numbers k v within (value_at numbers k v c.in-Some.ensures) c.loop-k.invariant.takes e failed in
    search (rules, all)

pub take_numbers-loop-k-preserved : goal.take_numbers-loop-k-preserved
take_numbers-loop-k-preserved t c =
    let numbers = written c.args.set.now in
    let first = c.args.first.now.items in
    let rest = c.args.rest.now in
    let k = c.loop-k.k in
    let within : k < length numbers = omega (arith, c.count-k-end.ensures.value, c.loop-k-test.true) in
    elim c.match-nth.branch [
      | take_numbers-in-Some+in_ok-push+in_ok-take_items w ↦
          let v = w.in-Some.value in
          let g : ℤ → List Word = λ v. begun (first ++ v ∷ []) rest in
          let pushed : w.push.new.self.items ≡ first ++ v ∷ [] = w.in_ok-push.ensures.items ∙ ap (λ f. f ++ v ∷ []) c.loop-k.invariant.first in
          let took : Takes c.loop-k.found w.take_items.new.found (g v) = subst (λ f. Takes c.loop-k.found w.take_items.new.found (begun f rest)) pushed w.in_ok-take_items.ensures.ok in
          record {
            first = ap (λ f. f.items) w.first-is ∙ popped first v w.take_items.new.first.items w.pop.new.self.items w.take_items.new.first.len w.pop.ensures.rest w.take_items.new.first.ok.0 (w.in_ok-take_items.ensures.first ∙ pushed);
            takes = subst (λ f. Takes c.args.found.now f (flat_map g (take (k + 1) numbers))) (sym w.found-is)
                (takes_part g c.args.found.now c.loop-k.found numbers k v within (value_at numbers k v w.in-Some.ensures) c.loop-k.invariant.takes w.take_items.new.found took);
            held = subst (λ f. AreHeld c.match-nth.known (lists_of f)) (sym w.found-is) (subst (λ n. AreHeld n (lists_of w.take_items.new.found)) (sym w.known-is) w.in_ok-take_items.ensures.held);
          }
      | take_numbers-in_default w ↦ absurd (none_at numbers k within (sym w.in_default.is ∙ c.nth.ensures))
    ]

pub take_unknown-returns-in_err-take_numbers-clause-err : goal.take_unknown-returns-in_err-take_numbers-clause-err
take_unknown-returns-in_err-take_numbers-clause-err t c =
    let set = c.args.set.now in
    let first = c.args.first.now.items in
    let rest = c.args.rest.now in
    let before = lists_of c.args.found.now in
    let known = c.in_ok-before.before in
    let e = c.in_err-take_numbers.field-0.0 in
    let had : HasAll before (begun_by first (written known) rest) = subst (λ f. HasAll before (begun_by f (written known) rest)) c.as_slice-2.ensures.value (c.in_ok-before.ensures before c.requires.held) in
    let same : news before (begun_by first (written c.in_ok-left.left) rest) ≡ news before (begun_by first (written set) rest) = ap (λ vs. news before (begun_by first vs rest)) c.in_ok-left.ensures ∙ passed-known before first set known rest had in
    let failed : FailsAfter before (begun_by first (written set) rest) e =
    fails-same before (begun_by first (written c.in_ok-left.left) rest) (begun_by first (written set) rest) e same c.in_err-take_numbers.ensures.err in
    search (rules, failed)

pub take_unknown-returns-then-branch-clause-ok : goal.take_unknown-returns-then-branch-clause-ok
take_unknown-returns-then-branch-clause-ok t c =
    let found = c.args.found.now in
    takes-known found _ c.requires.holds
    (subst (λ f. HasAll (lists_of found) (begun_by f (written c.args.set.now) c.args.rest.now)) c.as_slice.ensures.value (c.in_ok-has_all.ensures c.if-branch.true (lists_of found) c.requires.held))

pub take_unknown-returns-then-is_none-clause-ok : goal.take_unknown-returns-then-is_none-clause-ok
take_unknown-returns-then-is_none-clause-ok t c =
    let set = c.args.set.now in
    let first = c.args.first.now.items in
    let rest = c.args.rest.now in
    let found = c.args.found.now in
    let before = lists_of found in
    let known = c.in_ok-before.before in
    let left = c.in_ok-left.left in
    let had : HasAll before (begun_by first (written known) rest) = subst (λ f. HasAll before (begun_by f (written known) rest)) c.as_slice-2.ensures.value (c.in_ok-before.ensures before c.requires.held) in
    let same : news before (begun_by first (written left) rest) ≡ news before (begun_by first (written set) rest) = ap (λ vs. news before (begun_by first vs rest)) c.in_ok-left.ensures ∙ passed-known before first set known rest had in
    let none : begun_by first (written left) rest ≡ [] = begun-none first left rest (c.is_none.ensures c.if-is_none.true) in
    takes-same found found (begun_by first (written left) rest) (begun_by first (written set) rest) same
    (subst (Takes found found) (sym none) (takes_none found c.requires.holds))

pub take_unknown-returns-clause-ok : goal.take_unknown-returns-clause-ok
take_unknown-returns-clause-ok t c =
    let set = c.args.set.now in
    let first = c.args.first.now.items in
    let rest = c.args.rest.now in
    let before = lists_of c.args.found.now in
    let known = c.in_ok-before.before in
    let had : HasAll before (begun_by first (written known) rest) = subst (λ f. HasAll before (begun_by f (written known) rest)) c.as_slice-2.ensures.value (c.in_ok-before.ensures before c.requires.held) in
    let same : news before (begun_by first (written c.in_ok-left.left) rest) ≡ news before (begun_by first (written set) rest) = ap (λ vs. news before (begun_by first vs rest)) c.in_ok-left.ensures ∙ passed-known before first set known rest had in
    takes-same c.args.found.now c.take_numbers.new.found (begun_by first (written c.in_ok-left.left) rest) (begun_by first (written set) rest) same c.in_ok-take_numbers.ensures.ok

pub take_unknown-returns-clause-held : goal.take_unknown-returns-clause-held
take_unknown-returns-clause-held t c =
    let set = c.args.set.now in
    let first = c.args.first.now.items in
    let rest = c.args.rest.now in
    let old = c.args.found.now in
    let new = c.take_numbers.new.found in
    let known = c.in_ok-before.before in
    let had : HasAll (lists_of old) (begun_by first (written known) rest) = subst (λ f. HasAll (lists_of old) (begun_by f (written known) rest)) c.as_slice-2.ensures.value (c.in_ok-before.ensures (lists_of old) c.requires.held) in
    let same : news (lists_of old) (begun_by first (written c.in_ok-left.left) rest) ≡ news (lists_of old) (begun_by first (written set) rest) = ap (λ vs. news (lists_of old) (begun_by first vs rest)) c.in_ok-left.ensures ∙ passed-known (lists_of old) first set known rest had in
    let took : Takes old new (begun_by first (written set) rest) = takes-same old new (begun_by first (written c.in_ok-left.left) rest) (begun_by first (written set) rest) same c.in_ok-take_numbers.ensures.ok in
    let now : c.take_numbers.new.first.items ≡ first = c.in_ok-take_numbers.ensures.first in
    let has_set : HasAll (lists_of new) (begun_by first (written set) rest) = takes-has old new (begun_by first (written set) rest) took in
    let has_known : HasAll (lists_of new) (begun_by first (written known) rest) = takes-keeps old new (begun_by first (written set) rest) (begun_by first (written known) rest) took had in
    let there : c.as_slice-3.result.now ≡ first = c.as_slice-3.ensures.value ∙ now in
    c.in_ok-keep.ensures.held (lists_of new)
    (c.in_ok-keep_by_sets.ensures (lists_of new) c.in_ok-take_numbers.ensures.held
    (subst (λ f. HasAll (lists_of new) (begun_by f (written set) rest)) (sym there) has_set)
    (subst (λ f. HasAll (lists_of new) (begun_by f (written known) rest)) (sym there) has_known))
    (subst (λ f. HasAll (lists_of new) (begun_by f (written set) rest)) (sym now) has_set)
    (subst (λ f. HasAll (lists_of new) (begun_by f (written known) rest)) (sym now) has_known)
