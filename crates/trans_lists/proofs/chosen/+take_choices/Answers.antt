use Rattle.std.proofs.Common.{rules, ◌≡◌, ◌+◌, ◌-◌, ◌<◌, ◌∷◌, length, refl, ap, subst, ◌∙◌, arith}
use Rattle.std.specs.List.{flat_map}
use Rattle.std.proofs.lemmas.List.{take_all}
use Rattle.trans_found.specs.Alone.{groups_ahead}
use Rattle.trans_found.specs.Found.{Takes, FailsAfter, lists_of, in_front}
use Rattle.trans_found.specs.Held.{words}
use Rattle.trans_found.specs.Lists.{from_on, all_of, by_lengths, news}
use Rattle.trans_found.proofs.FoundLemmas.{takes_part, fails_part}
use Rattle.trans_found.proofs.ListingLemmas.{others, split, no_items, size_at, length-from_on, if_err}
use Rattle.trans_found.proofs.HeldLemmas.{takes-same, fails-same, on-ok}
use Rattle.trans_lists.proofs.ChosenLemmas.{chosen-none, chosen-run, chosen-size, chosen-sizes, sized}
use Rattle.trans_lists.proofs.chosen.+take_choices.Goals as goal

pub take_choices-returns-in-empty-clause-ok : goal.take_choices-returns-in-empty-clause-ok
take_choices-returns-in-empty-clause-ok t c =
    let items = c.args.items.now in
    let front = c.args.front.now.items in
    let same : words c.as_slice.result.now ≡ all_of (groups_ahead front (by_lengths items)) = ap words c.as_slice.ensures.value ∙ chosen-none items front (no_items items c.in-empty.len_below) in
    on-ok _ _ (λ took. subst (λ ws. Takes c.args.found.now c.take_front.new.found ws) same took) c.take_front.result c.take_front.ensures.ok

pub take_choices-returns-in-empty-clause-err : goal.take_choices-returns-in-empty-clause-err
take_choices-returns-in-empty-clause-err t c =
    let items = c.args.items.now in
    let front = c.args.front.now.items in
    let same : words c.as_slice.result.now ≡ all_of (groups_ahead front (by_lengths items)) = ap words c.as_slice.ensures.value ∙ chosen-none items front (no_items items c.in-empty.len_below) in
    if_err _ _ (λ e h. subst (λ ws. FailsAfter (lists_of c.args.found.now) ws e) same h) c.take_front.result c.take_front.ensures.err

pub take_choices-returns-in-len1-up-clause-ok : goal.take_choices-returns-in-len1-up-clause-ok
take_choices-returns-in-len1-up-clause-ok t c =
    let items = c.args.items.now in
    let item = c.item-item.result in
    let front = c.args.front.now.items in
    let before = lists_of c.args.found.now in
    let low = c.run_of-low.result.0 in
    let high = c.run_of-low.result.1 in
    let behind = c.run_of-low.result.2.now in
    let made = all_of (groups_ahead front (in_front item.set low high (by_lengths behind))) in
    let whole = all_of (groups_ahead front (by_lengths items)) in
    let parts : items ≡ item ∷ others items = split items item (omega arith) c.item-item.is in
    let same : news before made ≡ news before whole = chosen-run front items item behind c.ends-least.result.0 c.ends-least.result.1 low high before parts c.ends-least.ensures.all c.run_of-low.ensures.same in
    on-ok _ _ (λ took. takes-same c.args.found.now c.take_sizes.new.found made whole same took) c.take_sizes.result c.take_sizes.ensures.ok

pub take_choices-returns-in-len1-up-clause-err : goal.take_choices-returns-in-len1-up-clause-err
take_choices-returns-in-len1-up-clause-err t c =
    let items = c.args.items.now in
    let item = c.item-item.result in
    let front = c.args.front.now.items in
    let before = lists_of c.args.found.now in
    let low = c.run_of-low.result.0 in
    let high = c.run_of-low.result.1 in
    let behind = c.run_of-low.result.2.now in
    let made = all_of (groups_ahead front (in_front item.set low high (by_lengths behind))) in
    let whole = all_of (groups_ahead front (by_lengths items)) in
    let parts : items ≡ item ∷ others items = split items item (omega arith) c.item-item.is in
    let same : news before made ≡ news before whole = chosen-run front items item behind c.ends-least.result.0 c.ends-least.result.1 low high before parts c.ends-least.ensures.all c.run_of-low.ensures.same in
    if_err _ _ (λ e h. fails-same before made whole e same h) c.take_sizes.result c.take_sizes.ensures.err

pub take_size-returns-in_err-take_choices-clause-err : goal.take_size-returns-in_err-take_choices-clause-err
take_size-returns-in_err-take_choices-clause-err t c =
    let item = c.args.item.now in
    let behind = c.args.behind.now in
    let front = c.args.front.now.items in
    let before = lists_of c.args.found.now in
    let next = c.add_once.new.items.items in
    let e = c.in_err-take_choices.field-0.0 in
    let same : all_of (groups_ahead next (by_lengths behind)) ≡ sized front item behind c.args.size = chosen-size front next item behind c.args.size c.in_ok-add_once.ensures in
    let failed : FailsAfter before (sized front item behind c.args.size) e = subst (λ ws. FailsAfter before ws e) same c.in_err-take_choices.ensures.err in
    search (rules, failed)

pub take_size-returns-clause-ok : goal.take_size-returns-clause-ok
take_size-returns-clause-ok t c =
    subst (λ ws. Takes c.args.found.now c.take_choices.new.found ws)
    (chosen-size c.args.front.now.items c.add_once.new.items.items c.args.item.now c.args.behind.now c.args.size c.in_ok-add_once.ensures) c.in_ok-take_choices.ensures.ok

pub take_sizes-returns-in_err-take_size-clause-err : goal.take_sizes-returns-in_err-take_size-clause-err
take_sizes-returns-in_err-take_size-clause-err t c =
    let item = c.args.item.now in
    let behind = c.args.behind.now in
    let front = c.args.front.now.items in
    let low = c.args.low in
    let most = c.args.high + 1 - low in
    let ns = from_on low most in
    let before = lists_of c.args.found.now in
    let k = c.loop-k.k in
    let e = c.in_err-take_size.field-0.0 in
    let inside : k < most = omega (arith, c.loop-k-test.true) in
    let long : length ns ≡ most = length-from_on low most in
    let here : FailsAfter (lists_of c.loop-k.found) (sized front item behind (low + k)) e =
    subst (λ f. FailsAfter (lists_of c.loop-k.found) (sized f item behind (low + k)) e) c.loop-k.invariant.front c.in_err-take_size.ensures.err in
    let each : FailsAfter before (flat_map (sized front item behind) ns) e =
    fails_part (sized front item behind) c.args.found.now c.loop-k.found ns k (low + k) (omega (arith, inside, long)) (size_at ns low most k (low + k) refl inside refl) c.loop-k.invariant.takes e here in
    let all : FailsAfter before (all_of (groups_ahead front (in_front item.set low c.args.high (by_lengths behind)))) e = subst (λ ws. FailsAfter before ws e) (chosen-sizes front item behind ns) each in
    search (rules, all)

pub take_sizes-loop-k-preserved : goal.take_sizes-loop-k-preserved
take_sizes-loop-k-preserved t c =
    let item = c.args.item.now in
    let behind = c.args.behind.now in
    let front = c.args.front.now.items in
    let low = c.args.low in
    let most = c.args.high + 1 - low in
    let ns = from_on low most in
    let k = c.loop-k.k in
    let inside : k < most = omega (arith, c.loop-k-test.true) in
    let long : length ns ≡ most = length-from_on low most in
    let took : Takes c.loop-k.found c.take_size.new.found (sized front item behind (low + k)) =
    subst (λ f. Takes c.loop-k.found c.take_size.new.found (sized f item behind (low + k))) c.loop-k.invariant.front c.in_ok-take_size.ensures.ok in
    record {
      front = c.in_ok-take_size.ensures.front ∙ c.loop-k.invariant.front;
      takes = takes_part (sized front item behind) c.args.found.now c.loop-k.found ns k (low + k) (omega (arith, inside, long)) (size_at ns low most k (low + k) refl inside refl) c.loop-k.invariant.takes c.take_size.new.found took;
      held = c.in_ok-take_size.ensures.held;
    }

pub take_sizes-returns-clause-ok : goal.take_sizes-returns-clause-ok
take_sizes-returns-clause-ok t c =
    let item = c.args.item.now in
    let behind = c.args.behind.now in
    let front = c.args.front.now.items in
    let low = c.args.low in
    let most = c.args.high + 1 - low in
    let ns = from_on low most in
    let long : length ns ≡ most = length-from_on low most in
    let all : Takes c.args.found.now c.loop-k.found (flat_map (sized front item behind) ns) =
    subst (λ ms. Takes c.args.found.now c.loop-k.found (flat_map (sized front item behind) ms)) (take_all c.loop-k.k ns (omega (arith, long, c.loop-k-test.false))) c.loop-k.invariant.takes in
    subst (λ ws. Takes c.args.found.now c.loop-k.found ws) (chosen-sizes front item behind ns) all
