use Rattle.std.proofs.Common.{rules, ◌≡◌, ℕ, ◌+◌, ◌-◌, ◌<◌, ◌≤◌, List, [], ◌∷◌, length, length-drop, take, drop, ap, subst, sym, ◌∙◌, arith}
use Rattle.std.proofs.lemmas.List.{take_all}
use Rattle.std.proofs.lemmas.List.Elements.{All-head, All-drop}
use Rattle.trans_seq.specs.declared.seq.Item.{Item}
use Rattle.cov_base.specs.Sets.{written}
use Rattle.cov_ground.specs.Limits.{most_cells}
use Rattle.trans_found.specs.Lists.{from_on, choices, by_lengths, all_of, listed}
use Rattle.trans_found.specs.Found.{FailsAfter, HasList, AllHaveList, fronted, new_groups, packed}
use Rattle.trans_seq.specs.Cells.{cells_of_items}
use Rattle.trans_found.specs.Alone.{groups_ahead, IsFront}
use Rattle.trans_found.proofs.ListingLemmas.{fails_front, cells_front, groups_front, listed_front, exceeds_front, others, split, fails_behind_too, listed_none, if_err, no_items, few_listed}
use Rattle.trans_seq.proofs.Results.{if_ok}
use Rattle.trans_lists.proofs.RunLemmas.{groups-run, fails-run}
use Rattle.trans_lists.proofs.listing.+grouped.Goals as goal
use Rattle.trans_lists.proofs.listing.+grouped.Goals.{grouped-After-drop-front-2}

-- the items behind those in front
rest_is : (items : List Item) (size : ℕ) → take (length items - size) (drop size items) ≡ drop size items
rest_is items size = take_all (length items - size) (drop size items) (omega (arith, length-drop size items))

pub grouped-grouped-requires : goal.grouped-grouped-requires
grouped-grouped-requires t c =
    let items = c.args.items.now in
    let size = c.in_ok-front.front.size in
    let fewer : length (take (length items - size) (drop size items)) < length items =
    omega (arith, ap length (rest_is items size), length-drop size items, c.if-front-eq0.false, c.in_ok-front.ensures.within) in
    let lists : AllHaveList (take (length items - size) (drop size items)) = subst AllHaveList (sym (rest_is items size)) (All-drop HasList size items c.requires.lists) in
    let short : cells_of_items (take (length items - size) (drop size items)) ≤ most_cells = omega (arith, ap cells_of_items (rest_is items size), cells_front size items, c.requires.short) in
    (omega (arith, fewer), (lists, short))

pub grouped-returns-in_err-groups-clause-err : goal.grouped-returns-in_err-groups-clause-err
grouped-returns-in_err-groups-clause-err t c =
    let items = c.args.items.now in
    let size = c.in_ok-front.front.size in
    let e = c.in_err-groups.field-0.0 in
    let all : FailsAfter [] (all_of (by_lengths items)) e = fails_front size items e c.requires.lists (subst (λ l. FailsAfter [] (all_of (by_lengths l)) e) (rest_is items size) c.in_err-groups.ensures.err) in
    search (rules, all)

-- what is put in front of the groups is what the items have
fronts : (t : ℕ) (c : grouped-After-drop-front-2 t) → packed (groups_ahead c.as_slice.result.now c.as_slice-2.result.now) ≡ packed (new_groups [] (by_lengths c.args.items.now))
fronts t c =
    let items = c.args.items.now in
    let size = c.in_ok-front.front.size in
    let front : IsFront items c.as_slice.result.now size = subst (λ once. IsFront items once size) (sym c.as_slice.ensures.value) c.in_ok-front.ensures in
    groups_front items c.as_slice.result.now size c.as_slice-2.result.now front c.groups_before.ensures.ordered
    (c.as_slice-2.ensures.value ∙ c.in_ok-groups.ensures.ok ∙ ap (λ l. packed (new_groups [] (by_lengths l))) (rest_is items size))

pub grouped-returns-clause-ok : goal.grouped-returns-clause-ok
grouped-returns-clause-ok t c = if_ok _ _ (λ made is. is ∙ fronts t c) c.groups_before.result c.groups_before.ensures.ok

pub grouped-returns-clause-few : goal.grouped-returns-clause-few
grouped-returns-clause-few t c =
    if_ok _ _ (λ made few. omega (arith, few, listed_front c.args.items.now (groups_ahead c.as_slice.result.now c.as_slice-2.result.now) (fronts t c))) c.groups_before.result c.groups_before.ensures.few

pub grouped-returns-clause-err : goal.grouped-returns-clause-err
grouped-returns-clause-err t c =
    if_err _ _ (λ e h. exceeds_front c.args.items.now (groups_ahead c.as_slice.result.now c.as_slice-2.result.now) e (fronts t c) h) c.groups_before.result c.groups_before.ensures.err

pub varied-returns-in_err-groups-in-len1-up-clause-err : goal.varied-returns-in_err-groups-in-len1-up-clause-err
varied-returns-in_err-groups-in-len1-up-clause-err t c =
    let items = c.args.items.now in
    let item = c.item-item.result in
    let e = c.in_err-groups-in-len1-up.field-0.0 in
    let parts : items ≡ item ∷ others items = split items item (omega arith) c.item-item.is in
    let has : HasList item = All-head HasList item (others items) (subst AllHaveList parts c.requires.lists) in
    let later : FailsAfter [] (all_of (by_lengths (others items))) e = c.run_of-low.ensures.behind e c.in_err-groups-in-len1-up.ensures.err in
    let all : FailsAfter [] (all_of (by_lengths items)) e = subst (λ l. FailsAfter [] (all_of (by_lengths l)) e) (sym parts) (fails_behind_too item (others items) e has later) in
    search (rules, all)

pub varied-returns-in_ok-vec-in-empty-2-clause-few : goal.varied-returns-in_ok-vec-in-empty-2-clause-few
varied-returns-in_ok-vec-in-empty-2-clause-few t c =
    let none : c.args.items.now ≡ [] = no_items c.args.items.now c.in-empty.len_below in
    omega (arith, ap (λ items. length (listed items)) none, listed_none)

pub varied-returns-in_ok-groups-in-len1-up-clause-ok : goal.varied-returns-in_ok-groups-in-len1-up-clause-ok
varied-returns-in_ok-groups-in-len1-up-clause-ok t c =
    let items = c.args.items.now in
    let item = c.item-item.result in
    let low = c.run_of-low.result.0 in
    let high = c.run_of-low.result.1 in
    let got = c.as_slice.result.now in
    let parts : items ≡ item ∷ others items = split items item (omega arith) c.item-item.is in
    let same = groups-run items item c.run_of-low.result.2.now got c.ends-least.result.0 c.ends-least.result.1 low high parts c.ends-least.ensures.all c.run_of-low.ensures.same (c.as_slice.ensures.value ∙ c.in_ok-groups-in-len1-up.ensures.ok) in
    if_ok (λ made. made.items ≡ packed (new_groups [] (fronted (choices (written item.set)) got (from_on low (high + 1 - low))))) (λ made. made.items ≡ packed (new_groups [] (by_lengths items)))
    (λ made is. is ∙ same) c.with_lengths.result c.with_lengths.ensures.ok

pub varied-returns-in_ok-groups-in-len1-up-clause-few : goal.varied-returns-in_ok-groups-in-len1-up-clause-few
varied-returns-in_ok-groups-in-len1-up-clause-few t c =
    let items = c.args.items.now in
    let item = c.item-item.result in
    let low = c.run_of-low.result.0 in
    let high = c.run_of-low.result.1 in
    let got = c.as_slice.result.now in
    let parts : items ≡ item ∷ others items = split items item (omega arith) c.item-item.is in
    let same = groups-run items item c.run_of-low.result.2.now got c.ends-least.result.0 c.ends-least.result.1 low high parts c.ends-least.ensures.all c.run_of-low.ensures.same (c.as_slice.ensures.value ∙ c.in_ok-groups-in-len1-up.ensures.ok) in
    few_listed items (packed (new_groups [] (fronted (choices (written item.set)) got (from_on low (high + 1 - low))))) same c.with_lengths.result c.with_lengths.ensures.ok c.with_lengths.ensures.few

pub varied-returns-in_ok-groups-in-len1-up-clause-err : goal.varied-returns-in_ok-groups-in-len1-up-clause-err
varied-returns-in_ok-groups-in-len1-up-clause-err t c =
    let items = c.args.items.now in
    let item = c.item-item.result in
    let low = c.run_of-low.result.0 in
    let high = c.run_of-low.result.1 in
    let got = c.as_slice.result.now in
    let parts : items ≡ item ∷ others items = split items item (omega arith) c.item-item.is in
    let same = groups-run items item c.run_of-low.result.2.now got c.ends-least.result.0 c.ends-least.result.1 low high parts c.ends-least.ensures.all c.run_of-low.ensures.same (c.as_slice.ensures.value ∙ c.in_ok-groups-in-len1-up.ensures.ok) in
    if_err (FailsAfter [] (all_of (fronted (choices (written item.set)) got (from_on low (high + 1 - low))))) (FailsAfter [] (all_of (by_lengths items)))
    (λ e h. fails-run items item got low high e same h) c.with_lengths.result c.with_lengths.ensures.err
