use Rattle.std.proofs.Common.{rules, ◌≡◌, ◌≤◌, [], length, ap, subst, sym, ◌∙◌, arith}
use Rattle.std.specs.Prelude.{false}
use Rattle.std.specs.List.{list_any}
use Rattle.cov_ground.specs.Limits.{most_bins}
use Rattle.trans_seq.specs.Cells.{cells_of_items}
use Rattle.trans_found.specs.Lists.{by_lengths, all_of, listed, is_endless, RefusesToExpand}
use Rattle.trans_found.specs.Found.{FailsAfter, SomeNoList, new_groups, packed}
use Rattle.trans_found.proofs.ListingLemmas.{refuses_after, none_listed, listed_all, short_cells}
use Rattle.trans_lists.proofs.Written.{windows-of}
use Rattle.trans_lists.proofs.listing.expand.Goals as goal

pub returns-then-not-all_have_list-clause-lists : goal.returns-then-not-all_have_list-clause-lists
returns-then-not-all_have_list-clause-lists c =
    let items = c.args.seq.now.items in
    let none : listed items ≡ [] = none_listed items (subst SomeNoList c.as_slice-items.ensures (c.all_have_list.ensures.some c.if-not-all_have_list.true)) in
    record {
      are = c.new.ensures.items ∙ sym none;
      bounded = subst (λ l. list_any is_endless l ≡ false) c.as_slice-items.ensures (sym c.has_unbounded.ensures ∙ c.if-has_unbounded.false);
      short = short_cells (cells_of_items items) c.cells-values.result c.cells-values.ensures c.if-values-gt-MOST_CELLS.false;
      few = omega (arith, ap length none);
    }

pub returns-in_err-groups-clause-refuses : goal.returns-in_err-groups-clause-refuses
returns-in_err-groups-clause-refuses c =
    let items = c.args.seq.now.items in
    let e = c.in_err-groups.field-0.0 in
    let failed : FailsAfter [] (all_of (by_lengths items)) e = subst (λ l. FailsAfter [] (all_of (by_lengths l)) e) c.as_slice-items.ensures c.in_err-groups.ensures.err in
    let refused : RefusesToExpand items e = refuses_after items e
    (subst (λ l. list_any is_endless l ≡ false) c.as_slice-items.ensures (sym c.has_unbounded.ensures ∙ c.if-has_unbounded.false))
    (short_cells (cells_of_items items) c.cells-values.result c.cells-values.ensures c.if-values-gt-MOST_CELLS.false) failed in
    search (rules, refused)

pub returns-clause-lists : goal.returns-clause-lists
returns-clause-lists c =
    let items = c.args.seq.now.items in
    let groups : c.in_ok-groups.groups.items ≡ packed (new_groups [] (by_lengths items)) = subst (λ l. c.in_ok-groups.groups.items ≡ packed (new_groups [] (by_lengths l))) c.as_slice-items.ensures c.in_ok-groups.ensures.ok in
    record {
      are = c.in_ok-flattened.ensures ∙ ap all_of groups ∙ sym (listed_all items);
      bounded = subst (λ l. list_any is_endless l ≡ false) c.as_slice-items.ensures (sym c.has_unbounded.ensures ∙ c.if-has_unbounded.false);
      short = short_cells (cells_of_items items) c.cells-values.result c.cells-values.ensures c.if-values-gt-MOST_CELLS.false;
      few = subst (λ l. length (listed l) ≤ most_bins) c.as_slice-items.ensures c.in_ok-groups.ensures.few;
    }

pub returns-then-not-all_have_list-clause-windows : goal.returns-then-not-all_have_list-clause-windows
returns-then-not-all_have_list-clause-windows c = windows-of c.args.seq.now.items c.new.result.items (returns-then-not-all_have_list-clause-lists c)

pub returns-clause-windows : goal.returns-clause-windows
returns-clause-windows c = windows-of c.args.seq.now.items c.in_ok-flattened.field-0.items (returns-clause-lists c)
