use Rattle.std.proofs.Common.{ℕ, List, sym, subst}
use Rattle.std.specs.List.{Contains}
use Rattle.std.proofs.lemmas.List.Elements.{All-contains}
use Rattle.std.proofs.lemmas.List.Sorted.{Contains-permutation, IsPermutation-sym, IsNonDecreasingBy-from_sort}
use Rattle.value_index.specs.Segments.{Ascends}
use Rattle.value_index.specs.Sizes.{all_ends}
use Rattle.value_index.proofs.Cuts.{zero_first}
use Rattle.value_index.proofs.Counted.{ascends_of, zero_end}
use Rattle.value_index.proofs.build.cuts_of.Goals as goal

kept : (c : goal.After-drop-all-2) → (x : ℕ) → Contains (all_ends c.args.sets.now) x → Contains c.in_ok-cuts.cuts.items x
kept c x h = All-contains (Contains c.in_ok-cuts.cuts.items) c.as_slice.result.now x c.in_ok-cuts.ensures.kept
    (subst (λ (xs : List ℕ). Contains xs x) (sym c.as_slice.ensures.value) (Contains-permutation c.in_ok-all.all.items c.sort_unstable.new.self.items x c.sort_unstable.ensures.permutation (subst (λ (xs : List ℕ). Contains xs x) (sym c.in_ok-all.ensures) h)))

only : (c : goal.After-drop-all-2) → (x : ℕ) → Contains c.in_ok-cuts.cuts.items x → Contains (all_ends c.args.sets.now) x
only c x h = subst (λ (xs : List ℕ). Contains xs x) c.in_ok-all.ensures (Contains-permutation c.sort_unstable.new.self.items c.in_ok-all.all.items x (IsPermutation-sym c.in_ok-all.all.items c.sort_unstable.new.self.items c.sort_unstable.ensures.permutation)
    (subst (λ (xs : List ℕ). Contains xs x) c.as_slice.ensures.value (All-contains (Contains c.as_slice.result.now) c.in_ok-cuts.cuts.items x c.in_ok-cuts.ensures.only h)))

pub distinct-requires : goal.distinct-requires
distinct-requires c =
    let up = IsNonDecreasingBy-from_sort (λ x. x) c.sort_unstable.new.self.items c.sort_unstable.ensures.sorted in
    subst Ascends (sym c.as_slice.ensures.value) (record { at = λ i j le lt. up i j 0 le lt })

pub returns-clause-ascends : goal.returns-clause-ascends
returns-clause-ascends c = ascends_of c.in_ok-cuts.cuts.items c.in_ok-cuts.ensures.ascend

pub returns-clause-some : goal.returns-clause-some
returns-clause-some c = (zero_first c.in_ok-cuts.cuts.items (ascends_of c.in_ok-cuts.cuts.items c.in_ok-cuts.ensures.ascend) (kept c 0 (zero_end c.args.sets.now))).0

pub returns-clause-zero : goal.returns-clause-zero
returns-clause-zero c = (zero_first c.in_ok-cuts.cuts.items (ascends_of c.in_ok-cuts.cuts.items c.in_ok-cuts.ensures.ascend) (kept c 0 (zero_end c.args.sets.now))).1

pub returns-clause-are : goal.returns-clause-are
returns-clause-are c = record { ascend = c.in_ok-cuts.ensures.ascend; same = λ x. (only c x, kept c x) }
