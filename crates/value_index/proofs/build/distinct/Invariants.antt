use Rattle.std.proofs.Common.{◌≡◌, ℕ, ◌<◌, ◌≤◌, length, take, slice_index, All, Some, None}
use Rattle.std.specs.List.{Contains, AllPairs}
use Rattle.value_index.proofs.build.distinct.Given as goal

abbrev pub invariant-loop-cut : goal.invariant-loop-cut
invariant-loop-cut l = record {
  ascend : AllPairs (λ a b. a < b) l.out.items;
  kept : All (Contains l.out.items) (take l.cut-index l.cuts);
  only : All (Contains l.cuts) l.out.items;
  last : (x : ℕ) → l.last ≡ Some x → Contains l.out.items x;
  top : (x s : ℕ) → l.last ≡ Some x → s < length l.out.items → slice_index l.out.items s ≤ x;
  none : l.last ≡ None → length l.out.items ≡ 0;
  below : (s k : ℕ) → s < length l.out.items → l.cut-index ≤ k → k < length l.cuts → slice_index l.out.items s ≤ slice_index l.cuts k;
}
