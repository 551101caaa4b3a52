-- The projected holes of an axis, and the holes that are in none so far.
use Rattle.std.proofs.Common.{◌≡◌, ℕ, ◌+◌, ◌<◌, ◌≤◌, List, [], map, length, get_or, Bool, true, false, not, ◌&&◌, ◌||◌, ◌==◌, refl, sym, ap, ◌∙◌, arith, Option, Some, None}
use Rattle.std.specs.Prelude.{filter, nat_lt, slice_index, slice_index_or}
use Rattle.std.specs.List.{list_any, range_with_len}
use Rattle.std.proofs.lemmas.List.{get_or_past, get_or_read}
use Rattle.std.proofs.lemmas.List.FromFn.{get_or-map-range_with_len, length-map-range_with_len}
use Rattle.std.proofs.lemmas.Bool.{ltb-true, ltb-false}
use Rattle.cross_holes.specs.declared.axes.Axis.{Axis}
use Rattle.cross_holes.specs.declared.holes.ProjectedHole.{ProjectedHole}
use Rattle.cross_holes.specs.Projected.{Cross, axis_of, axis_at, with_member, is_bare, is_projected, is_projected_on, is_said, unsaid, says_more, named, projected_on}
use Rattle.cross_holes.specs.Counts.{AreCounts}
use Rattle.cross_holes.specs.Marks.{marks_of, is_marked, is_new, marked_with}
use Rattle.cross_holes.proofs.Joining.{by_bool, flat_if, filter_twice, filter_same, not_or, any_more, map_below, filter_below}

-- the axis of a number is what is read there
pub axis_read : (axes : List Axis) (number : ℕ) (own : Axis) → number < length axes → own ≡ get_or axes number own → own ≡ slice_index_or axes number (axis_of None)
axis_read axes number own lt e = get_or_read axes number own lt e (axis_of None)

-- the marks that the counts give
pub marks_are : (c : Cross) (axis members : ℕ) (live holes : List ℕ) → AreCounts (c.member axis) members c.live live → AreCounts (c.member axis) members c.holes holes
    → marks_of holes live ≡ map (is_projected c axis) (range_with_len 0 members)
marks_are c axis members live holes l h =
    ap (λ (n : ℕ). map (λ member. is_bare (slice_index holes member) (slice_index live member)) (range_with_len 0 n)) h.long
    ∙ map_below (λ member. is_bare (slice_index holes member) (slice_index live member)) (is_projected c axis) 0 members members (omega arith)
    (λ member lt i. is_bare (h.each member lt i) (l.each member lt i))

marked_at : (f : ℕ → Bool) (n : ℕ) (own : ℕ) → slice_index_or (map f (range_with_len 0 n)) own false ≡ (nat_lt own n && f own)
marked_at f n own =
    by_bool (nat_lt own n)
    (λ k. let lt = ltb-true own n k in let z : 0 + own ≡ own = omega arith in rw k (get_or-map-range_with_len f 0 n own own false lt z))
    (λ k. let le = ltb-false own n k in
    let l = length-map-range_with_len f 0 n in
    rw k (get_or_past (map f (range_with_len 0 n)) own false (omega (arith, le, l))))

module _ (c : Cross) (axis : ℕ) (marks : List Bool) (are : marks ≡ map (is_projected c axis) (range_with_len 0 (length (axis_at c axis).members))) where
  marked_by : (own : Option ℕ) → is_marked marks own ≡ is_marked (map (is_projected c axis) (range_with_len 0 (length (axis_at c axis).members))) own
  marked_by own = ap (λ (ms : List Bool). is_marked ms own) are

  marked_own : (n : ℕ) (own : Option ℕ) → c.member axis n ≡ own → is_marked marks (c.member axis n) ≡ is_projected_on c axis n
  marked_own n None e = rw e refl
  marked_own n (Some own) e = rw e (marked_by (Some own) ∙ marked_at (is_projected c axis) (length (axis_at c axis).members) own)

  pub marked_is : (n : ℕ) → is_marked marks (c.member axis n) ≡ is_projected_on c axis n
  marked_is n = marked_own n (c.member axis n) refl

  pub unsaid_more : (holes rest : List ℕ) → holes ≡ unsaid c axis → rest ≡ filter (λ n. not (is_marked marks (c.member axis n))) holes → rest ≡ unsaid c (axis + 1)
  unsaid_more holes rest h e =
      e ∙ ap (filter (λ n. not (is_marked marks (c.member axis n)))) h
      ∙ filter_twice (λ n. not (is_marked marks (c.member axis n))) (λ n. not (is_said c axis n)) c.holes
      ∙ filter_same (λ n. not (is_said c axis n) && not (is_marked marks (c.member axis n))) (λ n. not (is_said c (axis + 1) n)) each c.holes
    where
      each : (n : ℕ) → (not (is_said c axis n) && not (is_marked marks (c.member axis n))) ≡ not (is_said c (axis + 1) n)
      each n = ap (λ (b : Bool). not (is_said c axis n) && not b) (marked_is n) ∙ not_or (is_said c axis n) (is_projected_on c axis n) ∙ ap not (sym (any_more (λ a. is_projected_on c a n) axis))

  pub projected_more : (own : Axis) (holes counts : List ℕ) → own ≡ axis_at c axis → holes ≡ unsaid c axis → AreCounts (c.member axis) (length own.members) holes counts → marked_with own marks counts ≡ projected_on c axis
  projected_more own holes counts o h are_counts =
      ap (λ (x : Axis). marked_with x marks counts) o
      ∙ flat_if (is_new marks counts) (named (axis_at c axis)) (range_with_len 0 (length (axis_at c axis).members))
      ∙ ap (map (named (axis_at c axis))) (filter_below (is_new marks counts) (says_more c axis) 0 (length (axis_at c axis).members) (length (axis_at c axis).members) (omega arith) each)
    where
      each : (member : ℕ) → member < length (axis_at c axis).members → is_new marks counts member ≡ says_more c axis member
      each member lt =
          let few : member < length own.members = rw o lt in
          let z : 0 + member ≡ member = omega arith in
          let m : slice_index_or marks member false ≡ is_projected c axis member = ap (λ (ms : List Bool). slice_index_or ms member false) are ∙ get_or-map-range_with_len (is_projected c axis) 0 (length (axis_at c axis).members) member member false lt z in
          let k : slice_index counts member ≡ with_member (c.member axis) member (unsaid c axis) = are_counts.each member few ∙ ap (with_member (c.member axis) member) h in
          λ i. m i && nat_lt 0 (k i)
