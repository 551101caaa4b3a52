use Rattle.std.proofs.Common.{◌≡◌, ◌<◌, length, refl, ap, sym, ◌∙◌, arith, true, false, Some, None}
use Rattle.std.specs.Prelude.{map}
use Rattle.std.specs.Arc.{arc_value}
use Rattle.std.proofs.lemmas.List.{length-map, length-set, length-replicate}
use Rattle.rank_report.specs.Steps.{added, added_by, hits_from, less_by, IsBestRow}
use Rattle.rank_report.specs.Ranking.{test_at, tests_of}
use Rattle.rank_report.proofs.RankLemmas.{started, next_reached, next_falls, ends, written, row_inside}
use Rattle.rank_report.proofs.HitsLemmas.{IsOf, is_of}
use Rattle.rank_report.proofs.Rows.{next_best, next_above, fills, first_above}
use Rattle.rank_report.proofs.ranking.rank_sorted.Goals as goal

pub rows-init : goal.rows-init
rows-init g c =
    let marks = c.in_ok-taken.ensures.items_if_clones_equal (λ y e. e) in
    let missing = c.in_ok-missing.missing.items in
    let gains : c.in_ok-gains.gains.items ≡ map (λ hits. added_by hits missing) c.in_ok-hits.hits.items = rw (← c.deref.ensures.value, ← c.deref-2.ensures.value) c.in_ok-gains.ensures in
    let long : length c.in_ok-gains.gains.items ≡ length c.in_ok-hits.hits.items = ap length gains ∙ length-map c.in_ok-hits.hits.items (λ hits. added_by hits missing) in
    record {
      reached = started (map arc_value c.args.tests.now) c.args.wanted.now (length c.args.tests.now) c.new-ranked.result.items missing c.in_ok-taken.taken.items c.new-ranked.ensures.items c.in_ok-missing.ensures.items marks;
      marked = ap length marks ∙ length-replicate (length c.args.tests.now) false;
      paired = ap length c.in_ok-missing.ensures.items;
      kept = long ∙ (ap length c.in_ok-hits.ensures ∙ length-map c.args.tests.now (λ test. hits_from 0 (arc_value test) c.args.wanted.now));
      above = first_above (map (λ hits. added_by hits missing) c.in_ok-hits.hits.items) c.in_ok-gains.gains.items c.in_ok-taken.taken.items gains;
    }

pub next_of-requires-clause-above : goal.next_of-requires-clause-above
next_of-requires-clause-above g c κs within = rw (c.deref-in-rows.ensures.value, c.deref-in-rows-2.ensures.value, c.deref-in-rows-3.ensures.value, c.deref_mut.ensures.value) c.rows.invariant.above

pub rows-preserved : goal.rows-preserved
rows-preserved g c =
    let tests = map arc_value c.args.tests.now in
    let missing = c.rows.missing.items in
    let row = c.in-Some.next in
    let of : IsOf missing c.args.wanted.now = rw (c.rows.invariant.reached.lacks) (is_of c.args.wanted.now (tests_of tests c.rows.ranked.items)) in
    let best : IsBestRow (map (λ test. added test missing) tests) c.rows.taken.items row = next_best arc_value c.args.tests.now c.args.wanted.now c.in_ok-hits.hits.items c.in_ok-hits.ensures c.deref-in-rows.result.now c.deref-in-rows-3.result.now missing c.deref-in-rows-2.result.now c.rows.taken.items c.in_ok-next.field-0 (Some row) of c.deref-in-rows.ensures.value c.deref-in-rows-3.ensures.value c.deref-in-rows-2.ensures.value c.in-Some.is c.in_ok-next.ensures.next in
    let inside : row.test < length c.args.tests.now = omega (arith, row_inside tests c.args.wanted.now c.rows.ranked.items missing c.rows.taken.items c.rows.invariant.reached row best, length-map c.args.tests.now arc_value) in
    let same : length c.fill.new.missing ≡ c.rows.missing.len = omega (arith, c.fill.auto.missing, c.deref_mut-in-Some.ensures.len) in
    let filled = written c.rows.missing.len c.fill.new.missing missing same ∙ (c.fill.ensures ∙ (ap (less_by c.index.result.now) c.deref_mut-in-Some.ensures.value ∙ fills arc_value c.args.tests.now c.args.wanted.now c.in_ok-hits.hits.items c.in_ok-hits.ensures missing row.test c.index.result.now of inside c.index.ensures)) in
    let marked : length c.rows.taken.items ≡ length tests = c.rows.invariant.marked ∙ sym (length-map c.args.tests.now arc_value) in
    let long : length c.next_of.new.gains ≡ c.rows.gains.len = omega (arith, c.next_of.auto.gains, c.deref_mut.ensures.len) in
    let gains = written c.rows.gains.len c.next_of.new.gains c.rows.gains.items long in
    record {
      reached = next_reached tests c.args.wanted.now c.rows.ranked.items c.push.new.self.items missing _ c.rows.taken.items row (test_at tests row.test) c.rows.invariant.reached best marked c.in_ok-push.ensures.items refl filled;
      marked = length-set c.rows.taken.items row.test true ∙ c.rows.invariant.marked;
      paired = ap length filled ∙ (length-map missing _ ∙ c.rows.invariant.paired);
      kept = ap length gains ∙ (omega (arith, c.next_of.auto.gains, c.deref_mut.ensures.value, c.rows.invariant.kept, ap length c.deref_mut.ensures.value));
      above = next_above arc_value c.args.tests.now c.args.wanted.now c.in_ok-hits.hits.items c.in_ok-hits.ensures c.deref-in-rows.result.now c.deref-in-rows-3.result.now missing _ c.deref-in-rows-2.result.now c.rows.taken.items c.next_of.new.gains _ (test_at tests row.test) row.test of c.deref-in-rows.ensures.value c.deref-in-rows-3.ensures.value c.deref-in-rows-2.ensures.value gains filled (omega (arith, inside, c.rows.invariant.marked)) c.in_ok-next.ensures.above;
    }

pub rows-smaller : goal.rows-smaller
rows-smaller g c =
    let tests = map arc_value c.args.tests.now in
    let missing = c.rows.missing.items in
    let row = c.in-Some.next in
    let of : IsOf missing c.args.wanted.now = rw (c.rows.invariant.reached.lacks) (is_of c.args.wanted.now (tests_of tests c.rows.ranked.items)) in
    let best : IsBestRow (map (λ test. added test missing) tests) c.rows.taken.items row = next_best arc_value c.args.tests.now c.args.wanted.now c.in_ok-hits.hits.items c.in_ok-hits.ensures c.deref-in-rows.result.now c.deref-in-rows-3.result.now missing c.deref-in-rows-2.result.now c.rows.taken.items c.in_ok-next.field-0 (Some row) of c.deref-in-rows.ensures.value c.deref-in-rows-3.ensures.value c.deref-in-rows-2.ensures.value c.in-Some.is c.in_ok-next.ensures.next in
    let inside : row.test < length c.args.tests.now = omega (arith, row_inside tests c.args.wanted.now c.rows.ranked.items missing c.rows.taken.items c.rows.invariant.reached row best, length-map c.args.tests.now arc_value) in
    let same : length c.fill.new.missing ≡ c.rows.missing.len = omega (arith, c.fill.auto.missing, c.deref_mut-in-Some.ensures.len) in
    let filled = written c.rows.missing.len c.fill.new.missing missing same ∙ (c.fill.ensures ∙ (ap (less_by c.index.result.now) c.deref_mut-in-Some.ensures.value ∙ fills arc_value c.args.tests.now c.args.wanted.now c.in_ok-hits.hits.items c.in_ok-hits.ensures missing row.test c.index.result.now of inside c.index.ensures)) in
    next_falls tests c.args.wanted.now c.rows.ranked.items missing _ c.rows.taken.items row (test_at tests row.test) c.rows.invariant.reached best refl filled

pub returns : goal.returns
returns g c =
    let tests = map arc_value c.args.tests.now in
    let missing = c.rows.missing.items in
    let of : IsOf missing c.args.wanted.now = rw (c.rows.invariant.reached.lacks) (is_of c.args.wanted.now (tests_of tests c.rows.ranked.items)) in
    let none = next_best arc_value c.args.tests.now c.args.wanted.now c.in_ok-hits.hits.items c.in_ok-hits.ensures c.deref-in-rows.result.now c.deref-in-rows-3.result.now missing c.deref-in-rows-2.result.now c.rows.taken.items c.in_ok-next.field-0 None of c.deref-in-rows.ensures.value c.deref-in-rows-3.ensures.value c.deref-in-rows-2.ensures.value c.in_default.is c.in_ok-next.ensures.next in
    rw c.of.ensures (ends tests c.args.wanted.now c.rows.ranked.items missing c.rows.taken.items c.rows.invariant.reached none)
