use Rattle.std.proofs.Common.{◌≡◌, ◌∙◌, ◌<◌, length, Some, refl, sym, subst, arith}
use Rattle.std.specs.Prelude.{slice_get}
use Rattle.std.proofs.lemmas.List.{length-set}
use Rattle.sampler.specs.declared.instance.ItemState.{ItemState}
use Rattle.sampler.specs.Standing.{FitsItem, Stands, point_first}
use Rattle.sampler.proofs.Alone.{points_more, points_all}
use Rattle.sampler.proofs.Items.{some_first, some_more, some_last, fits_more, read_at, rows_more, rows_all}
use Rattle.sampler.proofs.instance.take_points.Goals as goal

pub loop-i-init : goal.loop-i-init
loop-i-init c = record {
  plans_len = c.requires.fits.same_plans;
  states_len = c.requires.fits.same;
  rows_len = c.requires.rows;
  counts_len = refl;
  fits = c.requires.fits;
  taken = λ all m sample h. some_first c.args.items.now c.args.plans.now c.args.chosen.now all (λ shape. m) (λ shape. point_first shape m) c.args.states.now.items c.args.counts.now h;
  hit = λ all m sample h i k item lt. absurd (omega (arith, lt));
  alone = λ alone i k item lt. absurd (omega (arith, lt));
}

pub take_point_at-requires-clause-plan : goal.take_point_at-requires-clause-plan
take_point_at-requires-clause-plan c =
    let items = c.args.items.now in
    let plans = c.args.plans.now in
    let chosen = c.args.chosen.now in
    let i = c.loop-i.i in
    let t = c.chosen_at-t.result in
    let item = c.index-items-t.result in
    let p = c.index-plans-t.result in
    let inv = c.loop-i.invariant in
    let at_t : slice_get chosen i ≡ Some t = c.chosen_at-t.ensures.at in
    let lt : t < length items = c.chosen_at-t.ensures.within in
    let at_item : slice_get items t ≡ Some item = read_at items t item lt c.index-items-t.is in
    let at_plan : slice_get plans t ≡ Some p = read_at plans t p (omega (arith, lt, inv.plans_len)) c.index-plans-t.is in
    c.requires.plans t item p at_item at_plan

pub take_point_at-requires-clause-fits : goal.take_point_at-requires-clause-fits
take_point_at-requires-clause-fits c =
    let items = c.args.items.now in
    let plans = c.args.plans.now in
    let chosen = c.args.chosen.now in
    let i = c.loop-i.i in
    let t = c.chosen_at-t.result in
    let item = c.index-items-t.result in
    let p = c.index-plans-t.result in
    let inv = c.loop-i.invariant in
    let at_t : slice_get chosen i ≡ Some t = c.chosen_at-t.ensures.at in
    let lt : t < length items = c.chosen_at-t.ensures.within in
    let at_item : slice_get items t ≡ Some item = read_at items t item lt c.index-items-t.is in
    let at_plan : slice_get plans t ≡ Some p = read_at plans t p (omega (arith, lt, inv.plans_len)) c.index-plans-t.is in
    let state = c.index_mut.result.now in
    subst (λ (s : ItemState). FitsItem item p s) (sym c.index_mut.ensures.value) (inv.fits.at i t item p state at_t at_item at_plan)

pub take_point_at-requires-clause-counts : goal.take_point_at-requires-clause-counts
take_point_at-requires-clause-counts c =
    let items = c.args.items.now in
    let plans = c.args.plans.now in
    let chosen = c.args.chosen.now in
    let i = c.loop-i.i in
    let t = c.chosen_at-t.result in
    let item = c.index-items-t.result in
    let p = c.index-plans-t.result in
    let inv = c.loop-i.invariant in
    let at_t : slice_get chosen i ≡ Some t = c.chosen_at-t.ensures.at in
    let lt : t < length items = c.chosen_at-t.ensures.within in
    let at_item : slice_get items t ≡ Some item = read_at items t item lt c.index-items-t.is in
    let room = c.requires.numbered.room t item at_item in
    omega (arith, room, inv.counts_len)

pub take_point_at-requires-clause-row : goal.take_point_at-requires-clause-row
take_point_at-requires-clause-row c =
    let items = c.args.items.now in
    let plans = c.args.plans.now in
    let chosen = c.args.chosen.now in
    let i = c.loop-i.i in
    let t = c.chosen_at-t.result in
    let item = c.index-items-t.result in
    let p = c.index-plans-t.result in
    let inv = c.loop-i.invariant in
    let at_t : slice_get chosen i ≡ Some t = c.chosen_at-t.ensures.at in
    let lt : t < length items = c.chosen_at-t.ensures.within in
    omega (arith, lt, inv.rows_len)

pub loop-i-preserved : goal.loop-i-preserved
loop-i-preserved c =
    let items = c.args.items.now in
    let plans = c.args.plans.now in
    let chosen = c.args.chosen.now in
    let i = c.loop-i.i in
    let t = c.chosen_at-t.result in
    let item = c.index-items-t.result in
    let p = c.index-plans-t.result in
    let inv = c.loop-i.invariant in
    let at_t : slice_get chosen i ≡ Some t = c.chosen_at-t.ensures.at in
    let lt : t < length items = c.chosen_at-t.ensures.within in
    let at_item : slice_get items t ≡ Some item = read_at items t item lt c.index-items-t.is in
    let at_plan : slice_get plans t ≡ Some p = read_at plans t p (omega (arith, lt, inv.plans_len)) c.index-plans-t.is in
    let state = c.index_mut.result.now in
    let states = c.loop-i.states.items in
    let new = c.take_point_at.new.state in
    let inside : i < length states = omega (arith, c.loop-i-test.true, inv.states_len) in
    record {
      plans_len = inv.plans_len;
      states_len = length-set states i new ∙ inv.states_len;
      rows_len = c.in_ok-take_point_at.ensures.rows ∙ inv.rows_len;
      counts_len = c.take_point_at.auto.counts ∙ inv.counts_len;
      fits = fits_more items plans chosen i t item p new c.requires.chosen at_t at_item at_plan states inside c.in_ok-take_point_at.ensures.fits inv.fits;
      taken = λ all m sample h.
          let some = inv.taken all m sample h in
          let before : Stands items item all m item.shape p state c.loop-i.counts = subst (λ (s : ItemState). Stands items item all m item.shape p s c.loop-i.counts) (sym c.index_mut.ensures.value) (some.left i t item p state (omega arith) at_t at_item at_plan) in
          some_more items plans chosen i t item p new c.requires.chosen at_t at_item at_plan all (λ shape. m) (λ shape. point_first shape m) (length c.args.counts.now) c.args.counts.now states c.loop-i.counts c.take_point_at.new.counts
          inside c.requires.numbered (c.in_ok-take_point_at.ensures.stands all m sample before) c.in_ok-take_point_at.ensures.others some;
      hit = λ all m sample h.
          let some = inv.taken all m sample h in
          let before : Stands items item all m item.shape p state c.loop-i.counts = subst (λ (s : ItemState). Stands items item all m item.shape p s c.loop-i.counts) (sym c.index_mut.ensures.value) (some.left i t item p state (omega arith) at_t at_item at_plan) in
          rows_more items chosen all m i t c.loop-i.rows.items c.take_point_at.new.rows.items item c.requires.chosen at_t at_item (c.in_ok-take_point_at.ensures.row all m sample before) c.in_ok-take_point_at.ensures.other_rows (inv.hit all m sample h);
      alone = λ alone.
          let each = c.both-alone.ensures alone in
          points_more items chosen i t item at_t at_item (sym c.is_point.ensures ∙ each.1) (inv.alone each.0);
    }

pub returns-clause-taken : goal.returns-clause-taken
returns-clause-taken c = λ all m sample h.
    some_last c.args.items.now c.args.plans.now c.args.chosen.now all (λ shape. m) (λ shape. point_first shape m) c.loop-i.i c.args.counts.now c.loop-i.states.items c.loop-i.counts c.loop-i-test.false (c.loop-i.invariant.taken all m sample h)

pub returns-clause-hit : goal.returns-clause-hit
returns-clause-hit c = λ all m sample h. rows_all c.args.items.now c.args.chosen.now all m c.loop-i.i c.loop-i.rows.items c.loop-i-test.false (c.loop-i.invariant.hit all m sample h)

pub returns-clause-alone : goal.returns-clause-alone
returns-clause-alone c = λ alone. points_all c.args.items.now c.args.chosen.now c.loop-i.i c.loop-i-test.false (c.loop-i.invariant.alone alone)
