use Rattle.std.proofs.Common.{◌≡◌, ◌∙◌, ◌<◌, ◌+◌, length, Some, refl, sym, subst, arith}
use Rattle.std.specs.Prelude.{slice_get}
use Rattle.std.proofs.lemmas.List.{length-set}
use Rattle.sampler.specs.declared.instance.ItemState.{ItemState}
use Rattle.sampler.specs.Standing.{FitsItem, Stands, point_first}
use Rattle.sampler.proofs.Items.{some_first, some_more, some_last, fits_more, read_at}
use Rattle.sampler.proofs.instance.take_crosses.Goals as goal

pub loop-i-init : goal.loop-i-init
loop-i-init c = record {
  plans_len = c.requires.fits.same_plans;
  states_len = c.requires.fits.same;
  counts_len = refl;
  fits = c.requires.fits;
  taken = λ all m sample rows h. some_first c.args.items.now c.args.plans.now c.args.chosen.now all (λ shape. point_first shape m) (λ shape. m + 1) c.args.states.now.items c.args.counts.now h;
}

pub take_cross-requires-clause-plan : goal.take_cross-requires-clause-plan
take_cross-requires-clause-plan c =
    let items = c.args.items.now in
    let plans = c.args.plans.now in
    let chosen = c.args.chosen.now in
    let i = c.loop-i.i in
    let t = c.chosen_at-t.result in
    let item = c.index-items-t.result in
    let p = c.index-plans-t.result in
    let inv = c.loop-i.invariant in
    let at_t : slice_get chosen i ≡ Some t = c.chosen_at-t.ensures.at in
    let lt : t < length items = c.chosen_at-t.ensures.within in
    let at_item : slice_get items t ≡ Some item = read_at items t item lt c.index-items-t.is in
    let at_plan : slice_get plans t ≡ Some p = read_at plans t p (omega (arith, lt, inv.plans_len)) c.index-plans-t.is in
    c.requires.plans t item p at_item at_plan

pub take_cross-requires-clause-fits : goal.take_cross-requires-clause-fits
take_cross-requires-clause-fits c =
    let items = c.args.items.now in
    let plans = c.args.plans.now in
    let chosen = c.args.chosen.now in
    let i = c.loop-i.i in
    let t = c.chosen_at-t.result in
    let item = c.index-items-t.result in
    let p = c.index-plans-t.result in
    let inv = c.loop-i.invariant in
    let at_t : slice_get chosen i ≡ Some t = c.chosen_at-t.ensures.at in
    let lt : t < length items = c.chosen_at-t.ensures.within in
    let at_item : slice_get items t ≡ Some item = read_at items t item lt c.index-items-t.is in
    let at_plan : slice_get plans t ≡ Some p = read_at plans t p (omega (arith, lt, inv.plans_len)) c.index-plans-t.is in
    let state = c.index_mut.result.now in
    subst (λ (s : ItemState). FitsItem item p s) (sym c.index_mut.ensures.value) (inv.fits.at i t item p state at_t at_item at_plan)

pub take_cross-requires-clause-counts : goal.take_cross-requires-clause-counts
take_cross-requires-clause-counts c =
    let items = c.args.items.now in
    let plans = c.args.plans.now in
    let chosen = c.args.chosen.now in
    let i = c.loop-i.i in
    let t = c.chosen_at-t.result in
    let item = c.index-items-t.result in
    let p = c.index-plans-t.result in
    let inv = c.loop-i.invariant in
    let at_t : slice_get chosen i ≡ Some t = c.chosen_at-t.ensures.at in
    let lt : t < length items = c.chosen_at-t.ensures.within in
    let at_item : slice_get items t ≡ Some item = read_at items t item lt c.index-items-t.is in
    let room = c.requires.numbered.room t item at_item in
    omega (arith, room, inv.counts_len)

pub loop-i-preserved : goal.loop-i-preserved
loop-i-preserved c =
    let items = c.args.items.now in
    let plans = c.args.plans.now in
    let chosen = c.args.chosen.now in
    let i = c.loop-i.i in
    let t = c.chosen_at-t.result in
    let item = c.index-items-t.result in
    let p = c.index-plans-t.result in
    let inv = c.loop-i.invariant in
    let at_t : slice_get chosen i ≡ Some t = c.chosen_at-t.ensures.at in
    let lt : t < length items = c.chosen_at-t.ensures.within in
    let at_item : slice_get items t ≡ Some item = read_at items t item lt c.index-items-t.is in
    let at_plan : slice_get plans t ≡ Some p = read_at plans t p (omega (arith, lt, inv.plans_len)) c.index-plans-t.is in
    let state = c.index_mut.result.now in
    let states = c.loop-i.states.items in
    let new = c.take_cross.new.state in
    let inside : i < length states = omega (arith, c.loop-i-test.true, inv.states_len) in
    record {
      plans_len = inv.plans_len;
      states_len = length-set states i new ∙ inv.states_len;
      counts_len = c.take_cross.auto.counts ∙ inv.counts_len;
      fits = fits_more items plans chosen i t item p new c.requires.chosen at_t at_item at_plan states inside c.in_ok-take_cross.ensures.fits inv.fits;
      taken = λ all m sample rows h.
          let some = inv.taken all m sample rows h in
          let before : Stands items item all (point_first item.shape m) item.shape p state c.loop-i.counts = subst (λ (s : ItemState). Stands items item all (point_first item.shape m) item.shape p s c.loop-i.counts) (sym c.index_mut.ensures.value) (some.left i t item p state (omega arith) at_t at_item at_plan) in
          let taken = c.in_ok-take_cross.ensures.taken all m chosen sample (c.requires.chosen.covered t item (i, at_t) at_item) rows before in
          some_more items plans chosen i t item p new c.requires.chosen at_t at_item at_plan all (λ shape. point_first shape m) (λ shape. m + 1) (length c.args.counts.now) c.args.counts.now states c.loop-i.counts c.take_cross.new.counts
          inside c.requires.numbered taken.stands taken.others some;
    }

pub returns-clause-taken : goal.returns-clause-taken
returns-clause-taken c = λ all m sample rows h.
    some_last c.args.items.now c.args.plans.now c.args.chosen.now all (λ shape. point_first shape m) (λ shape. m + 1) c.loop-i.i c.args.counts.now c.loop-i.states.items c.loop-i.counts c.loop-i-test.false (c.loop-i.invariant.taken all m sample rows h)
