use Rattle.std.proofs.Common.{◌≡◌, ◌∙◌, ◌<◌, ◌+◌, ◌∷◌, [], List, ℕ, length, ap, arith, length-append, Some}
use Rattle.std.specs.Prelude.{slice_get}
use Rattle.std.proofs.lemmas.Option.{slice_get_within}
use Rattle.sampler_plans.proofs.Places.{each_push}
use Rattle.sampler.specs.declared.instance.ItemState.{ItemState}
use Rattle.sampler.proofs.Items.{read_at}
use Rattle.sampler.proofs.Starts.{FitsAt, StartsAt, fits_here, starts_here}
use Rattle.sampler.proofs.starting.item_states.Goals as goal

pub item_state-requires : goal.item_state-requires
item_state-requires c =
    let items = c.args.items.now in
    let plans = c.args.plans.now in
    let chosen = c.args.chosen.now in
    let t = c.chosen_at-t.result in
    let item = c.index-items-t.result in
    let p = c.index-plans-t.result in
    let lt : t < length items = c.chosen_at-t.ensures.within in
    c.requires.plans t item p (read_at items t item lt c.index-items-t.is) (read_at plans t p (omega (arith, lt, c.requires.same)) c.index-plans-t.is)

pub loop-i-preserved : goal.loop-i-preserved
loop-i-preserved c =
    let items = c.args.items.now in
    let plans = c.args.plans.now in
    let chosen = c.args.chosen.now in
    let i = c.loop-i.i in
    let t = c.chosen_at-t.result in
    let states = c.loop-i.states.items in
    let new = c.push.new.self.items in
    let item = c.index-items-t.result in
    let p = c.index-plans-t.result in
    let state = c.in_ok-item_state.field-0 in
    let inv = c.loop-i.invariant in
    let at_t : slice_get chosen i ≡ Some t = c.chosen_at-t.ensures.at in
    let lt : t < length items = c.chosen_at-t.ensures.within in
    let at_item : slice_get items t ≡ Some item = read_at items t item lt c.index-items-t.is in
    let at_plan : slice_get plans t ≡ Some p = read_at plans t p (omega (arith, lt, c.requires.same)) c.index-plans-t.is in
    record {
      same = ap (λ (xs : List ItemState). length xs) c.in_ok-push.ensures.items ∙ length-append states (state ∷ []) ∙ ap (λ (n : ℕ). n + 1) inv.same;
      fits = each_push (FitsAt items plans chosen) states new i state inv.same c.in_ok-push.ensures.items (fits_here items plans chosen i t item p state at_t at_item at_plan c.in_ok-item_state.ensures.fits) inv.fits;
      stands = λ all counts zero. each_push (StartsAt items plans chosen all counts) states new i state inv.same c.in_ok-push.ensures.items (starts_here items plans chosen i t item p state at_t at_item at_plan all counts zero c.in_ok-item_state.ensures.stands) (inv.stands all counts zero);
    }

pub returns-clause-fits : goal.returns-clause-fits
returns-clause-fits c = record {
  same_plans = c.requires.same;
  same = omega (arith, c.loop-i.invariant.same);
  at = λ i k item p s ck e f. c.loop-i.invariant.fits i s (omega (arith, slice_get_within c.args.chosen.now i k ck, c.loop-i-test.false)) k item p ck e f;
}

pub returns-clause-stands : goal.returns-clause-stands
returns-clause-stands c = λ all counts zero i k item p s ck e f.
    c.loop-i.invariant.stands all counts zero i s (omega (arith, slice_get_within c.args.chosen.now i k ck, c.loop-i-test.false)) k item p ck e f
