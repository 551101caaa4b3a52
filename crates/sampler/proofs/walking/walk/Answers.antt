use Rattle.std.proofs.Common.{◌≡◌, ◌∙◌, ◌∷◌, ◌<◌, ◌≤◌, ◌+◌, List, length, get_or, drop, ap, sym, subst, arith}
use Rattle.std.proofs.lemmas.List.{drop_more, drop_all}
use Rattle.record_codec.specs.declared.record.Event.{Event}
use Rattle.sampler.specs.Walking.{IsWork, WalkAt}
use Rattle.sampler.proofs.Starts.{all_counted}
use Rattle.sampler.proofs.walking.walk.Goals as goal

pub take_event-requires-clause-work : goal.take_event-requires-clause-work
take_event-requires-clause-work c = subst (IsWork c.args.instances.now c.args.plans.now c.args.share.now) (sym c.loop-event.invariant.counts_len) c.requires.work

pub loop-event-preserved : goal.loop-event-preserved
loop-event-preserved c =
    let r = c.args.rec.now in
    let inv = c.loop-event.invariant in
    let i = c.loop-event.event-index in
    let event = c.event-item.result in
    let lt : i < length r.events = omega (arith, c.loop-event-test.true, ap (λ (xs : List Event). length xs) c.as_slice-event-items.ensures) in
    let is : event ≡ get_or r.events i event = c.event-item.is ∙ ap (λ (xs : List Event). get_or xs i event) c.as_slice-event-items.ensures in
    let left : drop i r.events ≡ event ∷ drop (i + 1) r.events = drop_more r.events i event lt ∙ ap (λ (x : Event). x ∷ drop (i + 1) r.events) (sym is) in
    let now = subst (λ (es : List Event). WalkAt r c.args.instances.now c.args.plans.now c.args.share.now inv.before es c.loop-event.values c.args.counts.now c.loop-event.kept.items c.loop-event.counts) left inv.at in
    record {
      values_len = c.take_event.auto.values ∙ inv.values_len;
      counts_len = c.take_event.auto.counts ∙ inv.counts_len;
      fits = c.in_ok-take_event.ensures.fits;
      before = event ∷ inv.before;
      so_far = omega (arith, inv.so_far);
      at = c.in_ok-take_event.ensures.at c.args.counts.now inv.before (drop (i + 1) r.events) (omega (arith, inv.so_far, lt, c.requires.few)) now;
    }

pub returns : goal.returns
returns c =
    let r = c.args.rec.now in
    let inv = c.loop-event.invariant in
    let past : length r.events ≤ c.loop-event.event-index = omega (arith, c.loop-event-test.false, ap (λ (xs : List Event). length xs) c.as_slice-event-items.ensures) in
    all_counted r c.args.instances.now c.args.plans.now c.args.share.now (length c.args.counts.now) inv.before c.loop-event.values c.args.counts.now c.loop-event.counts c.loop-event.kept.items c.requires.work inv.fits
    (subst (λ (es : List Event). WalkAt r c.args.instances.now c.args.plans.now c.args.share.now inv.before es c.loop-event.values c.args.counts.now c.loop-event.kept.items c.loop-event.counts) (drop_all c.loop-event.event-index r.events past) inv.at)
