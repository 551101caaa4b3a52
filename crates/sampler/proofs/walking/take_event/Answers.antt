use Rattle.std.proofs.Common.{◌≡◌, ◌∷◌, ◌∙◌, ℕ, List, sym, subst}
use Rattle.record_codec.specs.declared.record.Event.{Event}
use Rattle.sampler.specs.Walking.{WalkAt}
use Rattle.sampler.proofs.walking.take_event.Goals.{in-Sample+else-take_quick, in_default}
use Rattle.sampler.proofs.walking.take_event.Goals as goal

pub returns-then-take_quick-clause-at : goal.returns-then-take_quick-clause-at
returns-then-take_quick-clause-at c = λ start before events few h.
    let r = c.args.rec.now in
    let instances = c.args.instances.now in
    let plans = c.args.plans.now in
    let share = c.args.share.now in
    let values = c.args.values.now in
    let kept = c.args.kept.now.items in
    let counts = c.args.counts.now in
    subst (λ (e : Event). WalkAt r instances plans share (e ∷ before) events values start kept c.take_quick.new.counts) (sym c.in-Sample.is)
    (c.take_quick.ensures.at c.if-take_quick.true start c.in-Sample.args before events few
    (subst (λ (e : Event). WalkAt r instances plans share before (e ∷ events) values start kept counts) c.in-Sample.is h))

pub returns-clause-at : goal.returns-clause-at
returns-clause-at c = λ start before events few h.
    let r = c.args.rec.now in
    let instances = c.args.instances.now in
    let plans = c.args.plans.now in
    let share = c.args.share.now in
    let values = c.args.values.now in
    let kept = c.args.kept.now.items in
    let same : c.match-event.counts ≡ c.args.counts.now = elim c.match-event.branch [
      | in-Sample+else-take_quick w ↦ w.counts-is ∙ w.take_quick.ensures.same w.if-take_quick.false
      | in_default w ↦ w.counts-is
    ] in
    c.in_ok-take_any.ensures.at start before events few (subst (λ (counts : List ℕ). WalkAt r instances plans share before (c.args.event.now ∷ events) values start kept counts) (sym same) h)
