use Rattle.std.proofs.Common.{◌<◌, ◌∙◌, length, arith, inl, inr}
use Rattle.std.proofs.lemmas.Option.{slice_get_within}
use Rattle.point_sampler.proofs.Meeting.{apart_of, are_met, met_within, met_once}
use Rattle.point_sampler.proofs.point.sample_any.Goals as goal

pub push_value-requires-clause-apart : goal.push_value-requires-clause-apart
push_value-requires-clause-apart c = apart_of c.args.item.now c.args.plan.now c.requires.plan

pub count_met-requires-clause-within : goal.count_met-requires-clause-within
count_met-requires-clause-within c = met_within c.args.item.now c.args.plan.now c.requires.plan c.args.value.now c.push_value.new.state.met.items c.as_slice-2.result.now c.in_ok-push_value.ensures.among (c.as_slice-2.ensures.value ∙ c.in_ok-add_values.ensures)

pub count_met-requires-clause-once : goal.count_met-requires-clause-once
count_met-requires-clause-once c = met_once c.args.item.now c.args.plan.now c.requires.plan c.args.value.now c.push_value.new.state.met.items c.as_slice-2.result.now c.in_ok-push_value.ensures.among (c.as_slice-2.ensures.value ∙ c.in_ok-add_values.ensures) c.in_ok-push_value.ensures.once

pub returns-clause-remembers : goal.returns-clause-remembers
returns-clause-remembers c = λ w h. let r = c.in_ok-push_value.ensures.remembers w h in record { begun = r.begun; runs = r.runs; others = r.others; recent = r.recent }

pub returns-clause-taken : goal.returns-clause-taken
returns-clause-taken c = λ w h. record {
  met = c.as_slice-2.result.now;
  are_met = are_met c.args.item.now c.args.plan.now c.requires.plan w c.args.value.now c.push_value.new.state.met.items c.as_slice-2.result.now (c.in_ok-push_value.ensures.met w h) (c.as_slice-2.ensures.value ∙ c.in_ok-add_values.ensures);
  taken = c.in_ok-count_met.ensures;
}

pub returns-clause-others : goal.returns-clause-others
returns-clause-others c = λ number outside. c.in_ok-count_met.ensures.off number (λ place bin in_met on e.
    let lt : place < length c.args.item.now.bins = slice_get_within c.args.item.now.bins place bin on.is_bin in
    elim outside [ inl below ↦ absurd (omega (arith, below, e)) | inr above ↦ absurd (omega (arith, above, e, lt)) ])

pub push_value-requires-clause-entrances : goal.push_value-requires-clause-entrances
push_value-requires-clause-entrances c = c.requires.plan.entrances
