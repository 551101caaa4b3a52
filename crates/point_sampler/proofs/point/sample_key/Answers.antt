use Rattle.std.proofs.Common.{◌<◌, ◌∙◌, ap, sym, [], length, refl, arith, inl, inr}
use Rattle.std.proofs.lemmas.Option.{slice_get_within}
use Rattle.design_data.specs.declared.infos.BinInfo.{BinInfo}
use Rattle.design_data.specs.Laws.{Value}
use Rattle.point_tables.specs.Tables.{places_from, has_value}
use Rattle.point_sampler.proofs.Meeting.{are_met, met_within, met_once}
use Rattle.point_sampler.proofs.Still.{still_met, none_among, none_once}
use Rattle.point_sampler.proofs.point.sample_key.Goals as goal

pub count_met-requires-clause-within : goal.count_met-requires-clause-within
count_met-requires-clause-within c =
    let found = c.requires.lookup in
    met_within c.args.item.now c.args.plan.now c.requires.plan c.args.value.now [] c.hits-hits.result.now (none_among c.args.plan.now [] refl)
    (c.hits-hits.ensures found.sets found.finds ∙ found.meets c.args.key (omega arith)
    ∙ sym (ap (λ (v : Value). places_from (λ (bin : BinInfo). has_value c.args.item.now.bins v bin.rule) 0 c.args.item.now.bins) c.requires.key))

pub count_met-requires-clause-once : goal.count_met-requires-clause-once
count_met-requires-clause-once c =
    let found = c.requires.lookup in
    met_once c.args.item.now c.args.plan.now c.requires.plan c.args.value.now [] c.hits-hits.result.now (none_among c.args.plan.now [] refl)
    (c.hits-hits.ensures found.sets found.finds ∙ found.meets c.args.key (omega arith)
    ∙ sym (ap (λ (v : Value). places_from (λ (bin : BinInfo). has_value c.args.item.now.bins v bin.rule) 0 c.args.item.now.bins) c.requires.key))
    (none_once [] refl)

pub returns-clause-taken : goal.returns-clause-taken
returns-clause-taken c = let found = c.requires.lookup in λ w. record {
  met = c.hits-hits.result.now;
  are_met = are_met c.args.item.now c.args.plan.now c.requires.plan w c.args.value.now [] c.hits-hits.result.now
      (still_met c.args.plan.now c.requires.still.0 c.requires.still.1 c.requires.still.2 w c.args.value.now [] refl)
      (c.hits-hits.ensures found.sets found.finds ∙ found.meets c.args.key (omega arith)
      ∙ sym (ap (λ (v : Value). places_from (λ (bin : BinInfo). has_value c.args.item.now.bins v bin.rule) 0 c.args.item.now.bins) c.requires.key));
  taken = c.in_ok-count_met.ensures;
}

pub returns-clause-others : goal.returns-clause-others
returns-clause-others c = λ number outside. c.in_ok-count_met.ensures.off number (λ place bin in_met on e.
    let lt : place < length c.args.item.now.bins = slice_get_within c.args.item.now.bins place bin on.is_bin in
    elim outside [ inl below ↦ absurd (omega (arith, below, e)) | inr above ↦ absurd (omega (arith, above, e, lt)) ])
