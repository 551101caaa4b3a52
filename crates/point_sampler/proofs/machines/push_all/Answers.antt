use Rattle.std.proofs.Common.{ap, sym, subst, ◌∙◌, List, ℕ, cond, ◌++◌, ◌∷◌, []}
use Rattle.point_tables.specs.declared.tables.Machine.{Machine}
use Rattle.point_tables.specs.declared.tables.Entrance.{Entrance}
use Rattle.point_tables.specs.Tables.{AreEntrances}
use Rattle.point_sampler.specs.Points.{RunsStand}
use Rattle.point_sampler.specs.Met.{IsPlaceOf, Answered}
use Rattle.point_sampler.proofs.Answering.{trans_met, trans_among, trans_once, found_ends, found_placed}
use Rattle.point_sampler.proofs.machines.push_all.Goals as goal

pub returns-clause-runs : goal.returns-clause-runs
returns-clause-runs c = λ w runs.
    subst (λ (ms : List Machine). RunsStand ms c.args.plan.now.removers c.push_machines.new.runs (w ++ c.args.value.now ∷ [])) c.as_slice.ensures.value
    (c.in_ok-ended.ensures.runs w (subst (λ (ms : List Machine). RunsStand ms c.args.plan.now.removers c.args.runs.now w) (sym c.as_slice.ensures.value) runs))

pub returns-clause-met : goal.returns-clause-met
returns-clause-met c = λ w later runs others recent.
    let plan = c.args.plan.now in
    let adds = c.in_ok-some.ensures.adds in
    let both = c.push_words.new.met.items in
    trans_met plan w c.args.value.now c.push_machines.new.met.items adds.found both c.add_sequences.new.met.items c.args.begun c.in_ok-ended.ended c.in_ok-some.some c.either-ended.result c.in_ok-alone.alone adds.is_new
    (c.in_ok-add_sequences.ensures ∙ ap (λ (s : List ℕ). cond c.in_ok-alone.alone (both ++ s) both) c.as_slice-3.ensures.value)
    (subst (λ (ms : List Machine). Answered ms plan.removers (w ++ c.args.value.now ∷ []) c.push_machines.new.met.items c.in_ok-ended.ended) c.as_slice.ensures.value
    (c.in_ok-ended.ensures.says w (subst (λ (ms : List Machine). RunsStand ms plan.removers c.args.runs.now w) (sym c.as_slice.ensures.value) runs)))
    (found_ends plan.words c.push_words.new.ending.recent c.push_machines.new.met.items both c.in_ok-some.some adds (w ++ c.args.value.now ∷ []) (c.in_ok-some.ensures.recent w recent))
    adds.is_some c.either-ended.ensures later (λ some. c.in_ok-alone.ensures.says w some others)

pub returns-clause-among : goal.returns-clause-among
returns-clause-among c =
    let plan = c.args.plan.now in
    let adds = c.in_ok-some.ensures.adds in
    let both = c.push_words.new.met.items in
    trans_among plan [] c.args.value.now c.push_machines.new.met.items adds.found both c.add_sequences.new.met.items c.args.begun c.in_ok-ended.ended c.in_ok-some.some c.either-ended.result c.in_ok-alone.alone adds.is_new
    (c.in_ok-add_sequences.ensures ∙ ap (λ (s : List ℕ). cond c.in_ok-alone.alone (both ++ s) both) c.as_slice-3.ensures.value)
    (λ p a. subst (λ (ms : List Machine). IsPlaceOf ms p) c.as_slice.ensures.value (c.in_ok-ended.ensures.among p a))
    (found_placed plan.words c.push_words.new.ending.recent c.push_machines.new.met.items both c.in_ok-some.some adds)

pub returns-clause-once : goal.returns-clause-once
returns-clause-once c =
    let plan = c.args.plan.now in
    let adds = c.in_ok-some.ensures.adds in
    let both = c.push_words.new.met.items in
    trans_once plan [] c.args.value.now c.push_machines.new.met.items adds.found both c.add_sequences.new.met.items c.args.begun c.in_ok-ended.ended c.in_ok-some.some c.either-ended.result c.in_ok-alone.alone adds.is_new
    (c.in_ok-add_sequences.ensures ∙ ap (λ (s : List ℕ). cond c.in_ok-alone.alone (both ++ s) both) c.as_slice-3.ensures.value)
    c.requires.apart (λ p a. subst (λ (ms : List Machine). IsPlaceOf ms p) c.as_slice.ensures.value (c.in_ok-ended.ensures.among p a))
    (found_placed plan.words c.push_words.new.ending.recent c.push_machines.new.met.items both c.in_ok-some.some adds)
    c.in_ok-ended.ensures.once (adds.once c.requires.apart.words_once)

pub push_machines-requires-clause-entrances : goal.push_machines-requires-clause-entrances
push_machines-requires-clause-entrances c =
    subst (λ (ms : List Machine). AreEntrances ms c.as_slice-2.result.now) (sym c.as_slice.ensures.value)
    (subst (λ (es : List Entrance). AreEntrances c.args.plan.now.machines.items es) (sym c.as_slice-2.ensures.value) c.requires.entrances)
