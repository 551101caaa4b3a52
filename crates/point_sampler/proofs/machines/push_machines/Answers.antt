use Rattle.std.proofs.Common.{◌≡◌, ◌<◌, ◌≤◌, ◌+◌, false, ap, sym, subst, ◌∙◌, List, ◌++◌, ◌∷◌, [], length, get_or, take, ℕ, arith, refl}
use Rattle.std.specs.Prelude.{Contains, slice_set}
use Rattle.std.proofs.lemmas.List.{take_more, take_all, length-set}
use Rattle.design_data.specs.Laws.{Value}
use Rattle.point_tables.specs.declared.tables.Machine.{Machine}
use Rattle.trans_auto.specs.State.{Stands}
use Rattle.point_tables.specs.Tables.{removed_by}
use Rattle.point_sampler.specs.Points.{RunsStand}
use Rattle.point_sampler.specs.Met.{IsPlaceOf, Answered, SomeTaken}
use Rattle.point_tables.proofs.Places.{in_none}
use Rattle.point_sampler.proofs.Answering.{answered_none, answered_more, taken_first, taken_more, taken_last, among_more, once_more}
use Rattle.point_sampler.proofs.Passing.{taken_over, answered_over, among_over}
use Rattle.point_sampler.proofs.machines.push_machines.Goals as goal

pub loop-k-init : goal.loop-k-init
loop-k-init c =
    let machines = c.args.machines.now in
    let removers = c.args.removers.now in
    let runs = c.args.runs.now in
    let v = c.args.value.now in
    let to = c.first_stirring-k.result in
    let within : to ≤ length machines = omega (arith, c.first_stirring-k.ensures.within, c.requires.fits) in
    let first : (w : List Value) → RunsStand machines removers runs w → SomeTaken machines removers w v 0 runs = λ w h. taken_first machines removers w v runs 0 refl h in
    record {
      same = c.requires.fits;
      order = within;
      ready = c.requires.ready;
      among = λ p in_met. absurd (in_none p (subst (λ (m : List ℕ). Contains m p) c.requires.none in_met));
      once = λ i j d lt within. absurd (omega (arith, within, ap (λ (m : List ℕ). length m) c.requires.none));
      runs = λ w h. taken_over machines c.args.entrances.now removers v c.requires.entrances runs 0 to (omega arith) within c.first_stirring-k.ensures.rest w (first w h);
      says = λ w h. answered_over machines c.args.entrances.now removers v c.requires.entrances runs 0 to (omega arith) within c.first_stirring-k.ensures.rest w c.args.met.now.items false (first w h)
          (answered_none removers (w ++ v ∷ []) c.args.met.now.items false c.requires.none refl);
    }

pub loop-k-preserved : goal.loop-k-preserved
loop-k-preserved c =
    let machines = c.args.machines.now in
    let entrances = c.args.entrances.now in
    let removers = c.args.removers.now in
    let v = c.args.value.now in
    let k = c.loop-k.k in
    let machine = c.index-machines-k.result in
    let inv = c.loop-k.invariant in
    let lt : k < length machines = c.loop-k-test.true in
    let is : machine ≡ get_or machines k machine = c.index-machines-k.is in
    let more : take (k + 1) machines ≡ take k machines ++ machine ∷ [] = take_more machines k machine lt ∙ ap (λ (m : Machine). take k machines ++ m ∷ []) (sym is) in
    let old = get_or c.loop-k.runs k c.index-runs-k.result in
    let new = slice_set c.loop-k.runs k c.push_machine.new.runs in
    let met = c.note.new.met.items in
    let to = c.first_stirring-k-in-loop-k.result in
    let same : length new ≡ length machines = length-set c.loop-k.runs k c.push_machine.new.runs ∙ inv.same in
    let order : k + 1 ≤ to = c.first_stirring-k-in-loop-k.ensures.order in
    let within : to ≤ length machines = omega (arith, c.first_stirring-k-in-loop-k.ensures.within, same) in
    let here : (w : List Value) → SomeTaken machines removers w v k c.loop-k.runs → Stands machine.watcher (removed_by removers machine.kind) old w =
    λ w some. subst (λ (m : Machine). Stands m.watcher (removed_by removers m.kind) old w) (sym is) (some.left k machine c.index-runs-k.result (omega arith) lt) in
    let next : (w : List Value) → RunsStand machines removers c.args.runs.now w → SomeTaken machines removers w v (k + 1) new =
    λ w h. taken_more machines removers w v c.loop-k.runs k machine c.push_machine.new.runs lt inv.same is (c.in_ok-answer.ensures.stands w (here w (inv.runs w h))) (inv.runs w h) in
    record {
      same = same;
      order = within;
      ready = c.in_ok-answer.ensures.ready;
      among = among_over machines (k + 1) to met order within
          (subst (λ (ms : List Machine). (p : ℕ) → Contains met p → IsPlaceOf ms p) (sym more) (among_more (take k machines) machine c.in_ok-answer.answer.counts c.loop-k.met.items met c.in_ok-note.ensures inv.among));
      once = once_more machines k machine c.in_ok-answer.answer.counts c.loop-k.met.items met c.requires.ascend lt is c.in_ok-note.ensures inv.among inv.once;
      runs = λ w h. taken_over machines entrances removers v c.requires.entrances new (k + 1) to order within c.first_stirring-k-in-loop-k.ensures.rest w (next w h);
      says = λ w h. answered_over machines entrances removers v c.requires.entrances new (k + 1) to order within c.first_stirring-k-in-loop-k.ensures.rest w met c.either-ended.result (next w h)
          (subst (λ (ms : List Machine). Answered ms removers (w ++ v ∷ []) met c.either-ended.result) (sym more)
          (answered_more removers (w ++ v ∷ []) (take k machines) machine c.in_ok-answer.answer.counts c.in_ok-answer.answer.ends c.loop-k.met.items met c.loop-k.ended c.either-ended.result (inv.says w h)
          (c.in_ok-answer.ensures.counts w (here w (inv.runs w h))) (c.in_ok-answer.ensures.ends w (here w (inv.runs w h))) c.in_ok-note.ensures c.either-ended.ensures));
    }

pub returns-clause-runs : goal.returns-clause-runs
returns-clause-runs c = λ w h. taken_last c.args.machines.now c.args.removers.now w c.args.value.now c.loop-k.runs c.loop-k.k c.loop-k-test.false (c.loop-k.invariant.runs w h)

pub returns-clause-among : goal.returns-clause-among
returns-clause-among c = λ p in_met. subst (λ (ms : List Machine). IsPlaceOf ms p) (take_all c.loop-k.k c.args.machines.now c.loop-k-test.false) (c.loop-k.invariant.among p in_met)
