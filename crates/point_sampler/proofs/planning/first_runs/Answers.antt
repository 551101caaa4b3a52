use Rattle.std.proofs.Common.{◌≡◌, ◌<◌, ap, sym, subst, ◌∙◌, List, ◌∷◌, [], ℕ, length, get_or, arith, length-append}
use Rattle.trans_auto.specs.State.{Stands}
use Rattle.point_tables.specs.declared.tables.Machine.{Machine}
use Rattle.point_tables.specs.Tables.{removed_by}
use Rattle.point_sampler.proofs.Answering.{first_more}
use Rattle.point_sampler.proofs.planning.first_runs.Goals as goal

pub loop-machine-preserved : goal.loop-machine-preserved
loop-machine-preserved c =
    let machines = c.args.plan.now.machines.items in
    let removers = c.args.plan.now.removers in
    let i = c.loop-machine.machine-index in
    let runs = c.loop-machine.runs.items in
    let machine = c.machine-item.result in
    let inv = c.loop-machine.invariant in
    let new = c.start.result in
    let lt : i < length machines = omega (arith, c.loop-machine-test.true, ap (λ (ms : List Machine). length ms) c.as_slice-machine-items.ensures.value) in
    let is : machine ≡ get_or machines i machine = c.machine-item.is ∙ ap (λ (ms : List Machine). get_or ms i machine) c.as_slice-machine-items.ensures.value in
    record {
      same = omega (arith, ap (λ (rs : List (List (ℕ × ℕ))). length rs) c.in_ok-push.ensures.items, length-append runs (new ∷ []), inv.same);
      stand = λ k d r less within. subst (λ (rs : List (List (ℕ × ℕ))). Stands (get_or machines k d).watcher (removed_by removers (get_or machines k d).kind) (get_or rs k r) []) (sym c.in_ok-push.ensures.items)
          (first_more machines removers runs i machine new inv.same lt is (c.start.ensures.stands (removed_by removers machine.kind)) inv.stand k d r less within);
    }

pub returns-clause-stand : goal.returns-clause-stand
returns-clause-stand c = λ k d r lt. c.loop-machine.invariant.stand k d r
    (omega (arith, lt, c.loop-machine-test.false, ap (λ (ms : List Machine). length ms) c.as_slice-machine-items.ensures.value)) lt
