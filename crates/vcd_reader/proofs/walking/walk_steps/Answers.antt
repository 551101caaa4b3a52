use Rattle.std.proofs.Common.{length, ap, sym, refl, ◌∙◌}
use Rattle.vcd_dump.specs.Packing.{items_in}
use Rattle.vcd_dump.specs.Body.{changes_of, steps_begun}
use Rattle.vcd_reader.specs.Held.{applied}
use Rattle.vcd_reader.proofs.Tables.{table_step, no_steps}
use Rattle.vcd_reader.proofs.Pushes.{goes_on, is_done}
use Rattle.vcd_reader.proofs.walking.walk_steps.Goals as goal

pub loop-later-preserved : goal.loop-later-preserved
loop-later-preserved c =
    let plan = c.args.plan.now in
    let walk = c.loop-later.walk in
    let new = c.step_events.new.walk in
    let e = c.in_ok-made.ensures in
    let tables = c.loop-later.invariant.tables in
    let changes = changes_of (items_in c.in-Some.later.now) in
    let left = table_step plan.rows plan.codes plan.events walk.last.items walk.before.items walk.after.items (steps_begun (items_in c.loop-later.rest.now)) _ (steps_begun (items_in c.in-Some.later.now)) changes c.in_ok-made.made.items new.last.items new.before.items c.in-Some.ensures.step tables refl e.events e.last e.before in
    record {
      so_far = goes_on c.in_ok-made.made.items _ c.loop-later.invariant.so_far left c.in_ok-push_all.ensures;
      tables = e.before ∙ (ap (applied changes) tables ∙ sym e.after);
    }

pub returns : goal.returns
returns c =
    let plan = c.args.plan.now in
    let walk = c.loop-later.walk in
    is_done c.loop-later.invariant.so_far (no_steps plan.rows plan.codes plan.events walk.last.items walk.before.items (steps_begun (items_in c.loop-later.rest.now)) (ap length c.in_default.ensures.step))
