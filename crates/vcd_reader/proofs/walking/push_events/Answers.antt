use Rattle.std.proofs.Common.{◌≡◌, ℕ, ◌<◌, List, length, map, None, sym, ap, subst, ◌∙◌}
use Rattle.std.specs.Prelude.{replicate}
use Rattle.std.specs.List.{AllByRecursion}
use Rattle.record_codec.specs.declared.record.Event.{Event}
use Rattle.vcd_dump.specs.declared.dump.DumpStep.{DumpStep}
use Rattle.vcd_dump.specs.Packing.{items_in}
use Rattle.vcd_dump.specs.Body.{changes_of, steps_begun}
use Rattle.vcd_reader.specs.Held.{unknown, applied}
use Rattle.vcd_reader.specs.Moments.{table_events}
use Rattle.vcd_reader.specs.Pushing.{Pushed}
use Rattle.vcd_reader.proofs.Begun.{walk_of}
use Rattle.vcd_reader.proofs.Tables.{no_events}
use Rattle.vcd_reader.proofs.Pushes.{nothing_pushed}
use Rattle.vcd_reader.proofs.walking.push_events.Goals as goal

pub returns-in_default : goal.returns-in_default
returns-in_default c =
    let plan = c.args.plan.now in
    let b = c.args.builder.now in
    let none = ap (λ (steps : List DumpStep). length steps) (sym c.as_bytes.ensures ∙ c.in_default.ensures) in
    subst (λ (es : List Event). Pushed b b es) (sym (no_events plan.rows plan.codes plan.events c.args.steps.now none)) (nothing_pushed b)

pub returns : goal.returns
returns c =
    let plan = c.args.plan.now in
    let walk = c.in_ok-walk.walk in
    let n = c.table_len.result in
    let is = c.as_slice-codes.ensures in
    let changes = changes_of (items_in c.in-Some.changes.now) in
    let later = steps_begun (items_in c.in-Some.changes.now) in
    let all : AllByRecursion (λ code. code < n) plan.codes = subst (λ (codes : List ℕ). AllByRecursion (λ code. code < n) codes) is c.table_len.ensures in
    let last : walk.last.items ≡ map (λ code. None) plan.codes = c.in_ok-walk.ensures.last ∙ ap (λ (codes : List ℕ). map (λ code. None) codes) is in
    let before : walk.before.items ≡ applied changes (replicate n unknown) = c.in_ok-walk.ensures.before in
    let by_table : table_events plan.rows plan.codes plan.events walk.last.items walk.before.items later ≡ table_events plan.rows plan.codes plan.events (map (λ code. None) plan.codes) (applied changes (replicate n unknown)) later =
    λ i. table_events plan.rows plan.codes plan.events (last i) (before i) later in
    let all_of_it = by_table ∙ walk_of plan.rows plan.codes plan.events n changes later c.args.steps.now all (sym c.as_bytes.ensures ∙ c.in-Some.ensures) in
    subst (λ (es : List Event). Pushed c.args.builder.now c.walk_steps.new.builder es) all_of_it c.in_ok-walk_steps.ensures
