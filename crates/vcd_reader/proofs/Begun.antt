-- The steps of times and changes, and a walk over them.
use Rattle.std.proofs.Common.{◌≡◌, ℕ, ◌<◌, List, [], ◌∷◌, map, None, refl, sym, ap, ◌∙◌}
use Rattle.std.specs.Prelude.{replicate}
use Rattle.std.specs.List.{AllByRecursion}
use Rattle.record_codec.specs.declared.record.SignalRow.{SignalRow}
use Rattle.vcd_dump.specs.declared.packing.Item.{Item}
use Rattle.vcd_dump.specs.declared.packing.Item.TheVariants.{Begins, Changes}
use Rattle.vcd_dump.specs.declared.dump.Change.{Change}
use Rattle.vcd_dump.specs.declared.dump.DumpStep.{DumpStep}
use Rattle.vcd_dump.specs.Body.{steps_begun, steps_of}
use Rattle.vcd_reader.specs.declared.watching.Watch.{Watch}
use Rattle.vcd_reader.specs.Held.{unknown, applied}
use Rattle.vcd_reader.specs.Moments.{table_events, events_of}
use Rattle.vcd_reader.specs.Starting.{last_time}
use Rattle.vcd_reader.proofs.Tables.{walk_is}

pub last_of_begun : (items : List Item) → last_time 0 (steps_begun items) ≡ last_time 0 (steps_of items)
unfolding steps_of
last_of_begun [] = refl
last_of_begun (Begins time ∷ items) = refl
last_of_begun (Changes change ∷ items) = refl

pub walk_of : (rows : List SignalRow) (codes : List ℕ) (events : List (List Watch)) (n : ℕ) {time : ℕ} (changes : List Change) (steps all : List DumpStep) → AllByRecursion (λ code. code < n) codes
    → all ≡ record { time = time; changes = changes } ∷ steps → table_events rows codes events (map (λ code. None) codes) (applied changes (replicate n unknown)) steps ≡ events_of rows codes events all
walk_of rows codes events n {time = time} changes steps all below is = walk_is rows codes events n (record { time = time; changes = changes }) steps below ∙ ap (events_of rows codes events) (sym is)
