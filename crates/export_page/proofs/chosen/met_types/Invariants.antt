use Rattle.std.proofs.Common.{◌≡◌, take, not}
use Rattle.std.specs.Prelude.{filter}
use Rattle.merge_store.specs.Stores.{opening_of, entries_of}
use Rattle.store_views.specs.Views.{rows_at}
use Rattle.export_page.specs.Views.{is_met}
use Rattle.export_page.proofs.chosen.met_types.Given as goal

abbrev pub invariant-loop-group : goal.invariant-loop-group
invariant-loop-group l = l.met.items ≡ filter (is_met (rows_at (opening_of l.store) (entries_of l.store))) (take l.group-index l.types)
