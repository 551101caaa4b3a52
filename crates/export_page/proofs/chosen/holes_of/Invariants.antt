use Rattle.std.proofs.Common.{◌≡◌, take, not}
use Rattle.std.specs.Prelude.{filter}
use Rattle.merge_store.specs.Now.{nodes_now, count_now, excluded_now}
use Rattle.export_page.specs.Views.{is_hole}
use Rattle.export_page.proofs.chosen.holes_of.Given as goal

abbrev pub invariant-loop-bin : goal.invariant-loop-bin
invariant-loop-bin l = l.holes.items ≡ filter (is_hole (nodes_now l.store) (count_now l.store) (excluded_now l.store)) (take l.bin-index l.bins)
