use Rattle.std.proofs.Common.{◌≡◌, take, not}
use Rattle.std.specs.Prelude.{filter}
use Rattle.merge_store.specs.Now.{nodes_now, count_now}
use Rattle.store_views.specs.Views.{is_illegal_hit}
use Rattle.export_page.proofs.chosen.illegal_among.Given as goal

abbrev pub invariant-loop-bin : goal.invariant-loop-bin
invariant-loop-bin l = l.hit.items ≡ filter (is_illegal_hit (nodes_now l.store) (count_now l.store)) (take l.bin-index l.bins)
