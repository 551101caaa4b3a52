use Rattle.std.proofs.Common.{◌≡◌, take, not}
use Rattle.std.specs.Prelude.{filter}
use Rattle.merge_store.specs.Now.{excluded_now}
use Rattle.export_page.proofs.chosen.out_among.Given as goal

abbrev pub invariant-loop-bin : goal.invariant-loop-bin
invariant-loop-bin l = l.out.items ≡ filter (excluded_now l.store) (take l.bin-index l.bins)
