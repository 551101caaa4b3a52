use Rattle.std.proofs.Common.{◌≡◌, take, not}
use Rattle.std.specs.Prelude.{filter}
use Rattle.merge_store.specs.Now.{excluded_now}
use Rattle.export_page.proofs.chosen.live_types.Given as goal

abbrev pub invariant-loop-group : goal.invariant-loop-group
invariant-loop-group l = l.live.items ≡ filter (λ n. not (excluded_now l.store n)) (take l.group-index l.types)
