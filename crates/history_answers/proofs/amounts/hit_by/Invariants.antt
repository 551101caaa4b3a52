use Rattle.std.proofs.Common.{◌≡◌, ◌*◌, ◌≤◌, take}
use Rattle.std.specs.Prelude.{◌^◌}
use Rattle.history_answers.specs.Kept.{hit_by}
use Rattle.history_answers.proofs.amounts.hit_by.Given as goal

abbrev pub invariant-loop-test : goal.invariant-loop-test
invariant-loop-test l = (l.hits ≡ hit_by (take l.test-index l.tests)) × (l.hits ≤ l.test-index * 2 ^ 64)
