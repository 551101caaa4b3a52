use Rattle.std.proofs.Common.{◌≡◌, ◌*◌, ◌≤◌, take}
use Rattle.std.specs.Prelude.{◌^◌}
use Rattle.history_answers.specs.Kept.{total}
use Rattle.history_answers.proofs.queries.total.Given as goal

abbrev pub invariant-loop-test : goal.invariant-loop-test
invariant-loop-test l = (l.total ≡ total (take l.test-index l.tests) l.bin) × (l.total ≤ l.test-index * 2 ^ 64)
