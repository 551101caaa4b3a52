use Rattle.std.proofs.Common.{◌≡◌, ◌+◌, ◌-◌, length, take, true}
use Rattle.std.specs.Prelude.{sum_by}
use Rattle.std.specs.List.{list_all, AllByRecursion}
use Rattle.answer_frames.specs.Held.{most_fields, is_test, test_size}
use Rattle.answer_frames.proofs.held.are_tests.Given as goal

abbrev pub invariant-loop-row : goal.invariant-loop-row
invariant-loop-row l = record {
  tests : list_all is_test (take l.row-index l.rows) ≡ true;
  room : sum_by test_size (take l.row-index l.rows) + l.room ≡ most_fields - 4;
  digests : AllByRecursion (λ r. length r.digest ≡ 32) (take l.row-index l.rows);
}
