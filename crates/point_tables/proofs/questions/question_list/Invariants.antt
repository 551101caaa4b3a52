use Rattle.std.proofs.Common.{◌≡◌, length}
use Rattle.point_tables.specs.Tables.{AreQuestions}
use Rattle.point_tables.proofs.questions.question_list.Given as goal

abbrev pub invariant-loop-bin : goal.invariant-loop-bin
invariant-loop-bin l = record {
  same : length l.list.items ≡ l.bin-index;
  each : AreQuestions l.typ l.bins l.list.items;
}
