use Rattle.std.proofs.Common.{◌≡◌, ◌≤◌, ◌<◌, ◌↔◌, ◌⊎◌, ℕ, true}
use Rattle.std.specs.List.{Contains}
use Rattle.word_table.specs.Words.{has_ended, key, AscendBelow}
use Rattle.word_table.proofs.table.take_ended.Given as goal

abbrev pub invariant-loop-k : goal.invariant-loop-k
invariant-loop-k l = record {
  before : (j : ℕ) → l.low ≤ j → j < l.k → has_ended (key l.table l.depth j) ≡ true;
  hits : (j : ℕ) → Contains l.hits.items j ↔ (Contains l.initial.hits.items j ⊎ ((l.low ≤ j) × (j < l.k)));
  ascend : AscendBelow l.low l.initial.hits.items → AscendBelow l.k l.hits.items;
}
