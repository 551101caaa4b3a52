use Rattle.std.proofs.Common.{◌≡◌, ℕ, ◌-◌, ◌<◌, ◌≤◌}
use Rattle.upload_stage.specs.Places.{mark_of}
use Rattle.upload_stage.proofs.marks.mark_words.Given as goal

abbrev pub invariant-loop-at : goal.invariant-loop-at
invariant-loop-at l = record {
  low : l.from ≤ l.at;
  high : l.at ≤ l.to;
  below : (place : ℕ) → place < l.from → mark_of l.marks place ≡ mark_of l.initial.marks place;
  inside : (place : ℕ) → l.from ≤ place → place < l.at → mark_of l.marks place ≡ 1;
  above : (place : ℕ) → l.at ≤ place → mark_of l.marks place ≡ mark_of l.initial.marks place;
}

abbrev pub decreases-loop-at : goal.decreases-loop-at
decreases-loop-at l = l.to - l.at
