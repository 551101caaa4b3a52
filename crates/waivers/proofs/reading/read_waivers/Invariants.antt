use Rattle.std.proofs.Common.{◌≡◌, ◌≤◌, ◌+◌, ◌-◌, [], length}
use Rattle.std.specs.List.{slice_split}
use Rattle.waivers.specs.Reading.{with_lines, is_newline}
use Rattle.waivers.proofs.Found.{lines_from}
use Rattle.waivers.proofs.reading.read_waivers.Given as goal

abbrev pub invariant-loop-at : goal.invariant-loop-at
invariant-loop-at l = record {
  within : l.at ≤ length l.text + 1;
  same : with_lines l.at l.waivers.items (lines_from l.text l.at) ≡ with_lines 0 [] (slice_split is_newline l.text);
}

abbrev pub decreases-loop-at : goal.decreases-loop-at
decreases-loop-at l = length l.text + 1 - l.at
