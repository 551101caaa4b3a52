use Rattle.std.proofs.Common.{◌≡◌, ◌+◌, ◌++◌, drop}
use Rattle.rank_report.specs.Lines.{rank_text}
use Rattle.rank_report.proofs.lines.rank_lines.Given as goal

abbrev pub invariant-loop-i : goal.invariant-loop-i
invariant-loop-i l = l.text.items ++ rank_text (l.i + 1) (drop l.i l.ranked) l.ids ≡ rank_text 1 l.ranked l.ids
