use Rattle.std.proofs.Common.{◌+◌, ◌-◌, ◌*◌, length}
use Rattle.range_parser.proofs.SelWalks.{Ors, Ands}
use Rattle.range_parser.proofs.selections.+selection.Given as goal

abbrev pub decreases-part_selection : goal.decreases-part_selection
decreases-part_selection l = 4 * l.room.levels + 3

abbrev pub decreases-conjunction : goal.decreases-conjunction
decreases-conjunction l = 4 * l.room.levels + 2

abbrev pub decreases-simple : goal.decreases-simple
decreases-simple l = 4 * l.room.levels + 1

abbrev pub invariant-part_selection-loop-next : goal.invariant-part_selection-loop-next
invariant-part_selection-loop-next l = Ors l.reader.text.now l.reader.tokens.now l.room l.fn.place l.left l.at

abbrev pub decreases-part_selection-loop-next : goal.decreases-part_selection-loop-next
decreases-part_selection-loop-next l = length l.reader.tokens.now - l.at.at

abbrev pub invariant-conjunction-loop-next : goal.invariant-conjunction-loop-next
invariant-conjunction-loop-next l = Ands l.reader.text.now l.reader.tokens.now l.room l.fn.place l.left l.at

abbrev pub decreases-conjunction-loop-next : goal.decreases-conjunction-loop-next
decreases-conjunction-loop-next l = length l.reader.tokens.now - l.at.at
