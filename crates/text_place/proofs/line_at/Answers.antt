use Rattle.std.proofs.Common.{◌<◌, length, arith}
use Rattle.text_place.proofs.Lines.{next_line, same_line}
use Rattle.text_place.proofs.line_at.Goals as goal
use Rattle.text_place.proofs.line_at.Goals.{then-text-i-eq10, else-text-i-eq10}

pub loop-i-preserved : goal.loop-i-preserved
loop-i-preserved c =
    let inside : c.loop-i.i < length c.args.text.now = omega (arith, c.loop-i-test.true, c.requires.within) in
    let line = c.loop-i.line in
    elim c.if-text-i-eq10.branch [
      | then-text-i-eq10 w ↦ rw w.line-is (next_line c.args.text.now c.loop-i.i line.number line.start inside w.if-text-i-eq10.true c.loop-i.invariant)
      | else-text-i-eq10 w ↦ rw w.line-is (same_line c.args.text.now c.loop-i.i line.number line.start inside w.if-text-i-eq10.false c.loop-i.invariant)
    ]
