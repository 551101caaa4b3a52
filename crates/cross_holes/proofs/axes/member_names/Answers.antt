use Rattle.std.proofs.Common.{arith}
use Rattle.cross_holes.proofs.Names.{names_are}
use Rattle.cross_holes.proofs.axes.member_names.Goals as goal

pub returns : goal.returns
returns c =
    let stop = c.loop-bin-test.false in
    names_are c.args.bins.now c.loop-bin.bin-index c.loop-bin.members (omega (arith, stop)) c.loop-bin.invariant
