use Rattle.std.proofs.Common.{arith}
use Rattle.elab_crosses.proofs.Lists.{flags_more, flags_done}
use Rattle.elab_crosses.proofs.selections.flags.Goals as goal

pub loop-bin-preserved : goal.loop-bin-preserved
loop-bin-preserved c = record {
  same = omega (arith, c.loop-bin.invariant.same);
  rest = flags_more c.args.wanted c.args.listed.now c.args.from.now c.loop-bin.flags c.add_flag.new.flags c.args.bins.now c.loop-bin.k c.loop-bin.bin-index c.bin-item.result _ c.loop-bin-test.true c.bin-item.is c.in_ok-add_flag.ensures c.loop-bin.invariant.rest;
}

pub returns : goal.returns
returns c = flags_done c.args.wanted c.args.listed.now c.args.from.now c.loop-bin.flags c.args.bins.now c.loop-bin.k c.loop-bin.bin-index _ c.loop-bin-test.false c.loop-bin.invariant.rest
