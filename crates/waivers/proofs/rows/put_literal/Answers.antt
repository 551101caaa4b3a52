use Rattle.std.proofs.Common.{arith}
use Rattle.waivers.proofs.Filled.{put_begins, put_more, put_whole}
use Rattle.waivers.proofs.rows.put_literal.Goals as goal

pub loop-place-init : goal.loop-place-init
loop-place-init c = put_begins c.args.path.now c.args.literal.now c.args.row.now c.requires

pub loop-place-preserved : goal.loop-place-preserved
loop-place-preserved c = put_more c.args.path.now c.args.literal.now c.args.row.now c.loop-place.row c.loop-place.place c.begins_literal.result c.loop-place.invariant (omega (arith, c.loop-place-test.true)) c.begins_literal.ensures

pub returns : goal.returns
returns c = put_whole c.args.path.now c.args.literal.now c.args.row.now c.loop-place.row c.loop-place.place (omega (arith, c.loop-place-test.false)) c.loop-place.invariant
