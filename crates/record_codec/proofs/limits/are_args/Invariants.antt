use Rattle.std.proofs.Common.{take}
use Rattle.record_codec.specs.Limits.{AreArgs}
use Rattle.record_codec.proofs.limits.are_args.Given as goal

abbrev pub invariant-loop-index : goal.invariant-loop-index
invariant-loop-index l = AreArgs (take l.index l.rows) (take l.index l.args)
