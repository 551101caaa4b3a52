use Rattle.std.proofs.Common.{◌≡◌, map}
use Rattle.std.specs.List.{range_with_len}
use Rattle.record_codec.specs.Samples.{arg_at}
use Rattle.cov_counting.proofs.values.args_below.Given as goal

abbrev pub invariant-loop-index : goal.invariant-loop-index
invariant-loop-index l = l.values ≡ map (arg_at l.rows l.args) (range_with_len 0 l.index)
