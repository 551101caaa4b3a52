use Rattle.std.proofs.Common.{◌≡◌, map, reverse}
use Rattle.std.specs.List.{range_with_len}
use Rattle.record_codec.specs.Samples.{signal_at}
use Rattle.cov_counting.proofs.values.signals_below.Given as goal

abbrev pub invariant-loop-index : goal.invariant-loop-index
invariant-loop-index l = l.values ≡ map (signal_at l.rows (reverse l.before)) (range_with_len 0 l.index)
