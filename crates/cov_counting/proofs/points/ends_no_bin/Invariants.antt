use Rattle.std.proofs.Common.{take}
use Rattle.std.specs.Prelude.{All}
use Rattle.design_data.specs.Bins.{seqs_of}
use Rattle.cov_counting.specs.Hits.{EndsNone}
use Rattle.cov_counting.proofs.points.ends_no_bin.Given as goal

abbrev pub invariant-loop-bin : goal.invariant-loop-bin
invariant-loop-bin l = All (λ bin. EndsNone (seqs_of bin.rule) l.values) (take l.bin-index l.bins)
