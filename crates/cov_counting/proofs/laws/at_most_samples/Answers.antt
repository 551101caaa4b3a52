use Rattle.std.specs.Prelude.{length, slice_index}
use Rattle.record_codec.specs.Samples.{samples_of}
use Rattle.cov_counting.specs.Tallies.{Hit}
use Rattle.cov_counting.proofs.Counts.{number_most}
use Rattle.cov_counting.proofs.laws.at_most_samples.Goals as goal

pub returns : goal.returns
returns c = λ d r counts tally instance inst item bin number b.
    number_most (Hit inst.items item bin (samples_of r instance)) (length (samples_of r instance)) (slice_index counts number) (tally.at instance inst item bin number b)
