-- What a design's plan gives of a record.
use Rattle.std.specs.Prelude.{◌≡◌, ℕ, List}
use Rattle.design_data.specs.declared.design.Design.{Design}
use Rattle.record_codec.specs.declared.record.Record.{Record}
use Rattle.tally.specs.Rows.{rows_from}
use Rattle.cov_counting.specs.Tallies.{IsTally}
pub use Rattle.sampler_plans.specs.Plans.{IsInstPlan, AreInstPlans, IsDesignPlan}

-- the rows of the tally of a design and a record: those of the bins that are hit, with their counts
abbrev pub IsTallyOf : Design → Record → List (ℕ × ℕ) → Type 0
IsTallyOf d r tally = (counts : List ℕ) × IsTally d r counts × (tally ≡ rows_from 0 counts)
