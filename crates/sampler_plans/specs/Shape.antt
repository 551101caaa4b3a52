-- The shape of a record: its tables beside those of the design.
use Rattle.std.specs.Prelude.{◌≡◌, ◌≢◌, ◌⊎◌, ℕ, ◌+◌, List, length, take, slice_get, Result, Ok, Err}
use Rattle.record_codec.specs.declared.record.Record.{Record}
use Rattle.design_data.specs.declared.design.Design.{Design}
use Rattle.cov_counting.specs.Tables.{signals_of, instances_of}
use Rattle.sampler_plans.specs.declared.shape.WrongShape.{WrongShape}

-- the record's tables are the design's, in order
pub record Fits (d : Design) (r : Record) : Type 0 where
  pub signals : r.signals ≡ signals_of d
  pub instances : r.instances ≡ instances_of d r.version

-- Two tables agree before this place and differ there, where one of them may have no row.
pub record FirstDiffering {A : Type 0} (rows others : List A) (at : ℕ) : Type 0 where
  pub before : take at rows ≡ take at others
  pub here : slice_get rows at ≢ slice_get others at

-- The instances differ first at this place, counted on after the design's signals.
pub record InstancesDiffer (d : Design) (r : Record) (at : ℕ) : Type 0 where
  pub signals : r.signals ≡ signals_of d
  pub place : ℕ
  pub differ : FirstDiffering r.instances (instances_of d r.version) place
  pub counted : at ≡ length (signals_of d) + place

-- Where the record doesn't fit: the first place at which the signals differ; where they agree, that of the instances.
abbrev pub IsWrongAt : Design → Record → ℕ → Type 0
IsWrongAt d r at = FirstDiffering r.signals (signals_of d) at ⊎ InstancesDiffer d r at

-- the record's tables are the design's, or this is where they aren't
abbrev pub Shapes : Design → Record → Result (Unit {0}) WrongShape → Type 0
Shapes d r (Ok _) = Fits d r
Shapes d r (Err wrong) = IsWrongAt d r wrong.«at»
