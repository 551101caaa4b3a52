-- The record that the generator makes for a test, and what it measures.
use Rattle.std.specs.Prelude.{ℕ, length}
use Rattle.design_data.specs.declared.design.Design.{Design}
use Rattle.record_codec.specs.declared.record.Fields.{Fields}
use Rattle.record_codec.specs.Starts.{with_events, size_with}
use Rattle.record_maker.specs.Generator.{start_of, events_of}

-- the fields of the record of a test
abbrev pub made_fields : Design → (seed rounds test : ℕ) → Fields
made_fields d seed rounds test = with_events (start_of d seed rounds test) (events_of d seed rounds test)

-- how many events it has
abbrev pub made_events : Design → (seed rounds test : ℕ) → ℕ
made_events d seed rounds test = length (events_of d seed rounds test)

-- how many bytes it has
abbrev pub made_size : Design → (seed rounds test : ℕ) → ℕ
made_size d seed rounds test = size_with (start_of d seed rounds test) (events_of d seed rounds test)
