-- A prepared record.
use Rattle.std.specs.Prelude.{ℕ, List}
use Rattle.design_data.specs.declared.design.Design.{Design}
use Rattle.record_codec.specs.declared.record.Record.{Record}

-- what callers see of a prepared record: its design, the record, the record's bytes, and the rows of its tally
pub record Whole : Type 0 where
  pub under : Design
  pub of : Record
  pub content : List ℕ
  pub counted : List (ℕ × ℕ)
