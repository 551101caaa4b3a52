-- A text with its design, for which the tests of a basis are counted anew.
use Rattle.std.specs.Prelude.{◌≡◌, ℕ, List, length, map, slice_index}
use Rattle.tally.specs.Rows.{rows_from}
use Rattle.design_data.specs.declared.design.Design.{Design}
use Rattle.record_codec.specs.declared.record.Record.{Record}
use Rattle.cov_history.specs.Tallies.{tally}
use Rattle.cov_history.specs.History.{hits_of}

-- what callers see of it: the text, the design that it declares, the point of the basis, and the basis's records
pub record Redone : Type 0 where
  pub text : List ℕ
  pub design : Design
  pub since : ℕ
  pub records : List Record

-- the tally of each record under the design
abbrev pub tallies_of : Design → List Record → List (List (ℕ × ℕ))
tallies_of d rs = map (λ r. rows_from 0 (tally d r)) rs

-- a count for each bin: how often these records hit it
pub record AreSums (d : Design) (rs : List Record) (counts : List ℕ) : Type 0 where
  pub same_len : length counts ≡ d.bin_count
  pub at : (bin : ℕ) → slice_index counts bin ≡ hits_of d rs bin
