-- What is worked out of each test of a history.
use Rattle.std.specs.Prelude.{ℕ, Bool, false, List, map, slice_index, sum_by, count_by, nat_lt, bytes_eq}
use Rattle.design_data.specs.declared.design.Design.{Design}
use Rattle.record_codec.specs.declared.record.Record.{Record}
use Rattle.record_codec.specs.Spelling.{spelling}
use Rattle.tally.specs.Rows.{rows_from}
use Rattle.cov_history.specs.declared.entry.Event.{Event}
use Rattle.cov_history.specs.declared.entry.Event.TheVariants.{Admit}
use Rattle.cov_history.specs.declared.entry.Entry.{Entry}
use Rattle.cov_history.specs.Tallies.{tally}
use Rattle.cov_history.specs.History.{Test, tests_from}
use Rattle.cov_history.specs.Answers.{test_row}
use Rattle.history_answers.specs.declared.keeping.Kept.{Kept}

-- the change admits a record of this id
abbrev pub admits : (id : List ℕ) → Event → Bool
admits id (Admit r) = bytes_eq id r.id
admits id other = false

abbrev pub test_of : (point : ℕ) → Record → Test
test_of point r = record { point = point; content = r }

-- a test's row, its record's bytes, and its counts under a design
abbrev pub kept_as : Design → Test → Kept
kept_as d t = record { row = test_row t; bytes = spelling t.content; counts = tally d t.content }

-- those of the tests of entries, the first of which stands at a point
abbrev pub kept_from : Design → (point : ℕ) → List Entry → List Kept
kept_from d point h = map (kept_as d) (tests_from point h)

-- how often they hit the bin together
abbrev pub total : List Kept → (bin : ℕ) → ℕ
total tests bin = sum_by (λ t. slice_index t.counts bin) tests

-- how many bins they hit, each for itself
abbrev pub hit_by : List Kept → ℕ
hit_by tests = sum_by (λ t. count_by (nat_lt 0) t.counts) tests

-- their counts as rows
abbrev pub rows_of : List Kept → List (List (ℕ × ℕ))
rows_of tests = map (λ t. rows_from 0 t.counts) tests
