-- Four amounts at once, and the limit of each.
use Rattle.std.specs.Prelude.{ℕ, find, nat_lt, Option, [], ◌∷◌}
use Rattle.cov_ground.specs.Limits.{most_tests, most_bytes, most_entries, most_history}
use Rattle.ucis_model.specs.declared.answers.Which.{Which}
use Rattle.ucis_model.specs.declared.answers.Which.TheVariants.{Tests, Bytes, Entries, History}
use Rattle.history_limits.specs.declared.amounts.Amounts.{Amounts}

abbrev pub most : Which → ℕ
most Tests = most_tests
most Bytes = most_bytes
most Entries = most_entries
most History = most_history

abbrev pub amount_in : Amounts → Which → ℕ
amount_in a Tests = a.tests
amount_in a Bytes = a.bytes
amount_in a Entries = a.entries
amount_in a History = a.history

abbrev pub first_passed : Amounts → Option Which
first_passed a = find (λ which. nat_lt (most which) (amount_in a which)) (Tests ∷ Bytes ∷ Entries ∷ History ∷ [])
