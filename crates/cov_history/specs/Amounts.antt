-- Four amounts at once are those of a history.
use Rattle.std.specs.Prelude.{◌≡◌, List}
use Rattle.design_data.specs.declared.design.Design.{Design}
use Rattle.ucis_model.specs.declared.answers.Which.TheVariants.{Tests, Bytes, Entries, History}
use Rattle.cov_history.specs.declared.entry.Entry.{Entry}
use Rattle.cov_history.specs.History.{amount}
pub use Rattle.history_limits.specs.Amounts.{amount_in, first_passed}
pub use Rattle.history_limits.specs.declared.amounts.Amounts.{Amounts}

-- these are the amounts of a history
pub record AreAmounts (opening : Design) (h : List Entry) (a : Amounts) : Type 0 where
  pub tests : a.tests ≡ amount opening h Tests
  pub bytes : a.bytes ≡ amount opening h Bytes
  pub entries : a.entries ≡ amount opening h Entries
  pub history : a.history ≡ amount opening h History
