-- What a store's entries are.
use Rattle.std.specs.Prelude.{◌≡◌, List, false}
use Rattle.design_data.specs.declared.design.Design.{Design}
use Rattle.cov_history.specs.declared.entry.Entry.{Entry}
use Rattle.cov_history.specs.History.{has_stop}
use Rattle.store_core.specs.Histories.{IsHistory}

-- a history without a Stop
pub record IsSound (opening : Design) (h : List Entry) : Type 0 where
  pub history : IsHistory opening h
  pub going : has_stop h ≡ false
