-- What a basis is, and a text that is made ready by it.
use Rattle.std.specs.Prelude.{◌≡◌, ◌≤◌, List, length, map}
use Rattle.std.specs.Arc.{arc_value}
use Rattle.design_data.specs.declared.design.Design.{Design}
use Rattle.ucis_model.specs.declared.answers.Which.TheVariants.{Tests}
use Rattle.cov_compile.specs.Texts.{Declared}
use Rattle.cov_history.specs.declared.entry.Entry.{Entry}
use Rattle.cov_history.specs.History.{design_of, contents, most}
use Rattle.store_core.specs.declared.basis.Basis.{Basis}
use Rattle.store_core.specs.Histories.{Declaring}
use Rattle.store_core.specs.Rebins.{Redone}

-- the point, the design and the tests' records of this history
pub record IsBasis (opening : Design) (h : List Entry) (b : Basis) : Type 0 where
  pub point : b.point ≡ length h
  pub design : b.design ≡ design_of opening h
  pub records : map arc_value b.records ≡ contents h
  pub few : length b.records ≤ most Tests

-- the text with its design, for the records of the basis
pub record IsRebinned (compiled : Declared) (b : Basis) (r : Redone) : Type 0 where
  pub text : r.text ≡ compiled.text
  pub design : r.design ≡ compiled.design
  pub since : r.since ≡ b.point
  pub records : r.records ≡ map arc_value b.records
  pub declared : Declaring r.text r.design
