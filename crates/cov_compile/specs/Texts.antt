-- A design text with the design that it declares.
use Rattle.std.specs.Prelude.{ℕ, List}
use Rattle.design_data.specs.declared.design.Design.{Design}

pub record Declared : Type 0 where
  pub text : List ℕ
  pub design : Design
