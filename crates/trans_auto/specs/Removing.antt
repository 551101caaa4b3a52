-- What one sample does to the removing sequences of a point.
use Rattle.std.specs.Prelude.{◌≡◌, ℕ, List, Option, Some, ℤ, true, false, nat_eq}
use Rattle.std.specs.HashMap.{get}
use Rattle.trans_seq.specs.declared.seq.Seq.{Seq}
use Rattle.trans_auto.specs.Layout.{SeqsInside}
use Rattle.trans_auto.specs.Steps.{SeqsStep}
use Rattle.trans_auto.specs.declared.removing.Step.{Step}

-- the cells whose sets the sample is inside, those that a window reaches that begins with it, and masks that it moves
pub record IsStep (removed : List Seq) (v : Option ℤ) (step : Step) : Type 0 where
  pub inside : SeqsInside 0 step.inside v removed
  pub begun : SeqsStep true 0 0 step.begun v removed
  pub moves : (old new : ℕ) → get nat_eq step.moves old ≡ Some new → SeqsStep false 0 old new v removed
