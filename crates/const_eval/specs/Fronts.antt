-- How the code keeps the parts of a concatenation. Public contracts cite none of it.
use Rattle.std.specs.Prelude.{◌≡◌, ◌<◌, ◌≤◌, Option, Some, None, Result, Ok, Err}
use Rattle.cov_ground.specs.Limits.{most_bits}
use Rattle.const_eval.specs.declared.binding.Front.{Front}
use Rattle.const_eval.specs.declared.binding.Front.TheVariants.{Empty, Fits, Wide}
use Rattle.const_eval.specs.declared.fault.BindFault.{BindFault}
use Rattle.const_eval.specs.Terms.{Term, typ_of}
use Rattle.const_eval.specs.Binding.{Fails}

-- up to the bits of a type are kept, more aren't
abbrev pub IsFront : Front → Option Term → Type 0
IsFront Empty terms = terms ≡ None
IsFront (Fits bound) terms = (terms ≡ Some bound) × ((typ_of bound).width ≤ most_bits)
IsFront Wide None = ⊥
IsFront Wide (Some term) = most_bits < (typ_of term).width

abbrev pub FrontIs : Front → Result (Option Term) BindFault → Type 0
FrontIs front (Err error) = ⊥
FrontIs front (Ok terms) = IsFront front terms

abbrev pub GivesFront : Result Front BindFault → Result (Option Term) BindFault → Type 0
GivesFront (Ok front) answer = FrontIs front answer
GivesFront (Err error) answer = Fails error answer
