-- Where memory may run out.
use Rattle.std.specs.Prelude.{◌≡◌, Bool, true}
use Rattle.request_forms.specs.declared.fault.Fault.{Fault}
use Rattle.request_forms.specs.declared.fault.Fault.TheVariants.{At, Memory}

-- Memory runs out only where it may be taken.
abbrev pub MayLack : Bool → Fault → Type 0
MayLack takes (At left) = Unit {0}
MayLack takes Memory = takes ≡ true
