-- How the parts of a session end. Public contracts cite none of it.
use Rattle.std.specs.Prelude.{ℕ, Result, Ok, Err, Bool}
use Rattle.cov_base.specs.declared.failed.Failed.{Failed}
use Rattle.cov_spec.specs.Causes.{Rose}
use Rattle.design_data.specs.declared.design.Design.{Design}
use Rattle.cov_proto.specs.Frames.{IsTorn, HasBadLength}
use Rattle.cov_session.specs.declared.serving.Stop.{Stop}
use Rattle.cov_session.specs.declared.serving.Stop.TheVariants as stop
use Rattle.cov_session.specs.Moments.{World, Frame, Whole, Front, Ran, RanToBye, RanToFault}

-- the frame in front is answered, and its reply written whole or in part
abbrev pub Framed : (opening : Design) → (caller : ℕ) → World → World → Result Bool Failed → Type 0
Framed opening caller w w' (Ok bye) = Frame opening caller w w' bye (Whole w w')
Framed opening caller w w' (Err failed) = (bye : Bool) × Frame opening caller w w' bye (Front w w')

-- the frames at hand are answered
abbrev pub Stops : (opening : Design) → (caller : ℕ) → World → World → Result (Unit {0}) Stop → Type 0
Stops opening caller w w' (Ok done) = Ran opening caller 0 w w' × IsTorn w'.held
Stops opening caller w w' (Err stop.Bye) = RanToBye opening caller 0 w w'
Stops opening caller w w' (Err (stop.FrameTooLong len)) = Ran opening caller 0 w w' × HasBadLength len w'.held
Stops opening caller w w' (Err stop.WriteFault) = RanToFault opening caller 0 w w'

-- where a write failed the count rose
abbrev pub StopsByFault : (before now : ℕ) → Result (Unit {0}) Stop → Type 0
StopsByFault before now (Err stop.WriteFault) = Rose before now
StopsByFault before now other = Unit {0}
