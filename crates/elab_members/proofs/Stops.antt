-- A fault of the first step is that of both.
use Rattle.std.proofs.Common.{refl, Result}
use Rattle.elab_base.specs.declared.fault.ElabFault.{ElabFault}
use Rattle.elab_base.specs.declared.fault.ElabFault.TheVariants as errors
use Rattle.elab_base.specs.Gives.{Refusal, ◌>>=◌, Fails}

pub fails_bind : {A B : Type 0} (e : ElabFault) (r : Result A Refusal) (f : A → Result B Refusal) → Fails e r → Fails e (r >>= f)
fails_bind errors.Memory r f h = tt
fails_bind (errors.Fault kind at) r f h = rw h refl
