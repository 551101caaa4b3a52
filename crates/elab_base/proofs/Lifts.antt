-- What an expression gives, as what a construct gives.
use Rattle.std.proofs.Common.{◌≡◌, sym, ap, Result, Ok, Err}
use Rattle.const_eval.specs.declared.fault.BindFault.{BindFault}
use Rattle.const_eval.specs.declared.fault.BindFault.TheVariants as bind_fault
use Rattle.const_eval.specs.Binding as binding
use Rattle.elab_base.specs.declared.fault.ElabFault.{ElabFault}
use Rattle.elab_base.specs.Gives.{Fails, Gives, lifted, fault_of}

-- the answer with its fault as one of the design
abbrev pub as_fault : {X : Type 0} → Result X BindFault → Result X ElabFault
as_fault (Ok x) = Ok x
as_fault (Err e) = Err (fault_of e)

pub lifted_fails : {X : Type 0} (e : BindFault) (given : Result X BindFault) → binding.Fails e given → Fails (fault_of e) (lifted given)
lifted_fails (bind_fault.UnknownName at) given h = ap lifted h
lifted_fails (bind_fault.TooWide at) given h = ap lifted h
lifted_fails (bind_fault.BadSelect at) given h = ap lifted h
lifted_fails (bind_fault.BadConcat at) given h = ap lifted h
lifted_fails (bind_fault.UnknownLiteral at) given h = ap lifted h
lifted_fails (bind_fault.NotConstant at) given h = ap lifted h
lifted_fails bind_fault.Memory given h = tt

pub lifted_gives : {X : Type 0} (r : Result X BindFault) (given : Result X BindFault) → binding.Gives r given → Gives (as_fault r) (lifted given)
lifted_gives (Ok x) given h = ap lifted h
lifted_gives (Err e) given h = lifted_fails e given h

pub lifted_is : {X : Type 0} (r given : Result X BindFault) → r ≡ given → Gives (as_fault r) (lifted given)
lifted_is (Ok x) given h = ap lifted (sym h)
lifted_is (Err e) given h = is_err e given h
  where
    is_err : {X : Type 0} (e : BindFault) (given : Result X BindFault) → Err e ≡ given → Fails (fault_of e) (lifted given)
    is_err (bind_fault.UnknownName at) given h = ap lifted (sym h)
    is_err (bind_fault.TooWide at) given h = ap lifted (sym h)
    is_err (bind_fault.BadSelect at) given h = ap lifted (sym h)
    is_err (bind_fault.BadConcat at) given h = ap lifted (sym h)
    is_err (bind_fault.UnknownLiteral at) given h = ap lifted (sym h)
    is_err (bind_fault.NotConstant at) given h = ap lifted (sym h)
    is_err bind_fault.Memory given h = tt
