-- Which calls of an object in memory are to fail.
use Rattle.std.specs.Prelude.{ℕ, ◌+◌, ◌-◌, ◌^◌, ◌==◌, min, List, Bool, Result, is_ok, if◌then◌else◌}
use Rattle.std.specs.List.{list_any}

-- the calls so far, the numbers of the calls that are to fail, the first call being 0, and how many failed
pub record Plan : Type 0 where
  pub calls : ℕ
  pub failing : List ℕ
  pub faults : ℕ

-- before the first call
abbrev pub planned : List ℕ → Plan
planned failing = record { calls = 0; failing = failing; faults = 0 }

-- the next call is to fail
abbrev pub is_due : Plan → Bool
is_due plan = list_any (λ call. call == plan.calls) plan.failing

-- one more, up to the end of the type
abbrev pub one_more : ℕ → ℕ
one_more n = min (n + 1) (2 ^ 64 - 1)

-- one more where the call succeeded
abbrev pub one_more_at_ok : {T E : Type 0} → Result T E → ℕ → ℕ
one_more_at_ok result n = if is_ok result then one_more n else n

-- after one more call
abbrev pub called : Plan → Plan
called plan = record { calls = one_more plan.calls; failing = plan.failing; faults = if is_due plan then one_more plan.faults else plan.faults }

-- after one more call that memory made fail
abbrev pub refused : Plan → Plan
refused plan = record { calls = one_more plan.calls; failing = plan.failing; faults = one_more plan.faults }

-- after one more call with this answer, which may have failed for another cause than the plan
abbrev pub answered : {T E : Type 0} → Result T E → Plan → Plan
answered result plan = if is_ok result then called plan else refused plan
