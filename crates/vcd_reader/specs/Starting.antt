-- What the record of a dump says before its events, and its limits.
use Rattle.std.specs.Prelude.{ℕ, List, [], ◌∷◌, ◌-◌, ◌^◌, codes, length, min, nat_lt, Result, Ok, Err, if◌then◌else◌}
use Rattle.cov_ground.specs.Limits.{longest_record, most_events}
use Rattle.design_data.specs.declared.design.Design.{Design}
use Rattle.record_codec.specs.declared.record.Fields.{Fields}
use Rattle.record_codec.specs.declared.record.Start.{Start}
use Rattle.record_codec.specs.declared.making.MakeFault.{MakeFault}
use Rattle.record_codec.specs.declared.making.MakeFault.TheVariants as faults
use Rattle.cov_counting.specs.Tables.{signals_of, instances_of}
use Rattle.vcd_dump.specs.declared.dump.Dump.{Dump}
use Rattle.vcd_dump.specs.declared.dump.DumpStep.{DumpStep}
use Rattle.vcd_dump.specs.declared.fault.DumpFault.{DumpFault}
use Rattle.vcd_dump.specs.declared.fault.DumpFault.TheVariants.{TooManyEvents, TooLong, Memory}

-- the time of the last step, or 0
abbrev pub last_time : ℕ → List DumpStep → ℕ
last_time time [] = time
last_time time (step ∷ steps) = last_time step.time steps

-- groups that are sampled at events have no arguments, so the record is of version 1
unfoldable pub start_of : Design → Dump → (id : List ℕ) → Start
start_of design dump id = record { version = 1; id = id; status = 0; seed = 0; time = last_time 0 dump.steps; user = codes "vcd"; signals = signals_of design; instances = instances_of design 1 }

-- a count, which is told as 2^64 - 1 where it is more
abbrev pub told : ℕ → ℕ
told n = min n (2 ^ 64 - 1)

-- a record is within its limits
unfoldable pub limited : Fields → (size : ℕ) → Result Fields DumpFault
limited f size = if nat_lt most_events (length f.events) then Err (TooManyEvents (told (length f.events))) else if nat_lt longest_record size then Err (TooLong (told size)) else Ok f

-- the builder's refusal as that of a dump
abbrev pub refused : MakeFault → DumpFault
refused (faults.TooManyEvents n) = TooManyEvents n
refused (faults.TooLong n) = TooLong n
refused faults.Memory = Memory
