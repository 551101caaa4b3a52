-- Where a fault stands, said of the bytes and not of their reading.
use Rattle.std.specs.Prelude.{◌≢◌, ℕ, ◌+◌, ◌<◌, ◌≤◌, List, ◌++◌, length, take, Option, Some, None, IfSome}
use Rattle.record_codec.specs.declared.fault.RecordFault.{RecordFault}
use Rattle.record_codec.specs.declared.fault.RecordFault.TheVariants.{Short, BadMagic, BadVersion, BadField, TooManyEvents, Trailing, Memory}
use Rattle.record_codec.specs.Reading.{HasFault}

-- the place that a fault tells; BadMagic, BadVersion and TooManyEvents tell none
abbrev pub place_of : RecordFault → Option ℕ
place_of (Short at) = Some at
place_of BadMagic = None
place_of (BadVersion version) = None
place_of (BadField at) = Some at
place_of (TooManyEvents count) = None
place_of (Trailing at) = Some at
place_of Memory = None

-- a field runs past the end of these bytes, and begins there or before
abbrev pub IsCut : List ℕ → Type 0
IsCut bytes = (at : ℕ) × (at ≤ length bytes) × HasFault bytes (Short at)

-- the bytes of the longest field, a text of 1,024 bytes behind its length
abbrev pub longest_field : ℕ
longest_field = 1026

-- a field that begins at this place, or holds it, may end there
abbrev pub IsFieldEnd : ℕ → ℕ → Type 0
IsFieldEnd end at = (at < end) × (end ≤ at + longest_field)

-- The first bytes, up to the end of the field that is at fault, decide: all bytes that begin with them have the fault.
pub record IsDecided (bytes : List ℕ) (fault : RecordFault) (end : ℕ) : Type 0 where
  pub within : end ≤ length bytes
  pub near : IfSome (place_of fault) (IsFieldEnd end)
  pub same : (more : List ℕ) → HasFault (take end bytes ++ more) fault

abbrev pub IsDecidedEarly : List ℕ → RecordFault → Type 0
IsDecidedEarly bytes fault = (end : ℕ) × IsDecided bytes fault end

-- a fault that more bytes don't mend
abbrev pub IsNoCut : RecordFault → Type 0
IsNoCut fault = (at : ℕ) → fault ≢ Short at
