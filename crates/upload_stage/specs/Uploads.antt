-- The steps of an upload. A stage is none, or for each place of the stated length the byte that was received there, if
-- any was.
use Rattle.std.specs.Prelude.{◌≡◌, ◌⊎◌, ℕ, ◌+◌, List, [], length, drop, replicate, Option, Some, None, Result, Ok, Err, if◌then◌else◌, nat_lt}
use Rattle.std.specs.Global.{Vec}
use Rattle.std.specs.Str.{bytes_eq}
use Rattle.sha2.specs.Sha256.{sha256}
use Rattle.cov_ground.specs.Limits.{longest_record}
use Rattle.upload_stage.specs.declared.fault.StageFault.{StageFault}
use Rattle.upload_stage.specs.declared.fault.StageFault.TheVariants as fault
use Rattle.upload_stage.specs.Places.{first_differing, first_missing, with_bytes, bytes_in}

abbrev pub Upload : Type 0
Upload = Option (List (Option ℕ))

-- ---- what each call refuses, in this order

abbrev pub begin_fault : Upload → ℕ → Option StageFault
begin_fault (Some places) len = Some fault.StageBusy
begin_fault None len = if nat_lt longest_record len then Some (fault.TooLong len) else None

abbrev pub differs_fault : Option ℕ → Option StageFault
differs_fault None = None
differs_fault (Some at) = Some (fault.Differs at)

abbrev pub piece_fault : Upload → ℕ → List ℕ → Option StageFault
piece_fault None offset bytes = Some fault.NoUpload
piece_fault (Some places) offset bytes = if nat_lt (length places) (offset + length bytes) then Some (fault.Outside offset (length places)) else differs_fault (first_differing offset (drop offset places) bytes)

abbrev pub digest_fault : List ℕ → List ℕ → Option StageFault
digest_fault digest bytes = if bytes_eq (sha256 bytes) digest then None else Some (fault.DigestDiffers (sha256 bytes))

abbrev pub missing_fault : Option ℕ → List ℕ → List ℕ → Option StageFault
missing_fault None digest bytes = digest_fault digest bytes
missing_fault (Some at) digest bytes = Some (fault.Missing at)

abbrev pub finish_fault : Upload → List ℕ → Option StageFault
finish_fault None digest = Some fault.NoUpload
finish_fault (Some places) digest = missing_fault (first_missing 0 places) digest (bytes_in places)

-- ---- the stage afterwards

-- an upload with no byte yet
abbrev pub begun : ℕ → Upload
begun len = Some (replicate len None)

abbrev pub with_piece : Upload → ℕ → List ℕ → Upload
with_piece None offset bytes = None
with_piece (Some places) offset bytes = Some (with_bytes places offset bytes)

abbrev pub unless_missing : Option ℕ → List (Option ℕ) → Upload
unless_missing None places = None
unless_missing (Some at) places = Some places

-- a complete upload is gone
abbrev pub finished : Upload → Upload
finished None = None
finished (Some places) = unless_missing (first_missing 0 places) places

abbrev pub bytes_of : Upload → List ℕ
bytes_of None = []
bytes_of (Some places) = bytes_in places

-- ---- what the calls answer; want of memory alone is free

abbrev pub Begins : Upload → ℕ → Result (Unit {0}) StageFault → Upload → Type 0
Begins old len (Ok done) new = (begin_fault old len ≡ None) × (new ≡ begun len)
Begins old len (Err e) new = (new ≡ old) × ((begin_fault old len ≡ Some e) ⊎ ((e ≡ fault.Memory) × (begin_fault old len ≡ None)))

abbrev pub Pieces : Upload → ℕ → List ℕ → Result (Unit {0}) StageFault → Upload → Type 0
Pieces old offset bytes (Ok done) new = (piece_fault old offset bytes ≡ None) × (new ≡ with_piece old offset bytes)
Pieces old offset bytes (Err e) new = (piece_fault old offset bytes ≡ Some e) × (new ≡ old)

abbrev pub Finishes : Upload → List ℕ → Result (Vec ℕ) StageFault → Upload → Type 0
Finishes old digest (Ok bytes) new = (finish_fault old digest ≡ None) × (bytes.items ≡ bytes_of old) × (new ≡ finished old)
Finishes old digest (Err e) new = (finish_fault old digest ≡ Some e) × (new ≡ finished old)
