-- The places of an upload: for each the byte that was received there, if any was.
use Rattle.std.specs.Prelude.{◌≡◌, ℕ, ◌+◌, ◌*◌, ◌/◌, ◌%◌, ◌<◌, ◌≤◌, List, [], ◌∷◌, ◌++◌, length, take, drop, map, slice_index, vec_capacity, Option, Some, None, Bool, true, false, ◌==◌, if◌then◌else◌}
use Rattle.std.specs.Global.{Vec}
use Rattle.std.specs.Int.{bit_at}
use Rattle.std.specs.List.{range_with_len}
use Rattle.cov_ground.specs.Limits.{longest_record}

-- a byte was received here, and it is another one
abbrev pub differs : Option ℕ → ℕ → Bool
differs None byte = false
differs (Some received) byte = if received == byte then false else true

-- the least place that has another byte, `at` being the number of the first
abbrev pub first_differing : ℕ → List (Option ℕ) → List ℕ → Option ℕ
first_differing at [] bytes = None
first_differing at (place ∷ places) [] = None
first_differing at (place ∷ places) (byte ∷ bytes) = if differs place byte then Some at else first_differing (at + 1) places bytes

-- the places with these bytes from one place on
abbrev pub with_bytes : List (Option ℕ) → ℕ → List ℕ → List (Option ℕ)
with_bytes places at bytes = take at places ++ map (λ byte. Some byte) bytes ++ drop (at + length bytes) places

-- the least place that has no byte, `at` being the number of the first
abbrev pub first_missing : ℕ → List (Option ℕ) → Option ℕ
first_missing at [] = None
first_missing at (None ∷ places) = Some at
first_missing at (Some byte ∷ places) = first_missing (at + 1) places

abbrev pub byte_or_zero : Option ℕ → ℕ
byte_or_zero None = 0
byte_or_zero (Some byte) = byte

-- the bytes, where each place has one
abbrev pub bytes_in : List (Option ℕ) → List ℕ
bytes_in places = map byte_or_zero places

-- ---- places as they are kept: bytes, and a mark for each place that was received, 64 marks a word

-- 1 at a place that was received
abbrev pub mark_of : List ℕ → ℕ → ℕ
mark_of marks place = bit_at (slice_index marks (place / 64)) (place % 64)

abbrev pub byte_at : List ℕ → List ℕ → ℕ → Option ℕ
byte_at marks bytes place = if mark_of marks place == 1 then Some (slice_index bytes place) else None

abbrev pub places_of : List ℕ → List ℕ → ℕ → List (Option ℕ)
places_of marks bytes len = map (byte_at marks bytes) (range_with_len 0 len)

-- All marked places have bytes, and those before `whole` are marked. There is room for all places
pub record IsHeld (marks : List ℕ) (bytes : Vec ℕ) (len whole : ℕ) : Type 0 where
  pub short : len ≤ longest_record
  pub wide : len ≤ 64 * length marks
  pub long : length bytes.items ≤ len
  pub room : len ≤ vec_capacity bytes
  pub front : whole ≤ len
  pub passed : (place : ℕ) → place < whole → mark_of marks place ≡ 1
  pub there : (place : ℕ) → mark_of marks place ≡ 1 → place < length bytes.items
