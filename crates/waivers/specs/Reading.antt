-- Reading a waivers file. Its lines are what stands between its newlines; a carriage return at the end of a line isn't
-- of it. The lines are read in order, and the first fault of the text decides.
use Rattle.std.specs.Prelude.{◌≡◌, ℕ, ◌+◌, ◌-◌, List, [], ◌∷◌, ◌++◌, length, take, slice_index, nat_lt, ◌==◌, Option, Some, None, Result, Ok, Err, Bool, if◌then◌else◌}
use Rattle.std.specs.List.{slice_split}
use Rattle.waivers.specs.declared.waiver.Waiver.{Waiver}
use Rattle.waivers.specs.declared.fault.FaultKind.TheVariants.{LineTooLong, TooMany, TextTooLong}
use Rattle.waivers.specs.declared.fault.LineFault.{LineFault}
use Rattle.waivers.specs.declared.fault.LineFault.TheVariants as line
use Rattle.waivers.specs.declared.fault.WaiverFault.{WaiverFault}
use Rattle.waivers.specs.declared.fault.WaiverFault.TheVariants.{Bad, Memory}
use Rattle.waivers.specs.Lines.{skip, at_waive, is_idle}

-- ---- limits

-- bytes of a text, and of a line
abbrev pub longest_text : ℕ
longest_text = 1048576

abbrev pub longest_line : ℕ
longest_line = 4096

-- waivers of a text
abbrev pub most_waivers : ℕ
most_waivers = 65536

-- ---- steps

infixl 10 ◌>>=◌
abbrev pub ◌>>=◌ : {A B : Type 0} → Result A WaiverFault → (A → Result B WaiverFault) → Result B WaiverFault
(Ok x) >>= f = f x
(Err e) >>= f = Err e

-- what a line is read as, its places told from the front of the text; the line ends at this place
unfoldable pub told : (end : ℕ) → Result Waiver LineFault → Result (Option Waiver) WaiverFault
told end (Ok made) = Ok (Some made)
told end (Err (line.Bad kind left)) = Err (Bad kind (end - left))
told end (Err line.Memory) = Err Memory

abbrev pub is_return : ℕ → Bool
is_return byte = byte == 13

unfoldable pub without_return : List ℕ → List ℕ
without_return bytes = if is_return (slice_index bytes (length bytes - 1)) then take (length bytes - 1) bytes else bytes

-- a line that begins at this place: a waiver, or none where it is blank or a comment
unfoldable pub read_line : (at : ℕ) → List ℕ → Result (Option Waiver) WaiverFault
read_line at bytes =
    if nat_lt longest_line (length bytes) then Err (Bad LineTooLong (at + longest_line))
    else (if is_idle (skip bytes) then Ok None else told (at + length bytes) (at_waive (skip bytes)))

-- with what a line is that begins at this place
unfoldable pub added : (at : ℕ) → (before : List Waiver) → Option Waiver → Result (List Waiver) WaiverFault
added at before None = Ok before
added at before (Some made) =
    if nat_lt (length before) most_waivers then Ok (before ++ made ∷ []) else Err (Bad TooMany at)

unfoldable pub with_line : (at : ℕ) → (before : List Waiver) → List ℕ → Result (List Waiver) WaiverFault
with_line at before bytes = do
  found ← read_line at (without_return bytes)
  added at before found

-- ---- all lines, the first of which begins at this place, behind those before

abbrev pub with_lines : (at : ℕ) → (before : List Waiver) → List (List ℕ) → Result (List Waiver) WaiverFault
with_lines at before [] = Ok before
with_lines at before (bytes ∷ lines) = do
  more ← with_line at before bytes
  with_lines (at + length bytes + 1) more lines

abbrev pub is_newline : ℕ → Bool
is_newline byte = byte == 10

-- the waivers of a text, or its first fault: its kind, and how many bytes of the text stand before it
unfoldable pub reading : List ℕ → Result (List Waiver) WaiverFault
reading text =
    if nat_lt longest_text (length text) then Err (Bad TextTooLong longest_text)
    else with_lines 0 [] (slice_split is_newline text)

-- ---- what calls owe

-- What a call returned is what the definition gives, unless memory ran out.
abbrev pub Reads : {A : Type 0} → Result A WaiverFault → Result A WaiverFault → Type 0
Reads (Ok x) given = given ≡ Ok x
Reads (Err (Bad kind at)) given = given ≡ Err (Bad kind at)
Reads (Err Memory) given = Unit {0}

-- the same of a call that changes what it is lent
abbrev pub Makes : {S : Type 0} → Result (Unit {0}) WaiverFault → S → Result S WaiverFault → Type 0
Makes (Ok done) new given = given ≡ Ok new
Makes (Err (Bad kind at)) new given = given ≡ Err (Bad kind at)
Makes (Err Memory) new given = Unit {0}

-- a fault that was told is that of the definition, unless memory ran out
abbrev pub IsFault : {A : Type 0} → WaiverFault → Result A WaiverFault → Type 0
IsFault (Bad kind at) given = given ≡ Err (Bad kind at)
IsFault Memory given = Unit {0}
