-- The lines of a waivers file. A line is blank, or a comment, which `#` begins, or a waiver:
--     waive PATTERN "REASON" [by NAME] [on YYYY-MM-DD]
-- with blanks (spaces and tabs) between its words. A line is read from left to right, and the first word that is at
-- fault decides. A fault is told by how many bytes of the line are left where its word begins, or should begin.
use Rattle.std.specs.Prelude.{◌≡◌, ℕ, ◌+◌, ◌-◌, ◌*◌, ◌%◌, List, [], codes, length, take, drop, slice_index, nat_le, nat_lt, nat_eq, ◌==◌, ◌||◌, ◌&&◌, not, Result, Ok, Err, Bool, if◌then◌else◌}
use Rattle.std.specs.List.{list_all, position_or_len}
use Rattle.std.specs.Cmp.Lexicographic.{pointwise}
use Rattle.waivers.specs.declared.waiver.Waiver.{Waiver}
use Rattle.waivers.specs.declared.fault.FaultKind.{FaultKind}
use Rattle.waivers.specs.declared.fault.FaultKind.TheVariants.{BadLine, BadPattern, MatchesRoot, BadReason, BadName, BadDate, Extra}
use Rattle.waivers.specs.declared.fault.LineFault.{LineFault}
use Rattle.waivers.specs.declared.fault.LineFault.TheVariants.{Bad, Memory}
use Rattle.waivers.specs.Patterns.{is_match}

-- ---- words

abbrev pub is_blank : ℕ → Bool
is_blank byte = byte == 32 || byte == 9

abbrev pub is_word_byte : ℕ → Bool
is_word_byte byte = not (is_blank byte)

-- the bytes from the first on that is no blank
unfoldable pub skip : List ℕ → List ℕ
skip bytes = drop (position_or_len is_word_byte bytes) bytes

-- the bytes before the first blank
unfoldable pub word : List ℕ → List ℕ
word bytes = take (position_or_len is_blank bytes) bytes

-- what stands behind the first word and the blanks behind it
unfoldable pub behind : List ℕ → List ℕ
behind bytes = skip (drop (position_or_len is_blank bytes) bytes)

abbrev pub is : List ℕ → List ℕ → Bool
is bytes other = pointwise nat_eq bytes other

-- ---- patterns

-- a byte of a word of printable ASCII
abbrev pub is_printable : ℕ → Bool
is_printable byte = nat_lt 32 byte && nat_lt byte 127

-- some bytes, all of them printable ASCII
unfoldable pub is_pattern : List ℕ → Bool
is_pattern bytes = nat_lt 0 (length bytes) && list_all is_printable bytes

-- it matches the root's path, which is empty, so that the whole design would be left out
unfoldable pub matches_root : List ℕ → Bool
matches_root pattern = is_match pattern []

-- ---- reasons

abbrev pub is_quote : ℕ → Bool
is_quote byte = byte == 34

-- what a reason may have: no quote and no control byte; UTF-8 isn't looked at
abbrev pub is_reason_byte : ℕ → Bool
is_reason_byte byte = nat_le 32 byte && (not (byte == 127) && not (is_quote byte))

abbrev pub are_reason_bytes : List ℕ → Bool
are_reason_bytes bytes = list_all is_reason_byte bytes

-- some bytes, all of them of a reason
unfoldable pub is_reason : List ℕ → Bool
is_reason bytes = nat_lt 0 (length bytes) && are_reason_bytes bytes

-- the bytes between the quote that comes first and the next one
unfoldable pub reason_in : List ℕ → List ℕ
reason_in bytes = take (position_or_len is_quote (drop 1 bytes)) (drop 1 bytes)

-- the bytes behind the second quote
unfoldable pub behind_reason : List ℕ → List ℕ
behind_reason bytes = drop (position_or_len is_quote (drop 1 bytes) + 1) (drop 1 bytes)

-- a quote, some bytes of a reason, and a quote
unfoldable pub begins_reason : List ℕ → Bool
begins_reason bytes =
    is_quote (slice_index bytes 0)
    && (nat_lt (position_or_len is_quote (drop 1 bytes)) (length (drop 1 bytes)) && is_reason (reason_in bytes))

-- a blank or the line's end stands next
unfoldable pub is_parted : List ℕ → Bool
is_parted bytes = length bytes == 0 || is_blank (slice_index bytes 0)

-- ---- names and dates

abbrev pub is_name_byte : ℕ → Bool
is_name_byte byte = nat_lt 32 byte && not (byte == 127)

-- some bytes without blanks and control bytes
unfoldable pub is_name : List ℕ → Bool
is_name bytes = nat_lt 0 (length bytes) && list_all is_name_byte bytes

abbrev pub is_digit : ℕ → Bool
is_digit byte = nat_le 48 byte && nat_le byte 57

-- the number of the two digits from a place on
abbrev pub two_digits : List ℕ → ℕ → ℕ
two_digits bytes place = (slice_index bytes place - 48) * 10 + (slice_index bytes (place + 1) - 48)

abbrev pub are_two_digits : List ℕ → ℕ → Bool
are_two_digits bytes place = is_digit (slice_index bytes place) && is_digit (slice_index bytes (place + 1))

-- by the Gregorian rule
abbrev pub is_leap : (year : ℕ) → Bool
is_leap year = year % 4 == 0 && (not (year % 100 == 0) || year % 400 == 0)

unfoldable pub days_in : (year month : ℕ) → ℕ
days_in year month =
    if month == 2 then (if is_leap year then 29 else 28)
    else (if month == 4 || month == 6 || month == 9 || month == 11 then 30 else 31)

abbrev pub is_day : (year month day : ℕ) → Bool
is_day year month day = nat_le 1 month && nat_le month 12 && nat_le 1 day && nat_le day (days_in year month)

-- YYYY-MM-DD, of ten bytes
unfoldable pub has_date_form : List ℕ → Bool
has_date_form bytes =
    are_two_digits bytes 0 && are_two_digits bytes 2 && slice_index bytes 4 == 45
    && are_two_digits bytes 5 && slice_index bytes 7 == 45 && are_two_digits bytes 8

-- a day that there is, from year 0 to 9999
unfoldable pub is_date : List ℕ → Bool
is_date bytes =
    length bytes == 10 && has_date_form bytes
    && is_day (two_digits bytes 0 * 100 + two_digits bytes 2) (two_digits bytes 5) (two_digits bytes 8)

-- ---- a line, from where a word begins or the line ends

abbrev pub fault : {A : Type 0} → FaultKind → (rest : List ℕ) → Result A LineFault
fault kind rest = Err (Bad kind (length rest))

-- nothing more
unfoldable pub at_end : Waiver → (rest : List ℕ) → Result Waiver LineFault
at_end made rest = if length rest == 0 then Ok made else fault Extra rest

-- `on DATE`, or nothing
unfoldable pub at_on : (pattern reason by rest : List ℕ) → Result Waiver LineFault
at_on pattern reason by rest =
    if is (word rest) (codes "on")
    then (if is_date (word (behind rest))
    then at_end (record { pattern = pattern; reason = reason; by = by; on = word (behind rest) }) (behind (behind rest))
    else fault BadDate (behind rest))
    else at_end (record { pattern = pattern; reason = reason; by = by; on = [] }) rest

-- `by NAME`, or nothing
unfoldable pub at_by : (pattern reason rest : List ℕ) → Result Waiver LineFault
at_by pattern reason rest =
    if is (word rest) (codes "by")
    then (if is_name (word (behind rest))
    then at_on pattern reason (word (behind rest)) (behind (behind rest))
    else fault BadName (behind rest))
    else at_on pattern reason [] rest

unfoldable pub at_reason : (pattern rest : List ℕ) → Result Waiver LineFault
at_reason pattern rest =
    if begins_reason rest
    then (if is_parted (behind_reason rest)
    then at_by pattern (reason_in rest) (skip (behind_reason rest))
    else fault Extra (behind_reason rest))
    else fault BadReason rest

unfoldable pub at_pattern : (rest : List ℕ) → Result Waiver LineFault
at_pattern rest =
    if is_pattern (word rest)
    then (if matches_root (word rest) then fault MatchesRoot rest else at_reason (word rest) (behind rest))
    else fault BadPattern rest

unfoldable pub at_waive : (rest : List ℕ) → Result Waiver LineFault
at_waive rest = if is (word rest) (codes "waive") then at_pattern (behind rest) else fault BadLine rest

-- nothing, or a comment
unfoldable pub is_idle : (rest : List ℕ) → Bool
is_idle rest = length rest == 0 || slice_index rest 0 == 35

-- What a call returned is what the definition gives, unless memory ran out.
abbrev pub Gives : {A : Type 0} → Result A LineFault → Result A LineFault → Type 0
Gives (Ok x) given = given ≡ Ok x
Gives (Err (Bad kind left)) given = given ≡ Err (Bad kind left)
Gives (Err Memory) given = Unit {0}
