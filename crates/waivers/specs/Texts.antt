-- What a report prints of waivers, a line each, which ends with a newline. Numbers are decimal.
use Rattle.std.specs.Prelude.{ℕ, List, [], ◌∷◌, ◌++◌, codes, decimal, length, ◌==◌, if◌then◌else◌}
use Rattle.std.specs.List.{flat_map}
use Rattle.waivers.specs.declared.waiver.Waiver.{Waiver}
use Rattle.waivers.specs.declared.fault.FaultKind.{FaultKind}
use Rattle.waivers.specs.declared.fault.FaultKind.TheVariants.{BadLine, BadPattern, MatchesRoot, BadReason, BadName, BadDate, Extra, LineTooLong, TooMany, TextTooLong}
use Rattle.waivers.specs.Waived.{waived_among}

-- a blank, the reason between quotes
abbrev pub reason_part : (reason : List ℕ) → List ℕ
reason_part reason = 32 ∷ 34 ∷ (reason ++ 34 ∷ [])

-- ` by NAME`, ` on DATE`, or nothing where it isn't given
abbrev pub given_part : (word given : List ℕ) → List ℕ
given_part word given = if length given == 0 then [] else 32 ∷ (word ++ 32 ∷ given)

-- by whom and when, and the line's end
abbrev pub tail_part : Waiver → List ℕ
tail_part waiver = given_part (codes "by") waiver.by ++ (given_part (codes "on") waiver.on ++ 10 ∷ [])

-- waived N PATTERN "REASON" [by NAME] [on DATE], where N nodes match
abbrev pub waived_line : (nodes : ℕ) → Waiver → List ℕ
waived_line nodes waiver =
    codes "waived " ++ (decimal nodes ++ 32 ∷ (waiver.pattern ++ (reason_part waiver.reason ++ tail_part waiver)))

-- stale PATTERN, where no node matches
abbrev pub stale_line : Waiver → List ℕ
stale_line waiver = codes "stale " ++ (waiver.pattern ++ 10 ∷ [])

abbrev pub waiver_line : (nodes : ℕ) → Waiver → List ℕ
waiver_line nodes waiver = if nodes == 0 then stale_line waiver else waived_line nodes waiver

-- a line for each waiver, by the paths of all nodes
abbrev pub waivers_text : (paths : List (List ℕ)) → List Waiver → List ℕ
waivers_text paths waivers =
    flat_map (λ waiver. waiver_line (length (waived_among waiver.pattern paths)) waiver) waivers

-- the word of a kind of fault
unfoldable pub kind_word : FaultKind → List ℕ
kind_word BadLine = codes "BadLine"
kind_word BadPattern = codes "BadPattern"
kind_word MatchesRoot = codes "MatchesRoot"
kind_word BadReason = codes "BadReason"
kind_word BadName = codes "BadName"
kind_word BadDate = codes "BadDate"
kind_word Extra = codes "Extra"
kind_word LineTooLong = codes "LineTooLong"
kind_word TooMany = codes "TooMany"
kind_word TextTooLong = codes "TextTooLong"

-- ` at N`, and the line's end
abbrev pub place_part : (at : ℕ) → List ℕ
place_part at = codes " at " ++ (decimal at ++ 10 ∷ [])

-- waivers refused KIND at N, where N bytes stand before the fault
abbrev pub refused_line : FaultKind → (at : ℕ) → List ℕ
refused_line kind at = codes "waivers refused " ++ (kind_word kind ++ place_part at)
