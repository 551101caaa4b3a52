-- What the lines of a waivers file say, told by their form alone, and not by how they are read.
use Rattle.std.specs.Prelude.{◌≡◌, ◌⊎◌, ◌↔◌, ◌<◌, ◌≤◌, ℕ, List, [], ◌∷◌, ◌++◌, codes, length, map, Ok, Some, None, Bool, IsTrue}
use Rattle.std.specs.List.{list_all, slice_split}
use Rattle.waivers.specs.declared.waiver.Waiver.{Waiver}
use Rattle.waivers.specs.Patterns.{IsMatch}
use Rattle.waivers.specs.Lines.{is_blank, is_pattern, is_reason, is_name, is_date}
use Rattle.waivers.specs.Reading.{longest_text, longest_line, most_waivers, without_return, is_newline, read_line, reading}

-- spaces and tabs, of which there may be none
abbrev pub are_blanks : List ℕ → Bool
are_blanks bytes = list_all is_blank bytes

-- one of them at least
abbrev pub IsGap : List ℕ → Type 0
IsGap bytes = (0 < length bytes) × IsTrue (are_blanks bytes)

-- a word and what is given behind it, with a gap before each
pub record IsWritten (key given text : List ℕ) : Type 0 where
  pub gap : List ℕ
  pub later_gap : List ℕ
  pub spelled : text ≡ gap ++ (key ++ (later_gap ++ given))
  pub parted : IsGap gap
  pub later_parted : IsGap later_gap

-- the same, where what is given passes the test; or nothing, where nothing is given
abbrev pub IsOptional : (key : List ℕ) → (List ℕ → Bool) → (given text : List ℕ) → Type 0
IsOptional key test given text = ((given ≡ []) × (text ≡ [])) ⊎ (IsTrue (test given) × IsWritten key given text)

-- waive PATTERN "REASON" [by NAME] [on YYYY-MM-DD]
pub record IsWaiver (line : List ℕ) (waiver : Waiver) : Type 0 where
  pub indent : List ℕ
  pub gap : List ℕ
  pub later_gap : List ℕ
  pub by_part : List ℕ
  pub on_part : List ℕ
  pub trailing : List ℕ
  pub spelled : line ≡ indent ++ (codes "waive" ++ (gap ++ (waiver.pattern
      ++ (later_gap ++ (34 ∷ (waiver.reason ++ (34 ∷ (by_part ++ (on_part ++ trailing)))))))))
  pub indented : IsTrue (are_blanks indent)
  pub parted : IsGap gap
  pub later_parted : IsGap later_gap
  pub trailed : IsTrue (are_blanks trailing)
  pub pattern_allowed : IsTrue (is_pattern waiver.pattern)
  pub not_all : IsMatch waiver.pattern [] → ⊥
  pub reason_allowed : IsTrue (is_reason waiver.reason)
  pub name_given : IsOptional (codes "by") is_name waiver.by by_part
  pub date_given : IsOptional (codes "on") is_date waiver.on on_part

-- blanks, and a comment behind them or nothing
pub record IsPassedOver (line : List ℕ) : Type 0 where
  pub indent : List ℕ
  pub rest : List ℕ
  pub spelled : line ≡ indent ++ rest
  pub indented : IsTrue (are_blanks indent)
  pub comment : (rest ≡ []) ⊎ ((text : List ℕ) × (rest ≡ 35 ∷ text))

-- lines within their limit, of which each is a waiver or is passed over, have these waivers, in order
abbrev pub AreWaivers : List (List ℕ) → List Waiver → Type 0
AreWaivers [] waivers = waivers ≡ []
AreWaivers (line ∷ lines) waivers = (length line ≤ longest_line) × ((IsPassedOver line × AreWaivers lines waivers)
    ⊎ ((waiver : Waiver) × (more : List Waiver) × (waivers ≡ waiver ∷ more) × IsWaiver line waiver
    × AreWaivers lines more))

-- a text within the limits has these waivers
pub record HasWaivers (text : List ℕ) (waivers : List Waiver) : Type 0 where
  pub within : length text ≤ longest_text
  pub few : length waivers ≤ most_waivers
  pub lines : AreWaivers (map without_return (slice_split is_newline text)) waivers

-- ---- laws

-- a line within its limit is read as a waiver where it has the form of that waiver, and only there
abbrev pub LinesSayWaivers : Type 0
LinesSayWaivers = (at : ℕ) (line : List ℕ) (waiver : Waiver) → length line ≤ longest_line
    → (read_line at line ≡ Ok (Some waiver)) ↔ IsWaiver line waiver

-- and as no waiver where it is blank or a comment
abbrev pub LinesSayNothing : Type 0
LinesSayNothing = (at : ℕ) (line : List ℕ) → length line ≤ longest_line
    → (read_line at line ≡ Ok None) ↔ IsPassedOver line

-- a text is read as waivers where it has them, and only there
abbrev pub TextsSayWaivers : Type 0
TextsSayWaivers = (text : List ℕ) (waivers : List Waiver) → (reading text ≡ Ok waivers) ↔ HasWaivers text waivers
