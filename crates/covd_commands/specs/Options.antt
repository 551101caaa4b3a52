-- Options of a command: words that begin with two hyphens, between the command's own word and its others, in any order and
-- each at most once. The word of two hyphens alone ends them.
use Rattle.std.specs.Prelude.{ℕ, ◌+◌, ◌*◌, List, [], ◌∷◌, codes, bytes_eq, length, eqb, nat_eq, nat_lt, Bool, true, false, not, Option, Some, None, option_map, if◌then◌else◌}
use Rattle.std.specs.List.{starts_with, position_or_len, before_first, after_first}
use Rattle.covd_commands.specs.declared.options.Options.{Options as Coded}
use Rattle.covd_commands.specs.declared.options.Flag.{Flag}
use Rattle.covd_commands.specs.declared.options.Flag.TheVariants.{Short, Passed, KeepGoing}
use Rattle.covd_commands.specs.declared.options.Valued.{Valued}
use Rattle.covd_commands.specs.declared.options.Valued.TheVariants.{Goal, Waivers}
use Rattle.covd_commands.specs.Digits.{written, bounded}

-- ---- a percentage: one digit to 3, and where a point stands behind them, one digit or 2 more; at most 100

abbrev pub is_point : ℕ → Bool
is_point byte = eqb byte 46

-- a number times another
abbrev pub times : ℕ → Option ℕ → Option ℕ
times factor None = None
times factor (Some number) = Some (factor * number)

-- the sum of two
abbrev pub sum_of : Option ℕ → Option ℕ → Option ℕ
sum_of None right = None
sum_of (Some left) None = None
sum_of (Some left) (Some right) = Some (left + right)

-- what the digits behind the point stand for, in millionths of the whole: one is tenths of a percent, two are hundredths
unfoldable pub fraction_of : List ℕ → Option ℕ
fraction_of digits = if nat_eq (length digits) 1 then times 1000 (bounded 0 9 (written 1 digits)) else times 100 (bounded 0 99 (written 2 digits))

-- percent, in millionths of the whole
abbrev pub percent_of : List ℕ → Option ℕ
percent_of digits = times 10000 (bounded 0 100 (written 3 digits))

-- a percentage, in millionths of the whole
unfoldable pub millionths_of : List ℕ → Option ℕ
millionths_of word =
    if nat_lt (position_or_len is_point word) (length word)
    then bounded 0 1000000 (sum_of (percent_of (before_first is_point word)) (fraction_of (after_first is_point word)))
    else percent_of word

-- ---- options

-- what a command is asked for beside its words
pub record Options : Type 0 where
  -- the coverage overall that is to be reached, in millionths
  pub goal : Option ℕ
  -- no line for each test, and no ranking
  pub short : Bool
  -- tests that ended OK alone are merged
  pub passed : Bool
  -- a record that can't be taken in is left out
  pub keep_going : Bool
  -- the name of the file of waivers
  pub waivers : Option (List ℕ)

-- none of them
abbrev pub no_options : Options
no_options = record { goal = None; short = false; passed = false; keep_going = false; waivers = None }

-- a value where none has been given
abbrev pub once : {A : Type 0} → (given : Option A) → (value : Option A) → Option A
once None value = value
once (Some before) value = None

-- what is had with a value, where there is one
abbrev pub filled : {A : Type 0} → (A → Options) → (value : Option A) → Option Options
filled made None = None
filled made (Some value) = Some (made value)

-- the options that have a value, which is the next word
abbrev pub valued_of : (word : List ℕ) → Option Valued
valued_of word =
    if bytes_eq word (codes "--goal") then Some Goal
    else (if bytes_eq word (codes "--waivers") then Some Waivers else None)

-- the option with a value beside those that stand before it; none where it has been given, or can't have the value
abbrev pub with_value : Options → Valued → (value : List ℕ) → Option Options
with_value given Goal value = filled (λ goal. record given { goal = Some goal }) (once given.goal (millionths_of value))
with_value given Waivers value = filled (λ name. record given { waivers = Some name }) (once given.waivers (Some value))

-- the options without a value
abbrev pub flag_of : (word : List ℕ) → Option Flag
flag_of word =
    if bytes_eq word (codes "--short") then Some Short
    else (if bytes_eq word (codes "--passed") then Some Passed
    else (if bytes_eq word (codes "--keep-going") then Some KeepGoing else None))

-- the option beside those that stand before it; none where it has been given
abbrev pub with_flag : Options → Flag → Option Options
with_flag given Short = if given.short then None else Some (record given { short = true })
with_flag given Passed = if given.passed then None else Some (record given { passed = true })
with_flag given KeepGoing = if given.keep_going then None else Some (record given { keep_going = true })

-- the words with which options begin, as no other word does
abbrev pub is_hyphened : List ℕ → Bool
is_hyphened word = starts_with nat_eq word (codes "--")

abbrev pub Found : Type 0
Found = Option (Options × List (List ℕ))

-- what follows options that there are
abbrev pub beside : (Options → Found) → Option Options → Found
beside next None = None
beside next (Some given) = next given

-- what follows the name of an option that there is: of one without a value, or else of one with a value
abbrev pub behind_name : (Flag → Found) → (Valued → Found) → Option Flag → Option Valued → Found
behind_name flagged valued (Some flag) name = flagged flag
behind_name flagged valued None (Some name) = valued name
behind_name flagged valued None None = None

-- The options that words begin with, beside those before them, and the words behind them; the value of an option may be
-- wanted first. None where a word that begins with two hyphens is no option, where an option lacks its value or has one that
-- it can't have, and where it stands twice.
abbrev pub options_from : (wanted : Option Valued) → Options → List (List ℕ) → Found
options_from None given [] = Some (given, [])
options_from (Some name) given [] = None
options_from (Some name) given (value ∷ words) = beside (λ more. options_from None more words) (with_value given name value)
options_from None given (word ∷ words) =
    if bytes_eq word (codes "--") then Some (given, words)
    else (if not (is_hyphened word) then Some (given, word ∷ words)
    else behind_name (λ flag. beside (λ more. options_from None more words) (with_flag given flag)) (λ name. options_from (Some name) given words) (flag_of word) (valued_of word))

-- ---- as the code has them

abbrev pub options_in : Coded → Options
options_in coded = record {
  goal = coded.goal;
  short = coded.short;
  passed = coded.passed;
  keep_going = coded.keep_going;
  waivers = option_map (λ name. name.now) coded.waivers;
}
