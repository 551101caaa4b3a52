-- The words of the commands that fill a store.
use Rattle.std.specs.Prelude.{◌≡◌, false, ℕ, List, [], ◌∷◌, codes, bytes_eq, Option, Some, None, if◌then◌else◌}
use Rattle.cov_ground.specs.Limits.{most_tests}
use Rattle.covd_commands.specs.declared.forms.Form.{Form}
use Rattle.covd_commands.specs.declared.forms.Form.TheVariants.{Bins, Holes, Json, Ucis, Html}
use Rattle.covd_commands.specs.Options.{Options, no_options, options_from}
use Rattle.covd_commands.specs.Digits.{written, bounded}

-- rounds of a test, at most
abbrev pub most_rounds : ℕ
most_rounds = 1048576

-- the words are a command's own, options, and others
pub record Asks (command : List ℕ) (words : List (List ℕ)) (options : Options) (further : List (List ℕ)) : Type 0 where
  pub behind : List (List ℕ)
  pub are : words ≡ command ∷ behind
  pub read : options_from None no_options behind ≡ Some (options, further)

-- no options and others are behind such a command's own word
abbrev pub NoneAsked : (command : List ℕ) → List (List ℕ) → Type 0
NoneAsked command words = (options : Options) (word : List ℕ) (further : List (List ℕ)) → Asks command words options (word ∷ further) → ⊥

-- the words are `report`, options, the design's name and the names of one record or more
pub record IsReportCommand (words : List (List ℕ)) (options : Options) (design : List ℕ) (names : List (List ℕ)) : Type 0 where
  pub asks : Asks (codes "report") words options (design ∷ names)
  pub some : names ≡ [] → ⊥

-- the form that a word of `export` names
abbrev pub form_of : (word : List ℕ) → Option Form
form_of word =
    if bytes_eq word (codes "bins") then Some Bins
    else (if bytes_eq word (codes "holes") then Some Holes
    else (if bytes_eq word (codes "json") then Some Json
    else (if bytes_eq word (codes "ucis") then Some Ucis
    else (if bytes_eq word (codes "html") then Some Html else None))))

-- the words are `export`, options other than `--short`, the word of a form, the design's name and the names of one record or more
pub record IsExportCommand (words : List (List ℕ)) (options : Options) (form : Form) (design : List ℕ) (names : List (List ℕ)) : Type 0 where
  pub word : List ℕ
  pub asks : Asks (codes "export") words options (word ∷ design ∷ names)
  pub whole : options.short ≡ false
  pub is_form : form_of word ≡ Some form
  pub some : names ≡ [] → ⊥

-- The words are `make`, options, the design's name and three numbers: the seed in one digit to 20, of at most 64 bits; the rounds in
-- one digit to 7, at most 1,048,576; and the tests in one digit to 4, from 1 to 4,096.
pub record IsMakeCommand (words : List (List ℕ)) (options : Options) (design : List ℕ) (seed rounds tests : ℕ) : Type 0 where
  pub seed_word : List ℕ
  pub rounds_word : List ℕ
  pub tests_word : List ℕ
  pub asks : Asks (codes "make") words options (design ∷ seed_word ∷ rounds_word ∷ tests_word ∷ [])
  pub seed_is : written 20 seed_word ≡ Some seed
  pub rounds_are : bounded 0 most_rounds (written 7 rounds_word) ≡ Some rounds
  pub tests_are : bounded 1 most_tests (written 4 tests_word) ≡ Some tests

abbrev pub IsNoReport : List (List ℕ) → Type 0
IsNoReport words = (options : Options) (design : List ℕ) (names : List (List ℕ)) → IsReportCommand words options design names → ⊥

abbrev pub IsNoExport : List (List ℕ) → Type 0
IsNoExport words = (options : Options) (form : Form) (design : List ℕ) (names : List (List ℕ)) → IsExportCommand words options form design names → ⊥

abbrev pub IsNoMake : List (List ℕ) → Type 0
IsNoMake words = (options : Options) (design : List ℕ) (seed rounds tests : ℕ) → IsMakeCommand words options design seed rounds tests → ⊥
