-- The words that are answered before any command is looked at: those that ask for help or for the version, alone, or in
-- front of a command's word or behind it.
use Rattle.std.specs.Prelude.{List, [], ◌∷◌, ℕ, Bool, ◌||◌, codes, bytes_eq, is_some, Option, Some, None, option_map, if◌then◌else◌}
use Rattle.text_place.specs.declared.help.Command.{Command}
use Rattle.text_place.specs.declared.help.Command.TheVariants.{Check, Tables, Count, Report, Export, Make, Record, Session, Serve}
use Rattle.text_place.specs.declared.help.Topic.{Topic}
use Rattle.text_place.specs.declared.help.Topic.TheVariants.{Help, Page, Version}

-- the command that a word is
abbrev pub command_of : (word : List ℕ) → Option Command
command_of word =
    if bytes_eq word (codes "check") then Some Check
    else (if bytes_eq word (codes "tables") then Some Tables
    else (if bytes_eq word (codes "count") then Some Count
    else (if bytes_eq word (codes "report") then Some Report
    else (if bytes_eq word (codes "export") then Some Export
    else (if bytes_eq word (codes "make") then Some Make
    else (if bytes_eq word (codes "record") then Some Record
    else (if bytes_eq word (codes "session") then Some Session
    else (if bytes_eq word (codes "serve") then Some Serve else None))))))))

abbrev pub is_help_flag : (word : List ℕ) → Bool
is_help_flag word = bytes_eq word (codes "-h") || bytes_eq word (codes "--help")

-- in front, the word `help` is one too; behind a command it may be the name of a file
abbrev pub is_help : (word : List ℕ) → Bool
is_help word = bytes_eq word (codes "help") || is_help_flag word

abbrev pub is_version : (word : List ℕ) → Bool
is_version word = bytes_eq word (codes "-V") || bytes_eq word (codes "--version")

-- what one word asks for
abbrev pub asked_alone : (word : List ℕ) → Option Topic
asked_alone word = if is_help word then Some Help else (if is_version word then Some Version else None)

-- what a word asks for that stands in front of a command
abbrev pub asked_before : (word : List ℕ) → Command → Option Topic
asked_before word command = if is_help word then Some (Page command) else (if is_version word then Some Version else None)

-- and behind one
abbrev pub asked_behind : Command → (word : List ℕ) → Option Topic
asked_behind command word = if is_help_flag word then Some (Page command) else (if is_version word then Some Version else None)

-- of two words: a command's word is the second, or else the first
abbrev pub asked_by_two : (first second : List ℕ) → (before behind : Option Command) → Option Topic
asked_by_two first second behind (Some command) = asked_before first command
asked_by_two first second (Some command) None = asked_behind command second
asked_by_two first second None None = None

-- what is asked for, if anything is
abbrev pub asked : (words : List (List ℕ)) → Option Topic
asked [] = None
asked (word ∷ []) = asked_alone word
asked (first ∷ second ∷ []) = asked_by_two first second (command_of first) (command_of second)
asked (first ∷ second ∷ third ∷ more) = None
