-- The lines of bins and of holes. Each ends with a newline, and numbers are decimal.
use Rattle.std.specs.Prelude.{ℕ, List, [], ◌∷◌, ◌++◌, codes, decimal}
use Rattle.bin_words.specs.Words.{kind_word}
use Rattle.design_data.specs.declared.infos.BinKind.{BinKind}
use Rattle.store_views.specs.declared.state.BinState.{BinState}
use Rattle.store_views.specs.Words.{state_word}

abbrev pub newline : List ℕ
newline = 10 ∷ []

-- STATE PATH, behind a space
abbrev pub standing : BinState → (path : List ℕ) → List ℕ
standing state path = 32 ∷ (state_word state ++ 32 ∷ (path ++ newline))

-- bin NUMBER KIND COUNT STATE PATH
abbrev pub bin_line : (number : ℕ) → BinKind → (count : ℕ) → BinState → (path : List ℕ) → List ℕ
bin_line number kind count state path =
    codes "bin " ++ (decimal number ++ 32 ∷ (kind_word kind ++ 32 ∷ (decimal count ++ standing state path)))

-- holes HOLES of LIVE
abbrev pub holes_line : (holes live : ℕ) → List ℕ
holes_line holes live = codes "holes " ++ (decimal holes ++ (codes " of " ++ (decimal live ++ newline)))

-- item PATH HOLES/LIVE
abbrev pub item_line : (path : List ℕ) → (holes live : ℕ) → List ℕ
item_line path holes live = codes "item " ++ (path ++ 32 ∷ (decimal holes ++ 47 ∷ (decimal live ++ newline)))

-- all PATH.POINT.MEMBER, of a cross
abbrev pub all_line : (path point member : List ℕ) → List ℕ
all_line path point member = codes "all " ++ (path ++ 46 ∷ (point ++ 46 ∷ (member ++ newline)))

-- hole COUNT/AT_LEAST PATH
abbrev pub hole_line : (count at_least : ℕ) → (path : List ℕ) → List ℕ
hole_line count at_least path = codes "hole " ++ (decimal count ++ 47 ∷ (decimal at_least ++ 32 ∷ (path ++ newline)))
