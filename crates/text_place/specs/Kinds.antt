-- What a file is, by the bytes at its front: the marks of binary files, and the first words of texts.
use Rattle.std.specs.Prelude.{ℕ, Bool, ◌==◌, ◌||◌, false, List, [], ◌∷◌, codes, if◌then◌else◌}
use Rattle.std.specs.List.{starts_with}
use Rattle.text_place.specs.declared.kinds.FileKind.{FileKind}
use Rattle.text_place.specs.declared.kinds.FileKind.TheVariants.{Gzip, FstDump, Program, Record, Dump, PortDump, Source, Other}

-- ---- marks

abbrev pub begins : List ℕ → (mark : List ℕ) → Bool
begins front mark = starts_with ◌==◌ front mark

unfoldable pub begins_any : List ℕ → (marks : List (List ℕ)) → Bool
begins_any front [] = false
begins_any front (mark ∷ marks) = begins front mark || begins_any front marks

-- RFC 1952, 2.3.1
abbrev pub gzip_mark : List ℕ
gzip_mark = 31 ∷ 139 ∷ []

-- a header of 329 bytes, or the whole file compressed
abbrev pub fst_marks : List (List ℕ)
fst_marks = (0 ∷ 0 ∷ 0 ∷ 0 ∷ 0 ∷ 0 ∷ 0 ∷ 1 ∷ 73 ∷ []) ∷ (254 ∷ 0 ∷ 0 ∷ 0 ∷ []) ∷ []

abbrev pub program_mark : List ℕ
program_mark = 127 ∷ codes "ELF"

abbrev pub record_mark : List ℕ
record_mark = codes "CVRC"

-- the words with which the header of a value change dump may begin (IEEE 1800-2017, 21.7.2)
abbrev pub dump_words : List (List ℕ)
dump_words =
    codes "$comment" ∷ codes "$date" ∷ codes "$enddefinitions" ∷ codes "$scope"
    ∷ codes "$timescale" ∷ codes "$var" ∷ codes "$version" ∷ []

-- the words that only an extended one has, which is of ports (21.7.3)
abbrev pub port_words : List (List ℕ)
port_words = codes "$dumpports" ∷ codes "$var port" ∷ codes "$vcdclose" ∷ []

-- the words with which a text of SystemVerilog mostly begins
abbrev pub source_words : List (List ℕ)
source_words =
    codes "//" ∷ codes "/*" ∷ codes "`" ∷ codes "module" ∷ codes "package" ∷ codes "interface"
    ∷ codes "program" ∷ codes "class" ∷ codes "covergroup" ∷ codes "typedef" ∷ codes "bit"
    ∷ codes "logic" ∷ codes "reg" ∷ codes "int" ∷ codes "byte" ∷ codes "import" ∷ []

-- ---- texts

abbrev pub is_blank : ℕ → Bool
is_blank byte = byte == 32 || (byte == 9 || (byte == 10 || byte == 13))

-- the bytes from the first on that is no blank
unfoldable pub from_word : List ℕ → List ℕ
from_word [] = []
from_word (byte ∷ bytes) = if is_blank byte then from_word bytes else byte ∷ bytes

-- one of the words stands somewhere
unfoldable pub has_any : List ℕ → (words : List (List ℕ)) → Bool
has_any [] words = false
has_any (byte ∷ bytes) words = begins_any (byte ∷ bytes) words || has_any bytes words

-- ---- kinds

-- of a text that begins with a word
abbrev pub kind_of_text : List ℕ → FileKind
kind_of_text text =
    if begins_any text dump_words then (if has_any text port_words then PortDump else Dump)
    else (if begins_any text source_words then Source else Other)

-- by its mark where it has one, and else as a text
abbrev pub kind_of : List ℕ → FileKind
kind_of front =
    if begins front record_mark then Record
    else (if begins front gzip_mark then Gzip
    else (if begins_any front fst_marks then FstDump
    else (if begins front program_mark then Program
    else kind_of_text (from_word front))))
