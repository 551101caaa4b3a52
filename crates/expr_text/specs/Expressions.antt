-- What an expression is in a text of SystemVerilog: its names are those of signals and of the arguments of a sample
-- function, and each operation stands in parentheses.
use Rattle.std.specs.Prelude.{ℕ, ◌+◌, ◌-◌, ◌==◌, nat_lt, List, [], ◌++◌, codes, decimal, Bool, true, false, if◌then◌else◌, Option, Some, None, slice_get}
use Rattle.cov_ground.specs.Limits.{most_signals}
use Rattle.const_eval.specs.Typs.{Typ}
use Rattle.const_eval.specs.declared.meaning.Meaning.{Meaning}
use Rattle.const_eval.specs.declared.meaning.Meaning.TheVariants.{Signal, Const}
use Rattle.const_eval.specs.Terms as term
use Rattle.const_eval.specs.Terms.{Term, item_index}
use Rattle.const_eval.specs.Values.{bits_of}
use Rattle.design_data.specs.declared.infos.Signal as infos
use Rattle.expr_text.specs.Operators.{unary_text, binary_text}

-- ---- numbers

-- WIDTH'd, or WIDTH'sd where the type has a sign, and digits (5.7.1)
abbrev pub sized : Typ → (digits : List ℕ) → List ℕ
sized typ digits = decimal typ.width ++ ((if typ.signed then codes "'sd" else codes "'d") ++ digits)

-- A number by its bits, as a literal with a size: it may stand in a concatenation too (11.4.12), and in any place it has
-- these bits and this sign.
abbrev pub number_text : Typ → (bits : ℕ) → List ℕ
number_text typ bits = sized typ (decimal bits)

-- ---- names

abbrev pub name_of : Option infos.Signal → List ℕ
name_of None = []
name_of (Some signal) = signal.name

-- The name of the signal at this index. The arguments of a sample function stand behind the places of all signals that a
-- design may have, and `item` is a name of its own (19.5.1.1). Where there is no such signal, it is empty.
abbrev pub signal_text : (signals arguments : List infos.Signal) → (index : ℕ) → List ℕ
signal_text signals arguments index = if index == item_index then codes "item" else if nat_lt index most_signals then name_of (slice_get signals index) else name_of (slice_get arguments (index - most_signals))

-- what a name stands for: a signal's name, or a number that is known before any sample
abbrev pub meaning_text : (signals arguments : List infos.Signal) → Meaning → List ℕ
meaning_text signals arguments (Signal index typ low) = signal_text signals arguments index
meaning_text signals arguments (Const value typ low) = number_text typ (bits_of typ.width value)

-- ---- bits of a name

-- [HIGH:LOW], or [LOW] of one bit (11.5.1)
abbrev pub bits_text : (low width : ℕ) → List ℕ
bits_text low width = if width == 1 then codes "[" ++ (decimal low ++ codes "]") else codes "[" ++ (decimal (low + width - 1) ++ (codes ":" ++ (decimal low ++ codes "]")))

-- Bits of a name from bit `skip` on, by the numbers that they have in its span. Bits of a number are those of a
-- concatenation of this number alone, whose lowest has the number 0 (11.4.12).
abbrev pub part_text : (signals arguments : List infos.Signal) → Meaning → (skip width : ℕ) → List ℕ
part_text signals arguments (Signal index typ low) skip width = signal_text signals arguments index ++ bits_text (low + skip) width
part_text signals arguments (Const value typ low) skip width = codes "{" ++ (number_text typ (bits_of typ.width value) ++ (codes "}" ++ bits_text skip width))

-- ---- expressions

-- parts of a concatenation, with its braces or without
abbrev pub braced : (with_braces : Bool) → (parts : List ℕ) → List ℕ
braced with_braces parts = if with_braces then codes "{" ++ (parts ++ codes "}") else parts

-- an expression; the parts of a concatenation that others follow have no braces of their own
abbrev pub text_of : (signals arguments : List infos.Signal) → Term → (with_braces : Bool) → List ℕ
text_of signals arguments (term.number bits typ) with_braces = number_text typ bits
text_of signals arguments (term.name meaning at) with_braces = meaning_text signals arguments meaning
text_of signals arguments (term.part meaning skip width at) with_braces = part_text signals arguments meaning skip width
text_of signals arguments (term.alone inner) with_braces = braced with_braces (text_of signals arguments inner true)
text_of signals arguments (term.joined front last) with_braces = braced with_braces (text_of signals arguments front false ++ (codes ", " ++ text_of signals arguments last true))
text_of signals arguments (term.unary op inner) with_braces = codes "(" ++ (unary_text op ++ (text_of signals arguments inner true ++ codes ")"))
text_of signals arguments (term.binary op left right) with_braces = codes "(" ++ (text_of signals arguments left true ++ (codes " " ++ (binary_text op ++ (codes " " ++ (text_of signals arguments right true ++ codes ")")))))
text_of signals arguments (term.choice test first second) with_braces = codes "(" ++ (text_of signals arguments test true ++ (codes " ? " ++ (text_of signals arguments first true ++ (codes " : " ++ (text_of signals arguments second true ++ codes ")")))))

-- an expression that stands by itself
abbrev pub expr_text : (signals arguments : List infos.Signal) → Term → List ℕ
expr_text signals arguments term = text_of signals arguments term true
