-- Reading a dump, word by word, with the first fault that is met.
--
-- What a word may be follows from what stands before it (Expected). A word that may not stand there is Syntax, and so is
-- the end of the text where a word is missing. Each `$scope` is left by an `$upscope` before `$enddefinitions`.
use Rattle.std.specs.Prelude.{◌≡◌, ℕ, List, [], ◌∷◌, ◌-◌, codes, length, take, drop, slice_index, nat_lt, Option, Some, None, Result, Ok, Err, Bool, false, if◌then◌else◌}
use Rattle.name_map.specs.Names.{meaning_of}
use Rattle.vcd_dump.specs.declared.fault.Fault.{Fault}
use Rattle.vcd_dump.specs.declared.fault.Fault.TheVariants.{Syntax, TimeBack, UnknownCode, Memory}
use Rattle.vcd_dump.specs.declared.fault.DumpFault.{DumpFault}
use Rattle.vcd_dump.specs.declared.fault.DumpFault.TheVariants as refusals
use Rattle.vcd_dump.specs.declared.dump.Dump.{Dump}
use Rattle.vcd_dump.specs.declared.header.Code.{Code}
use Rattle.vcd_dump.specs.declared.header.Keyword.{Keyword}
use Rattle.vcd_dump.specs.declared.header.Keyword.TheVariants as keyword
use Rattle.vcd_dump.specs.declared.body.Kind.{Kind}
use Rattle.vcd_dump.specs.declared.body.Kind.TheVariants as kind
use Rattle.vcd_dump.specs.declared.reading.Expected.{Expected}
use Rattle.vcd_dump.specs.declared.reading.Expected.TheVariants.{Declaration, Text, ScopeType, ScopeName, Close, LastClose, VarType, VarSize, VarCode, VarName, VarSelect, Statement, Comment, VectorCode, SkippedCode}
use Rattle.vcd_dump.specs.declared.reading.Reading.{Reading}
use Rattle.vcd_dump.specs.Words.{Word, words}
use Rattle.vcd_dump.specs.Numbers.{number_in}
use Rattle.vcd_dump.specs.Values.{are_digits, change_of}
use Rattle.vcd_dump.specs.Header.{is, keyword_of, joined, outer, size_of, code_of, with_code, is_open, with_var}
use Rattle.vcd_dump.specs.Body.{kind_of, steps_of, at_time, with_change}
use Rattle.vcd_dump.specs.Gives.{◌>>=◌}

abbrev pub is_end : List ℕ → Bool
is_end text = is text (codes "$end")

abbrev pub next : Expected → Reading → Reading
next expected r = record r { expected = expected }

-- any word but $end
abbrev pub unless_end : Word → Result Reading Fault → Result Reading Fault
unless_end w read = if is_end w.text then Err (Syntax w.left) else read

-- ---- declarations

-- the innermost scope ends here
abbrev pub leave : Word → Option (List (List ℕ)) → Reading → Result Reading Fault
leave w None r = Err (Syntax w.left)
leave w (Some scopes) r = Ok (record r { expected = Close; header = record r.header { scopes = scopes } })

abbrev pub declaration : Keyword → Word → Reading → Result Reading Fault
declaration keyword.Text w r = Ok (next Text r)
declaration keyword.Scope w r = Ok (next ScopeType r)
declaration keyword.Upscope w r = leave w (outer r.header.scopes) r
declaration keyword.Var w r = Ok (next VarType r)
declaration keyword.EndDefinitions w r = if nat_lt 0 (length r.header.scopes) then Err (Syntax w.left) else Ok (next LastClose r)
declaration keyword.Other w r = Err (Syntax w.left)

-- text up to $end
abbrev pub skipped : Expected → Expected → Word → Reading → Result Reading Fault
skipped behind again w r = Ok (next (if is_end w.text then behind else again) r)

abbrev pub scope_named : Word → Reading → Result Reading Fault
scope_named w r = unless_end w (Ok (record r { expected = Close; header = record r.header { scopes = joined r.header.scopes w.text ∷ r.header.scopes } }))

-- $end, and nothing else
abbrev pub closed : Expected → Word → Reading → Result Reading Fault
closed behind w r = if is_end w.text then Ok (next behind r) else Err (Syntax w.left)

abbrev pub var_sized : Option ℕ → Word → Reading → Result Reading Fault
var_sized None w r = Err (Syntax w.left)
var_sized (Some size) w r = Ok (next (VarCode size) r)

abbrev pub var_coded : ℕ → Word → Reading → Result Reading Fault
var_coded width w r = unless_end w (Ok (record r { expected = VarName (code_of r.header.codes w.text width); header = with_code w.text width r.header }))

abbrev pub var_named : Code → Word → Reading → Result Reading Fault
var_named code w r = unless_end w (Ok (record r { expected = VarSelect code; kept = w.text }))

-- a select, or $end
abbrev pub var_selected : Code → Word → Reading → Result Reading Fault
var_selected code w r =
    if is_end w.text
    then Ok (record r { expected = Declaration; header = with_var r.kept [] code r.header })
    else if is_open (slice_index w.text 0) then Ok (record r { expected = Close; header = with_var r.kept w.text code r.header }) else Err (Syntax w.left)

-- ---- changes

-- a change of these digits, where the code is one that is declared; this word has the code
abbrev pub changed : List ℕ → Option Code → Word → Reading → Result Reading Fault
changed digits None w r = Err (UnknownCode w.left)
changed digits (Some code) w r = Ok (record r { expected = Statement; body = with_change (change_of code digits) r.body })

abbrev pub timed : Option ℕ → Word → Reading → Result Reading Fault
timed None w r = Err (Syntax w.left)
timed (Some time) w r = do
  body ← at_time w.left time r.body
  Ok (record r { body = body })

-- a digit and its code, which is one byte or more
abbrev pub scalar : Word → Reading → Result Reading Fault
scalar w r = if nat_lt 1 (length w.text) then changed (take 1 w.text) (meaning_of r.header.codes (drop 1 w.text)) w r else Err (Syntax w.left)

-- digits, the code of which is the next word
abbrev pub vector : Word → Reading → Result Reading Fault
vector w r = if are_digits (drop 1 w.text) then Ok (record r { expected = VectorCode; kept = drop 1 w.text }) else Err (Syntax w.left)

abbrev pub statement : Kind → Word → Reading → Result Reading Fault
statement kind.Time w r = timed (number_in 10 (drop 1 w.text)) w r
statement kind.Scalar w r = scalar w r
statement kind.Vector w r = vector w r
statement kind.Skipped w r = Ok (next SkippedCode r)
statement kind.Mark w r = Ok r
statement kind.Comment w r = Ok (next Comment r)
statement kind.Other w r = Err (Syntax w.left)

abbrev pub vector_coded : Word → Reading → Result Reading Fault
vector_coded w r = unless_end w (changed r.kept (meaning_of r.header.codes w.text) w r)

-- ---- all of a dump

-- one word more
abbrev pub word_as : Expected → Word → Reading → Result Reading Fault
word_as Declaration w r = declaration (keyword_of w.text) w r
word_as Text w r = skipped Declaration Text w r
word_as ScopeType w r = unless_end w (Ok (next ScopeName r))
word_as ScopeName w r = scope_named w r
word_as Close w r = closed Declaration w r
word_as LastClose w r = closed Statement w r
word_as VarType w r = unless_end w (Ok (next VarSize r))
word_as VarSize w r = var_sized (size_of w.text) w r
word_as (VarCode width) w r = var_coded width w r
word_as (VarName code) w r = var_named code w r
word_as (VarSelect code) w r = var_selected code w r
word_as Statement w r = statement (kind_of w.text) w r
word_as Comment w r = skipped Statement Comment w r
word_as VectorCode w r = vector_coded w r
word_as SkippedCode w r = unless_end w (Ok (next Statement r))

unfoldable pub read_word : Word → Reading → Result Reading Fault
read_word w r = word_as r.expected w r

unfoldable pub read_words : List Word → Reading → Result Reading Fault
read_words [] r = Ok r
read_words (w ∷ ws) r = do
  more ← read_word w r
  read_words ws more

-- nothing is read yet
abbrev pub nothing_read : Reading
nothing_read = record { expected = Declaration; header = record { vars = []; codes = []; scopes = [] }; kept = []; body = record { items = []; begun = false; time = 0 } }

abbrev pub dump_of : Reading → Dump
dump_of r = record { vars = r.header.vars; steps = steps_of r.body.items }

-- the text may end between statements alone
abbrev pub ended_as : Expected → Reading → Result Dump Fault
ended_as Statement r = Ok (dump_of r)
ended_as Declaration r = Err (Syntax 0)
ended_as Text r = Err (Syntax 0)
ended_as ScopeType r = Err (Syntax 0)
ended_as ScopeName r = Err (Syntax 0)
ended_as Close r = Err (Syntax 0)
ended_as LastClose r = Err (Syntax 0)
ended_as VarType r = Err (Syntax 0)
ended_as VarSize r = Err (Syntax 0)
ended_as (VarCode width) r = Err (Syntax 0)
ended_as (VarName code) r = Err (Syntax 0)
ended_as (VarSelect code) r = Err (Syntax 0)
ended_as Comment r = Err (Syntax 0)
ended_as VectorCode r = Err (Syntax 0)
ended_as SkippedCode r = Err (Syntax 0)

abbrev pub ended : Reading → Result Dump Fault
ended r = ended_as r.expected r

-- the dump that is all of the bytes, or their first fault
unfoldable pub whole : List ℕ → Result Dump Fault
whole bytes = do
  r ← read_words (words bytes) nothing_read
  ended r

-- ---- places from the front

-- bytes of a dump
abbrev pub longest_dump : ℕ
longest_dump = 33554432

-- the fault in so many bytes
abbrev pub told : ℕ → Fault → DumpFault
told total (Syntax left) = refusals.Syntax (total - left)
told total (TimeBack left) = refusals.TimeBack (total - left)
told total (UnknownCode left) = refusals.UnknownCode (total - left)
told total Memory = refusals.Memory

abbrev pub from_front : {A : Type 0} → ℕ → Result A Fault → Result A DumpFault
from_front total (Ok x) = Ok x
from_front total (Err fault) = Err (told total fault)

-- the dump that the bytes write, or the first fault: its place is the number of bytes before the word that is at fault
unfoldable pub reading : List ℕ → Result Dump DumpFault
reading bytes = from_front (length bytes) (whole bytes)

-- A call read this, or met this fault; want of memory alone is free.
abbrev pub HasRead : Result Dump DumpFault → Result Dump DumpFault → Type 0
HasRead (Ok dump) read = read ≡ Ok dump
HasRead (Err (refusals.Syntax at)) read = read ≡ Err (refusals.Syntax at)
HasRead (Err (refusals.TimeBack at)) read = read ≡ Err (refusals.TimeBack at)
HasRead (Err (refusals.UnknownCode at)) read = read ≡ Err (refusals.UnknownCode at)
HasRead (Err (refusals.BadEvent at)) read = ⊥
HasRead (Err (refusals.NoSignal n)) read = ⊥
HasRead (Err (refusals.WidthDiffers n)) read = ⊥
HasRead (Err (refusals.TooManyEvents n)) read = ⊥
HasRead (Err (refusals.TooLong n)) read = ⊥
HasRead (Err refusals.Memory) read = Unit {0}
