-- Expressions bound to what their names stand for, or the first fault.
use Rattle.std.specs.Prelude.{◌≡◌, ℕ, ◌+◌, nat_eq, nat_le, nat_lt, ℤ, pos, ◌-ℤ◌, int_lt, unsigned_abs, Bool, true, false, not, ◌&&◌, ◌||◌, if◌then◌else◌, List, [], ◌∷◌, Option, Some, None, Result, Ok, Err}
use Rattle.cov_ground.specs.Limits.{most_bits}
use Rattle.cov_tree.specs.declared.literal.Literal.{Literal}
use Rattle.cov_tree.specs.declared.expr.Expr.{Expr}
use Rattle.cov_tree.specs.declared.expr.Expr.TheViews.{out-Expr}
use Rattle.cov_tree.specs.declared.expr.Expr.TheOpen as expr
use Rattle.cov_tree.specs.declared.expr.Expr.TheOpen.{Expr-F}
use Rattle.cov_tree.specs.declared.expr.Expr.TheFolds.{fold-Expr}
use Rattle.const_eval.specs.Typs.{Typ}
use Rattle.const_eval.specs.declared.meaning.Meaning.{Meaning}
use Rattle.const_eval.specs.declared.meaning.Meaning.TheVariants.{Signal, Const}
use Rattle.const_eval.specs.declared.fault.BindFault.{BindFault}
use Rattle.const_eval.specs.declared.fault.BindFault.TheVariants as fault
use Rattle.const_eval.specs.Scopes.{Names, meaning_of}
use Rattle.const_eval.specs.Terms as term
use Rattle.const_eval.specs.Terms.{Term, item_index, typ_in, low_in, typ_of}
use Rattle.const_eval.specs.Values.{value}

infixl 10 ◌>>=◌
abbrev pub ◌>>=◌ : {A B : Type 0} → Result A BindFault → (A → Result B BindFault) → Result B BindFault
(Ok x) >>= f = f x
(Err e) >>= f = Err e

-- What a function returned is what a definition gives, unless memory ran out.
abbrev pub Fails : {X : Type 0} → BindFault → Result X BindFault → Type 0
Fails fault.Memory answer = Unit {0}
Fails error answer = answer ≡ Err error

abbrev pub Gives : {X : Type 0} → Result X BindFault → Result X BindFault → Type 0
Gives (Ok x) answer = answer ≡ Ok x
Gives (Err error) answer = Fails error answer

-- a width that a type may have
abbrev pub has_width : ℕ → Bool
has_width width = nat_le 1 width && nat_le width most_bits

-- ---- names and literals

abbrev pub literal_typ : Literal → Typ
literal_typ lit = record { width = lit.width; signed = lit.signed }

-- a literal without free bits
abbrev pub literal : Literal → (at : ℕ) → Result Term BindFault
literal lit at = if has_width lit.width then (if nat_eq lit.free 0 then Ok (term.number lit.bits (literal_typ lit)) else Err (fault.UnknownLiteral at)) else Err (fault.TooWide at)

abbrev pub found_as : Option Meaning → (at : ℕ) → Result Meaning BindFault
found_as None at = Err (fault.UnknownName at)
found_as (Some meaning) at = Ok meaning

abbrev pub found : Names → (name : List ℕ) → (at : ℕ) → Result Meaning BindFault
found names name at = found_as (meaning_of names name) at

-- ---- constants

-- the place of the first signal that an expression names, in reading order; `item` counts where that is asked for
abbrev pub signal_in : (with_item : Bool) → Meaning → (at : ℕ) → Option ℕ
signal_in with_item (Signal index typ low) at = if nat_eq index item_index && not with_item then None else Some at
signal_in with_item (Const value typ low) at = None

abbrev pub or_later : Option ℕ → Option ℕ → Option ℕ
or_later None later = later
or_later (Some at) later = Some at

abbrev pub first_signal : (with_item : Bool) → Term → Option ℕ
first_signal with_item (term.number bits typ) = None
first_signal with_item (term.name meaning at) = signal_in with_item meaning at
first_signal with_item (term.part meaning skip width at) = signal_in with_item meaning at
first_signal with_item (term.alone inner) = first_signal with_item inner
first_signal with_item (term.joined front last) = or_later (first_signal with_item front) (first_signal with_item last)
first_signal with_item (term.unary op inner) = first_signal with_item inner
first_signal with_item (term.binary op left right) = or_later (first_signal with_item left) (first_signal with_item right)
first_signal with_item (term.choice test first second) = or_later (first_signal with_item test) (or_later (first_signal with_item first) (first_signal with_item second))

abbrev pub constant_as : Option ℕ → Option ℤ → (at : ℕ) → Result ℤ BindFault
constant_as (Some signal) number at = Err (fault.NotConstant signal)
constant_as None None at = Err (fault.NotConstant at)
constant_as None (Some number) at = Ok number

-- the number of an expression that stands where a constant is needed, at `at`
abbrev pub constant_of : Term → (at : ℕ) → Result ℤ BindFault
constant_of term at = constant_as (first_signal true term) (value term [] None) at

-- ---- selects

-- the index is no place of a span of so many bits from `low` on
abbrev pub is_outside : (low width : ℕ) → (index : ℤ) → Bool
is_outside low width index = int_lt index (pos low) || not (int_lt index (pos (low + width)))

-- the bits from one place of the span, which begins at `base`, to another
abbrev pub bits_between : Meaning → (base : ℕ) → (high low : ℤ) → (at : ℕ) → Term
bits_between meaning base high low at = term.part meaning (unsigned_abs (low -ℤ pos base)) (unsigned_abs (high -ℤ low) + 1) at

abbrev pub selected_from : Option ℕ → Meaning → (high low : ℤ) → (at : ℕ) → Result Term BindFault
selected_from None meaning high low at = Err (fault.BadSelect at)
selected_from (Some base) meaning high low at = if is_outside base (typ_in meaning).width high || is_outside base (typ_in meaning).width low || int_lt high low then Err (fault.BadSelect at) else Ok (bits_between meaning base high low at)

-- bits of the value of a name: a constant of an enumeration has no span, and no bits of it can be selected
abbrev pub selected : Meaning → (high low : ℤ) → (at : ℕ) → Result Term BindFault
selected meaning high low at = selected_from (low_in meaning) meaning high low at

-- ---- expressions

-- An expression as the one around it sees it: bound or its first fault, its place, and whether it is a literal without
-- a size.
pub record Seen : Type 0 where
  pub bound : Result Term BindFault
  pub place : ℕ
  pub unsized : Bool

-- the number of an index, which stands where a constant is needed
abbrev pub index_number : Seen → Result ℤ BindFault
index_number index = do
  term ← index.bound
  constant_of term index.place

-- the first part of a concatenation, or a further one
abbrev pub with_part : Option Term → Term → Term
with_part None next = term.alone next
with_part (Some front) next = term.joined front next

-- the parts from the left, behind what stands before them
abbrev pub parts_behind : Option Term → List Seen → Result (Option Term) BindFault
parts_behind front [] = Ok front
parts_behind front (part ∷ parts) = do
  term ← part.bound
  parts_behind (Some (with_part front term)) parts

abbrev pub any_unsized : List Seen → Bool
any_unsized [] = false
any_unsized (part ∷ parts) = part.unsized || any_unsized parts

-- a concatenation of its parts
abbrev pub concatenated : Option Term → (unsized : Bool) → (at : ℕ) → Result Term BindFault
concatenated None unsized at = Err (fault.TooWide at)
concatenated (Some whole) unsized at = if nat_lt most_bits (typ_of whole).width then Err (fault.TooWide at) else (if unsized then Err (fault.BadConcat at) else Ok whole)

abbrev pub concatenation : Result (Option Term) BindFault → (unsized : Bool) → (at : ℕ) → Result Term BindFault
concatenation parts unsized at = do
  whole ← parts
  concatenated whole unsized at

-- an expression of whose parts each is seen
abbrev pub bound_layer : Names → Expr-F Seen → Result Term BindFault
bound_layer names (expr.Num lit at) = literal lit at
bound_layer names (expr.Name name at) = do
  meaning ← found names name at
  Ok (term.name meaning at)
bound_layer names (expr.Bit name index at) = do
  meaning ← found names name at
  place ← index_number index
  selected meaning place place at
bound_layer names (expr.Part name high low at) = do
  meaning ← found names name at
  last ← index_number high
  first ← index_number low
  selected meaning last first at
bound_layer names (expr.Concat parts at) = concatenation (parts_behind None parts) (any_unsized parts) at
bound_layer names (expr.Unary op arg at) = do
  inner ← arg.bound
  Ok (term.unary op inner)
bound_layer names (expr.Binary op left right at) = do
  first ← left.bound
  second ← right.bound
  Ok (term.binary op first second)
bound_layer names (expr.Cond test yes' no' at) = do
  condition ← test.bound
  first ← yes'.bound
  second ← no'.bound
  Ok (term.choice condition first second)

abbrev pub place_layer : {A : Type 0} → Expr-F A → ℕ
place_layer (expr.Num lit at) = at
place_layer (expr.Name name at) = at
place_layer (expr.Bit name index at) = at
place_layer (expr.Part name high low at) = at
place_layer (expr.Concat parts at) = at
place_layer (expr.Unary op arg at) = at
place_layer (expr.Binary op left right at) = at
place_layer (expr.Cond test yes' no' at) = at

abbrev pub unsized_layer : {A : Type 0} → Expr-F A → Bool
unsized_layer (expr.Num lit at) = not lit.sized
unsized_layer layer = false

-- where an expression begins
abbrev pub place_of : Expr → ℕ
place_of expr = place_layer (out-Expr expr)

-- whether it is a literal without a size
abbrev pub unsized_of : Expr → Bool
unsized_of expr = unsized_layer (out-Expr expr)

abbrev pub seen_layer : Names → Expr-F Seen → Seen
seen_layer names layer = record { bound = bound_layer names layer; place = place_layer layer; unsized = unsized_layer layer }

abbrev pub seen : Names → Expr → Seen
seen names = fold-Expr Seen (seen_layer names)

-- the expression with each name replaced by its meaning, or the first fault
abbrev pub bound_of : Names → Expr → Result Term BindFault
bound_of names expr = (seen names expr).bound
