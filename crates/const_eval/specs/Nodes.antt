-- How the code keeps a bound expression. Public contracts cite none of it.
use Rattle.std.specs.Prelude.{ℕ, ◌+◌, ◌≤◌, ◌≡◌}
use Rattle.cov_ground.specs.Limits.{most_bits}
use Rattle.const_eval.specs.Typs.{Typ}
use Rattle.const_eval.specs.declared.bound.Typed.{Typed}
use Rattle.const_eval.specs.declared.bound.Node.{Node, Number, Name, Part, Alone', Joined', Unary', Binary', Cond'}
use Rattle.const_eval.specs.Terms as term
use Rattle.const_eval.specs.Terms.{Term, typ_of, typ_in}

abbrev pub term_in : Typ → Node → Term
term_in typ (Number bits) = term.number bits typ
term_in typ (Name meaning at) = term.name meaning at
term_in typ (Part meaning skip at) = term.part meaning skip typ.width at
term_in typ (Alone' p own inner) = term.alone (term_in own inner)
term_in typ (Joined' p front_typ front q last_typ last) = term.joined (term_in front_typ front) (term_in last_typ last)
term_in typ (Unary' op p own inner) = term.unary op (term_in own inner)
term_in typ (Binary' op p left_typ left q right_typ right) = term.binary op (term_in left_typ left) (term_in right_typ right)
term_in typ (Cond' p test_typ test q first_typ first r second_typ second) = term.choice (term_in test_typ test) (term_in first_typ first) (term_in second_typ second)

abbrev pub term_of : Typed → Term
term_of typed = term_in typed.typ typed.node

-- The type that is kept with an expression is its own.
abbrev pub HasTyp : Typ → Term → Type 0
HasTyp typ term = typ ≡ typ_of term

-- the bits that are selected are among those of the name
abbrev pub IsWithin : Typ → (skip width : ℕ) → Type 0
IsWithin typ skip width = (skip + width ≤ typ.width) × (typ.width ≤ most_bits)

-- each expression in it has its type
abbrev pub IsSound : Typ → Node → Type 0
IsSound typ (Number bits) = HasTyp typ (term.number bits typ)
IsSound typ (Name meaning at) = HasTyp typ (term.name meaning at)
IsSound typ (Part meaning skip at) = HasTyp typ (term.part meaning skip typ.width at) × IsWithin (typ_in meaning) skip typ.width
IsSound typ (Alone' p own inner) = HasTyp typ (term.alone (term_in own inner)) × IsSound own inner
IsSound typ (Joined' p front_typ front q last_typ last) = HasTyp typ (term.joined (term_in front_typ front) (term_in last_typ last)) × (front_typ.width + last_typ.width ≤ most_bits) × IsSound front_typ front × IsSound last_typ last
IsSound typ (Unary' op p own inner) = HasTyp typ (term.unary op (term_in own inner)) × IsSound own inner
IsSound typ (Binary' op p left_typ left q right_typ right) = HasTyp typ (term.binary op (term_in left_typ left) (term_in right_typ right)) × IsSound left_typ left × IsSound right_typ right
IsSound typ (Cond' p test_typ test q first_typ first r second_typ second) = HasTyp typ (term.choice (term_in test_typ test) (term_in first_typ first) (term_in second_typ second)) × IsSound test_typ test × IsSound first_typ first × IsSound second_typ second

abbrev pub IsTyped : Typed → Type 0
IsTyped typed = IsSound typed.typ typed.node
