-- How a proof tells two bound expressions apart: each is what the code keeps in some way.
use Rattle.std.specs.Prelude.{◌≡◌, refl}
use denote.RawPtr.{null_ptr}
use Rattle.std.specs.Coded.{Coded, code_by}
use Rattle.std.specs.Global.{Box}
use Rattle.const_eval.specs.declared.bound.Typed.{Typed}
use Rattle.const_eval.specs.declared.bound.Node.{Number, Name, Part, Alone', Joined', Unary', Binary', Cond'}
use Rattle.const_eval.specs.contracts.bound.Typed as typed
use Rattle.const_eval.specs.Typs.{one_bit, plain}
use Rattle.const_eval.specs.Terms as term
use Rattle.const_eval.specs.Terms.{Term}
use Rattle.const_eval.specs.Nodes.{term_of}

abbrev pub nowhere : Box (Unit {0})
nowhere = record { ptr = null_ptr; alloc = record { memory = record { seal = tt } }; value = tt }

abbrev pub kept : Term → Typed
kept (term.number bits typ) = record { typ = typ; node = Number bits }
kept (term.name meaning at) = record { typ = one_bit; node = Name meaning at }
kept (term.part meaning skip width at) = record { typ = plain width; node = Part meaning skip at }
kept (term.alone inner) = record { typ = one_bit; node = Alone' nowhere (kept inner).typ (kept inner).node }
kept (term.joined front last) = record { typ = one_bit; node = Joined' nowhere (kept front).typ (kept front).node nowhere (kept last).typ (kept last).node }
kept (term.unary op inner) = record { typ = one_bit; node = Unary' op nowhere (kept inner).typ (kept inner).node }
kept (term.binary op left right) = record { typ = one_bit; node = Binary' op nowhere (kept left).typ (kept left).node nowhere (kept right).typ (kept right).node }
kept (term.choice test first second) = record { typ = one_bit; node = Cond' nowhere (kept test).typ (kept test).node nowhere (kept first).typ (kept first).node nowhere (kept second).typ (kept second).node }

pub kept_is : (t : Term) → term_of (kept t) ≡ t
kept_is (term.number bits typ) = refl
kept_is (term.name meaning at) = refl
kept_is (term.part meaning skip width at) = refl
kept_is (term.alone inner) = λ i. term.alone (kept_is inner i)
kept_is (term.joined front last) = λ i. term.joined (kept_is front i) (kept_is last i)
kept_is (term.unary op inner) = λ i. term.unary op (kept_is inner i)
kept_is (term.binary op left right) = λ i. term.binary op (kept_is left i) (kept_is right i)
kept_is (term.choice test first second) = λ i. term.choice (kept_is test i) (kept_is first i) (kept_is second i)

abbrev pub term_code : Coded Term
term_code = code_by Typed typed.the_row.coded kept term_of kept_is
