-- What holds of an expression as it is kept.
use Rattle.const_eval.specs.Typs.{Typ}
use Rattle.const_eval.specs.declared.bound.Node.{Node, Number, Name, Part, Alone', Joined', Unary', Binary', Cond'}
use Rattle.const_eval.specs.Nodes.{term_in, HasTyp, IsSound}

pub has_typ : (typ : Typ) (node : Node) → IsSound typ node → HasTyp typ (term_in typ node)
has_typ typ (Number bits) h = h
has_typ typ (Name meaning at) h = h
has_typ typ (Part meaning skip at) h = h.0
has_typ typ (Alone' p own inner) h = h.0
has_typ typ (Joined' p front_typ front q last_typ last) h = h.0
has_typ typ (Unary' op p own inner) h = h.0
has_typ typ (Binary' op p left_typ left q right_typ right) h = h.0
has_typ typ (Cond' p test_typ test q first_typ first r second_typ second) h = h.0
