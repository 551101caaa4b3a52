-- Expressions by their outermost form.
use Rattle.const_eval.specs.Terms as term
use Rattle.const_eval.specs.Terms.{Term}
use Rattle.const_eval.specs.declared.form.Form.{Form}
use Rattle.const_eval.specs.declared.form.Form.TheVariants.{Number, Name, Part, Alone, Joined, Unary, Binary, Choice}

-- the expression of this form
abbrev pub term_of_form : Form Term → Term
term_of_form (Number bits typ) = term.number bits typ
term_of_form (Name meaning at) = term.name meaning at
term_of_form (Part meaning skip width at) = term.part meaning skip width at
term_of_form (Alone inner) = term.alone inner
term_of_form (Joined front last) = term.joined front last
term_of_form (Unary op inner) = term.unary op inner
term_of_form (Binary op left right) = term.binary op left right
term_of_form (Choice test first second) = term.choice test first second
