-- How large an expression is: each part of it is smaller.
use Rattle.std.specs.Prelude.{ℕ, ◌+◌, suc}
use Rattle.const_eval.specs.Terms as term
use Rattle.const_eval.specs.Terms.{Term}

abbrev pub size : Term → ℕ
size (term.number bits typ) = 0
size (term.name meaning at) = 0
size (term.part meaning skip width at) = 0
size (term.alone inner) = suc (size inner)
size (term.joined front last) = suc (size front + size last)
size (term.unary op inner) = suc (size inner)
size (term.binary op left right) = suc (size left + size right)
size (term.choice test first second) = suc (size test + (size first + size second))
