-- Worked rows of the text of expressions.
use Rattle.std.specs.Prelude.{◌≡◌, refl, ℕ, List, [], ◌∷◌, ◌++◌, codes, decimal, true, false, pos, negsuc, Some, None}
use Rattle.cov_tree.specs.declared.expr.UnOp.TheVariants as unary
use Rattle.cov_tree.specs.declared.expr.BinOp.TheVariants as binary
use Rattle.const_eval.specs.Typs.{Typ, plain}
use Rattle.const_eval.specs.declared.meaning.Meaning.{Meaning}
use Rattle.const_eval.specs.declared.meaning.Meaning.TheVariants as meaning
use Rattle.const_eval.specs.Terms as term
use Rattle.const_eval.specs.Terms.{Term}
use Rattle.design_data.specs.declared.infos.Signal.{Signal}
use Rattle.expr_text.specs.Expressions.{expr_text, number_text}

-- `logic [7:0] a`, `logic [11:4] b`, and the argument `int n` of a sample function
abbrev signals : List Signal
signals = record { name = codes "a"; width = 8; signed = false } ∷ record { name = codes "b"; width = 8; signed = false } ∷ []

abbrev arguments : List Signal
arguments = record { name = codes "n"; width = 32; signed = true } ∷ []

abbrev a : Meaning
a = meaning.Signal 0 (plain 8) 0

abbrev b : Meaning
b = meaning.Signal 1 (plain 8) 4

abbrev signed : Typ
signed = record { width = 8; signed = true }

abbrev text : Term → List ℕ
text term = expr_text signals arguments term

abbrev of : Meaning → Term
of meaning = term.name meaning 0

abbrev five : Term
five = term.number 5 (plain 8)

-- 8'd5
abbrev five_text : List ℕ
five_text = number_text (plain 8) 5

pub number : five_text ≡ decimal 8 ++ (codes "'d" ++ decimal 5)
number = refl

pub sum : text (term.binary binary.Add (of a) five) ≡ codes "(a + " ++ (five_text ++ codes ")")
sum = refl

pub nested : text (term.binary binary.Sshr (term.unary unary.Xnor (of a)) (term.binary binary.LogAnd (of b) (of a))) ≡ codes "((~^a) >>> (b && a))"
nested = refl

pub choice : text (term.choice (of a) (of b) five) ≡ codes "(a ? b : " ++ (five_text ++ codes ")")
choice = refl

-- b[7:5]
pub bits : text (term.part b 1 3 0) ≡ codes "b[" ++ (decimal 7 ++ (codes ":" ++ (decimal 5 ++ codes "]")))
bits = refl

-- b[11]
pub bit : text (term.part b 7 1 0) ≡ codes "b[" ++ (decimal 11 ++ codes "]")
bit = refl

-- a concatenation that is the first part of another
pub parts : text (term.joined (term.joined (term.alone (term.joined (term.alone (of a)) (of b))) (of b)) (of a)) ≡ codes "{{a, b}, b, a}"
parts = refl

pub one_part : text (term.unary unary.Neg (term.alone (of a))) ≡ codes "(-{a})"
one_part = refl

pub argument : text (of (meaning.Signal 4096 (record { width = 32; signed = true }) 0)) ≡ codes "n"
argument = refl

pub item : text (of (meaning.Signal 65535 (plain 8) 0)) ≡ codes "item"
item = refl

pub no_signal : text (of (meaning.Signal 2 (plain 8) 0)) ≡ []
no_signal = refl

-- -5 is 8'sd251
pub negative : text (of (meaning.Const (negsuc 4) signed None)) ≡ decimal 8 ++ (codes "'sd" ++ decimal 251)
negative = refl

-- {8'd13}[3:1]
pub bits_of_constant : text (term.part (meaning.Const (pos 13) (plain 8) (Some 4)) 1 3 0) ≡ codes "{" ++ (number_text (plain 8) 13 ++ (codes "}[" ++ (decimal 3 ++ (codes ":" ++ (decimal 1 ++ codes "]")))))
bits_of_constant = refl
