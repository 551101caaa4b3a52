use Rattle.std.proofs.Common.{arith, sym, inl, inr}
use Rattle.std.proofs.lemmas.Bool.{cases_lt}
use Rattle.cov_lexer.proofs.Found.{close_inside, close_past}
use Rattle.cov_lexer.proofs.pieces.comment_close.Goals as goal

pub returns-then-stands : goal.returns-then-stands
returns-then-stands c = record {
  behind = c.loop-close.invariant.from;
  closes = sym c.if-stands.ensures;
  first = c.loop-close.invariant.none;
  inside = close_inside c.args.text.now c.loop-close.close c.loop-close.invariant.inside (sym c.if-stands.ensures);
}

pub returns : goal.returns
returns c = λ q l. elim (cases_lt q c.loop-close.close) [
  | inl s ↦ c.loop-close.invariant.none q l s
  | inr g ↦ close_past c.args.text.now q (let e = c.loop-close-test.false in omega arith)
]
