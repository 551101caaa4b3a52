use Rattle.std.proofs.Common.{arith}
use Rattle.cov_grammar.proofs.Whole.{stands_first, stands_next, decl_inside, whole_derives, decl_fails}
use Rattle.cov_grammar.specs.Fault.{limits}
use Rattle.item_parser.proofs.DeclWalks.{err_given}
use Rattle.cov_parser.proofs.parsing.design.Goals as goal

pub loop-place-init : goal.loop-place-init
loop-place-init c = rw c.new-decls.ensures (stands_first c.args.reader.text.now c.args.reader.tokens.now limits, omega arith)

pub returns-in_err-more-clause-cause : goal.returns-in_err-more-clause-cause
returns-in_err-more-clause-cause c = err_given _ _ _ c.from_residual.ensures.1 (decl_fails c.args.reader.text.now c.args.reader.tokens.now _ _ c.loop-place.invariant.0 c.loop-place-test.true c.in_err-more.ensures)

pub loop-place-preserved : goal.loop-place-preserved
loop-place-preserved c = rw c.in_ok-append.ensures (stands_next c.args.reader.text.now c.args.reader.tokens.now _ c.loop-place.invariant.0 c.in_ok-more.ensures, (decl_inside c.args.reader.text.now c.args.reader.tokens.now c.in_ok-more.ensures).1)

pub loop-place-smaller : goal.loop-place-smaller
loop-place-smaller c = let i = decl_inside c.args.reader.text.now c.args.reader.tokens.now c.in_ok-more.ensures in omega (arith, i.0, i.1)

pub returns-clause-read : goal.returns-clause-read
returns-clause-read c = whole_derives c.args.reader.text.now c.args.reader.tokens.now _ c.loop-place.invariant.0 (omega (arith, c.loop-place.invariant.1, c.loop-place-test.false))
