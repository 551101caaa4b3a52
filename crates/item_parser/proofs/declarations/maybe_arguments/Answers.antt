use Rattle.std.proofs.Common.{Some, None, refl}
use Rattle.item_parser.proofs.DeclWalks.{no_arguments, arguments_empty, arguments_fail, arguments_close, err_given}
use Rattle.item_parser.proofs.declarations.maybe_arguments.Goals as goal

pub returns-in_default-clause-read : goal.returns-in_default-clause-read
returns-in_default-clause-read c = (None, no_arguments c.args.reader.text.now c.args.reader.tokens.now c.in_default.ensures.none, c.new.ensures)

pub returns-in-Some-take-clause-read : goal.returns-in-Some-take-clause-read
returns-in-Some-take-clause-read c = (Some None, arguments_empty c.args.reader.text.now c.args.reader.tokens.now (c.in-Some.ensures.some _) (c.in-Some-take.ensures.some _), c.new-in-Some-take.ensures)

pub returns-in_err-args-clause-fails : goal.returns-in_err-args-clause-fails
returns-in_err-args-clause-fails c = err_given _ _ _ c.from_residual.ensures.1 (arguments_fail c.args.reader.text.now c.args.reader.tokens.now _ (c.in-Some.ensures.some _) c.in_default-take.ensures.none c.in_err-args.ensures)

pub returns-in_err-end-clause-fails : goal.returns-in_err-end-clause-fails
returns-in_err-end-clause-fails c = err_given _ _ _ c.from_residual-in_err-end.ensures.1 ((arguments_close c.args.reader.text.now c.args.reader.tokens.now (c.in-Some.ensures.some _) c.in_ok-args.ensures).fails (c.in_err-end.ensures _))

pub returns-clause-read : goal.returns-clause-read
returns-clause-read c = (Some (Some c.in_ok-args.args), (arguments_close c.args.reader.text.now c.args.reader.tokens.now (c.in-Some.ensures.some _) c.in_ok-args.ensures).reads (c.in_ok-end.ensures _), refl)
