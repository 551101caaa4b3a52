use Rattle.cov_grammar.proofs.Steps.{leads_parses}
use Rattle.item_parser.proofs.BinsWalks.{not_default, no_default, default_part, default_reads}
use Rattle.item_parser.proofs.bins.right.Goals as goal

pub returns-then-not-may_default : goal.returns-then-not-may_default
returns-then-not-may_default c = leads_parses _ (not_default c.args.reader.text.now c.args.reader.tokens.now c.args.wildcard c.args.size.now _ _ (let a = c.may_default.ensures in let n = c.if-not-may_default.true in cc)) c.listed.ensures

pub returns-in_default : goal.returns-in_default
returns-in_default c = leads_parses _ (no_default c.args.reader.text.now c.args.reader.tokens.now c.args.wildcard c.args.size.now _ _ c.in_default.ensures.none) c.listed-in_default.ensures

pub returns : goal.returns
returns c = (default_part c.args.reader.text.now c.args.reader.tokens.now c.args.wildcard c.args.size.now c.args.room c.args.place (let a = c.may_default.ensures in let n = c.if-not-may_default.false in cc) c.in-Some.ensures.here).reads (default_reads c.args.reader.text.now c.args.reader.tokens.now c.args.size.now _ ((c.default_end.ensures c.args.room).2) (c.in-Some.ensures.some _) ((c.default_end.ensures c.args.room).1))
