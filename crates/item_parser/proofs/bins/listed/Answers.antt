use Rattle.cov_grammar.proofs.Steps.{exits}
use Rattle.std.proofs.Common.{not, sym, ap, ◌∙◌}
use Rattle.cov_grammar.proofs.Steps.{leads_parses}
use Rattle.item_parser.proofs.BinsWalks.{only_values, rather_values, rather_seqs}
use Rattle.item_parser.proofs.bins.listed.Goals as goal

pub returns-then-is_fixed : goal.returns-then-is_fixed
returns-then-is_fixed c = leads_parses _ (only_values c.args.reader.text.now c.args.reader.tokens.now _ _ _ (ap not (sym c.is_fixed.ensures ∙ c.if-is_fixed.true))) c.values.ensures

pub returns-in_default : goal.returns-in_default
returns-in_default c = leads_parses _ (rather_values c.args.reader.text.now c.args.reader.tokens.now _ _ _ c.in_default.ensures.none) c.values-in_default.ensures

pub returns-in_err-sequences : goal.returns-in_err-sequences
returns-in_err-sequences c = exits _ _ _ _ _ c.from_residual.ensures.1 ((rather_seqs c.args.reader.text.now c.args.reader.tokens.now _ _ _ (ap not (sym c.is_fixed.ensures ∙ c.if-is_fixed.false)) c.in-Some.ensures.here).fails c.in_err-sequences.ensures)

pub returns : goal.returns
returns c = rw c.of.ensures ((rather_seqs c.args.reader.text.now c.args.reader.tokens.now _ _ _ (ap not (sym c.is_fixed.ensures ∙ c.if-is_fixed.false)) c.in-Some.ensures.here).reads c.in_ok-sequences.ensures)
