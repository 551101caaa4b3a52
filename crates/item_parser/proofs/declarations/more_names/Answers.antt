use Rattle.std.proofs.Common.{◌∙◌, ap, [], ◌∷◌}
use Rattle.cov_lexer.specs.declared.kind.Kind.TheVariants.{Ident, Comma}
use Rattle.cov_grammar.specs.declared.marked.Marked.{Marked}
use Rattle.cov_grammar.specs.Rule.{word}
use Rattle.token_reader.proofs.Chains.{more_always}
use Rattle.item_parser.proofs.declarations.more_names.Goals as goal

pub returns : goal.returns
returns c = more_always c.args.reader.tokens.now (word c.args.reader.tokens.now Ident) (Comma ∷ []) (c.in_ok-names.ensures ∙ ap (λ (t : Marked). t ∷ []) c.of.ensures) _ c.args.place c.more.result c.more.ensures
