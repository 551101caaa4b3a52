use Rattle.std.proofs.Common.{◌≡◌, take}
use Rattle.cov_grammar.specs.Designs.{variables}
use Rattle.item_parser.proofs.declarations.typed.Given as goal

abbrev pub invariant-loop-token : goal.invariant-loop-token
invariant-loop-token l = l.decls ≡ variables l.reader.text.now l.fn.typ (take l.token-index l.names)
