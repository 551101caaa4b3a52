use Rattle.std.proofs.Common.{refl}
use Rattle.cov_grammar.specs.Groups.{Setting, Counting}
use Rattle.token_reader.proofs.Walks.{exits_if}
use Rattle.item_parser.proofs.BodyWalks.{option_leads, declaration_leads}
use Rattle.item_parser.proofs.bodies.read_entry.Goals as goal

pub returns-in_err-option-clause-fails : goal.returns-in_err-option-clause-fails
returns-in_err-option-clause-fails g c =
    let b = g.met.D.Declared.beside c.args.reader.text.now c.args.reader.tokens.now in
    exits_if _ _ _ c.from_residual.ensures.1 ((option_leads _ _ b c.in-Some.ensures.here).fails c.in_err-option.ensures)

pub returns-in-Some-clause-read : goal.returns-in-Some-clause-read
returns-in-Some-clause-read g c =
    let b = g.met.D.Declared.beside c.args.reader.text.now c.args.reader.tokens.now in
    (Setting c.in_ok-option.option, (option_leads _ _ b c.in-Some.ensures.here).reads c.in_ok-option.ensures, rw c.in_ok-add.ensures refl)

pub returns-in_err-declaration-clause-fails : goal.returns-in_err-declaration-clause-fails
returns-in_err-declaration-clause-fails g c =
    let b = g.met.D.Declared.beside c.args.reader.text.now c.args.reader.tokens.now in
    exits_if _ _ _ c.from_residual-in_err-declaration.ensures.1 ((declaration_leads _ _ b c.in_default.ensures.none).fails c.in_err-declaration.ensures)

pub returns-clause-read : goal.returns-clause-read
returns-clause-read g c =
    let b = g.met.D.Declared.beside c.args.reader.text.now c.args.reader.tokens.now in
    (Counting c.in_ok-declaration.declaration, (declaration_leads _ _ b c.in_default.ensures.none).reads c.in_ok-declaration.ensures, rw c.in_ok-add-2.ensures refl)
