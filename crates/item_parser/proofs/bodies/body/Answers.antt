use Rattle.cov_grammar.proofs.Steps.{exits}
use Rattle.item_parser.proofs.BodyWalks.{body_semi, no_body, body_opens, entry_read, entry_stops, body_closes, entry_falls}
use Rattle.item_parser.proofs.bodies.body.Goals as goal

pub returns-in-Some : goal.returns-in-Some
returns-in-Some g c =
    let b = g.met.D.Declared.beside c.args.reader.text.now c.args.reader.tokens.now in
    rw (c.new-options.ensures, c.new-declarations.ensures) (body_semi _ _ b c.in-Some.ensures.here (c.in-Some.ensures.some _))

pub returns-in_err-at : goal.returns-in_err-at
returns-in_err-at g c =
    let b = g.met.D.Declared.beside c.args.reader.text.now c.args.reader.tokens.now in
    exits _ _ _ _ _ c.from_residual.ensures.1 (no_body _ _ b c.in_default.ensures.none (c.in_err-at.ensures _))

pub loop-after-init : goal.loop-after-init
loop-after-init g c =
    let b = g.met.D.Declared.beside c.args.reader.text.now c.args.reader.tokens.now in
    rw (c.new-options.ensures, c.new-declarations.ensures) (body_opens _ _ b c.in_default.ensures.none (c.in_ok-at.ensures _))

pub returns-in-Some-take : goal.returns-in-Some-take
returns-in-Some-take g c =
    let b = g.met.D.Declared.beside c.args.reader.text.now c.args.reader.tokens.now in
    body_closes _ _ b _ c.loop-after.invariant c.in-Some-take.ensures.here (c.in-Some-take.ensures.some _)

pub returns-in_err-at-2 : goal.returns-in_err-at-2
returns-in_err-at-2 g c =
    let b = g.met.D.Declared.beside c.args.reader.text.now c.args.reader.tokens.now in
    exits _ _ _ _ _ c.from_residual-in_err-at-2.ensures.1 (entry_stops _ _ b _ _ c.loop-after.invariant c.in_default-take.ensures.none c.in_err-at-2.ensures.fails)

pub loop-after-smaller : goal.loop-after-smaller
loop-after-smaller g c =
    let b = g.met.D.Declared.beside c.args.reader.text.now c.args.reader.tokens.now in
    entry_falls c.args.reader.text.now c.args.reader.tokens.now b.entries b.filled c.in_ok-at-2.ensures.read.1

pub loop-after-preserved : goal.loop-after-preserved
loop-after-preserved g c =
    let b = g.met.D.Declared.beside c.args.reader.text.now c.args.reader.tokens.now in
    entry_read _ _ b _ (c.read_entry.new.options, c.read_entry.new.declarations) c.loop-after.invariant c.in_ok-at-2.ensures.read.1 c.in_ok-at-2.ensures.read.2
