use Rattle.cov_grammar.specs.Rule.{offset}
use Rattle.cov_grammar.specs.Designs.{written}
use Rattle.item_parser.proofs.MemberWalks.{fault_of}
use Rattle.cov_parser.proofs.CovergroupWalks.{untyped, formal_unnamed, formal_valued, formal_put}
use Rattle.cov_parser.proofs.groups.formal.Goals as goal

pub returns-in_err-typ-clause-fault : goal.returns-in_err-typ-clause-fault
returns-in_err-typ-clause-fault c =
    let s = c.direction-by_ref.ensures c.args.room in
    fault_of _ c.from_residual.ensures.1 (untyped _ _ s.1 c.in_err-typ.ensures)

pub returns-in_err-name-clause-fault : goal.returns-in_err-name-clause-fault
returns-in_err-name-clause-fault c =
    let s = c.direction-by_ref.ensures c.args.room in
    fault_of _ c.from_residual-in_err-name.ensures.1 (formal_unnamed _ _ s.1 c.in_ok-typ.ensures (c.in_err-name.ensures _))

pub returns-in_err-default-clause-fault : goal.returns-in_err-default-clause-fault
returns-in_err-default-clause-fault c =
    let s = c.direction-by_ref.ensures c.args.room in
    fault_of _ c.from_residual-in_err-default.ensures.1 ((formal_valued _ _ s.1 c.in_ok-typ.ensures (c.in_ok-name.ensures _)).fails c.in_err-default.ensures)

pub returns-clause-read : goal.returns-clause-read
returns-clause-read c = let s = c.direction-by_ref.ensures c.args.room in
    let v = written (offset c.args.reader.tokens.now c.args.place.at) s.0 ((c.in_ok-typ.typ, c.in_ok-name.name), c.in_ok-default.default) in
    rw (c.of.ensures, c.put.ensures, c.put-2.ensures, s.2, c.start_at-start.ensures) (v, (formal_valued _ _ s.1 c.in_ok-typ.ensures (c.in_ok-name.ensures _)).reads c.in_ok-default.ensures, formal_put c.args.by_ref v)
