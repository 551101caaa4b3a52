use Rattle.cov_grammar.proofs.Steps.{counted_reads, counted_sinks, one_next}
use Rattle.token_reader.proofs.Walks.{counted_next}
use Rattle.token_reader.proofs.reader.Reader.operator.Goals as goal

pub returns-then-place-room-clause-full : goal.returns-then-place-room-clause-full
returns-then-place-room-clause-full c = counted_sinks _ _ c.in-Some.ensures.here c.if-place-room.true

pub returns-clause-some : goal.returns-clause-some
returns-clause-some c =
    let r = c.in-Some.ensures.some c.args.room in
    counted_reads _ _ r c.if-place-room.false _ (counted_next _ _ r)

pub returns-clause-behind : goal.returns-clause-behind
returns-clause-behind c = (one_next _ _ (c.in-Some.ensures.some c.args.room)).0

pub returns-clause-inside : goal.returns-clause-inside
returns-clause-inside c = (one_next _ _ (c.in-Some.ensures.some c.args.room)).2
