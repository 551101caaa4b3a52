use Rattle.std.proofs.Common.{ap, ◌++◌, false}
use Rattle.cov_grammar.specs.Marking.{marked, marked_from}
use Rattle.cov_parser.proofs.Keeping.{mark_all, mark_next}
use Rattle.cov_parser.proofs.marks.marks.Goals as goal

pub loop-token-init : goal.loop-token-init
unfolding marked
loop-token-init c = λ text h. (h, ap (λ xs. xs ++ marked_from text false c.args.tokens.now) c.in_ok-found.ensures.items)

pub loop-token-preserved : goal.loop-token-preserved
loop-token-preserved c = λ text h.
    let i = c.loop-token.invariant text h in
    let e = c.in-Some.ensures.cases.0 in
    let all = mark_all text c.in-Some.token.now c.in-Some.later.now c.loop-token.rest.now i.0 e in
    mark_next text c.args.tokens.now c.loop-token.named c.in-Some.token.now c.in-Some.later.now c.loop-token.rest.now c.loop-token.found.items _ _ _
    i e (c.with_neighbours.ensures text all) c.is_one_of-named.ensures c.in_ok-push.ensures.items
