use Rattle.cov_grammar.proofs.Steps.{exits, leads_self}
use Rattle.token_reader.proofs.Chains.{more_next, more_breaks, more_ends, more_falls}
use Rattle.token_reader.proofs.reader.Reader.more.Goals as goal

pub loop-next-init : goal.loop-next-init
loop-next-init g c = leads_self _ _ _

pub returns-in_err-at : goal.returns-in_err-at
returns-in_err-at g c =
    let s = g.met.I.Item.separable c.args.item.now c.args.self.text.now c.args.self.tokens.now in
    exits _ _ _ _ _ c.from_residual.ensures.1 (more_breaks s.lawful _ _ s.apart _ _ c.separators.ensures c.loop-next.invariant (c.in-Some.ensures.some _) c.in_err-at.ensures)

pub loop-next-preserved : goal.loop-next-preserved
loop-next-preserved g c =
    let s = g.met.I.Item.separable c.args.item.now c.args.self.text.now c.args.self.tokens.now in
    let r = c.in_ok-at.ensures in
    more_next s.lawful _ _ s.apart _ _ c.separators.ensures c.loop-next.invariant (c.in-Some.ensures.some _) r.1 r.2

pub loop-next-smaller : goal.loop-next-smaller
loop-next-smaller g c =
    let s = g.met.I.Item.separable c.args.item.now c.args.self.text.now c.args.self.tokens.now in
    more_falls s.lawful g.I.Item.put _ s.apart c.separators.ensures (c.in-Some.ensures.some c.args.room) c.in_ok-at.ensures.1

pub returns : goal.returns
returns g c =
    let s = g.met.I.Item.separable c.args.item.now c.args.self.text.now c.args.self.tokens.now in
    more_ends s.lawful _ _ s.apart _ _ c.separators.ensures c.loop-next.invariant c.in_default.ensures.none
