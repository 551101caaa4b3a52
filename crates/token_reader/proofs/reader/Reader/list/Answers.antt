use Rattle.std.proofs.Common.{◌∙◌, ap}
use Rattle.cov_grammar.proofs.Steps.{exits, leads_parses}
use Rattle.token_reader.proofs.Chains.{chain_first, chain_fails}
use Rattle.token_reader.proofs.reader.Reader.list.Goals as goal

pub returns-in_err-at : goal.returns-in_err-at
returns-in_err-at g c = let s = g.met.I.Item.separable c.args.item.now c.args.self.text.now c.args.self.tokens.now in
    exits _ _ _ _ _ c.from_residual.ensures.1 (chain_fails s.lawful g.I.Item.put g.I.Item.separators s.apart c.in_err-at.ensures)

pub returns : goal.returns
returns g c = let s = g.met.I.Item.separable c.args.item.now c.args.self.text.now c.args.self.tokens.now in
    let r = c.in_ok-at.ensures in
    leads_parses _ (chain_first s.lawful g.I.Item.put g.I.Item.separators s.apart r.1 (r.2 ∙ ap (λ xs. g.I.Item.put xs r.0) c.new-list.ensures)) c.more.ensures
