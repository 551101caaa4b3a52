use Rattle.std.proofs.Common.{sym, inl}
use Rattle.store_parts.proofs.Excluding.{exclude_made}
use Rattle.merge_store.proofs.store.Store.exclude.Goals as goal

pub returns-in-Ok-clause-answer : goal.returns-in-Ok-clause-answer
returns-in-Ok-clause-answer c = inl (record { answer = sym (exclude_made c.args.self.now.keeps c.args.caller c.args.path.now c.in_ok-node.node c.in_ok-node.ensures.may); entries = c.in-Ok.ensures.done })
