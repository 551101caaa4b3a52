use Rattle.std.proofs.Common.{sym, inl}
use Rattle.merge_store.specs.Stores.{opening_of, entries_of}
use Rattle.store_parts.proofs.Refusing.{refused_so, made_so}
use Rattle.merge_store.proofs.store.Store.revise.Goals as goal

pub returns-in-Err-clause-answer : goal.returns-in-Err-clause-answer
returns-in-Err-clause-answer c = refused_so (opening_of c.args.self.now) (entries_of c.args.self.now) c.args.rebinned c.in-Err.fault c.args.caller c.in-Err.ensures.refused

pub returns-in-Ok-take_up-clause-answer : goal.returns-in-Ok-take_up-clause-answer
returns-in-Ok-take_up-clause-answer c = inl (record { answer = sym (made_so (opening_of c.args.self.now) (entries_of c.args.self.now) c.args.rebinned c.in-Ok.ready.after c.args.caller c.in-Ok.ensures.may); entries = c.in-Ok-take_up.ensures.done })
