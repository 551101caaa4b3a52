use Rattle.std.proofs.Common.{refl}
use Rattle.journal_file.proofs.Longer.{ends_more}
use Rattle.journal_file.proofs.end.End.behind.Goals as goal

pub returns-clause-end : goal.returns-clause-end
returns-clause-end c = λ digest items item e h k. ends_more digest items item c.args.head.now c.args.content.now c.args.self.now _ e h k refl refl c.sum_behind.ensures
