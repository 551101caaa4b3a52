use Rattle.std.proofs.Common.{length, ◌∙◌, arith}
use Rattle.journal_file.proofs.Begun.{short_synced}
use Rattle.journal_file.proofs.adding.begin.Goals as goal

pub returns-clause-any_moment : goal.returns-clause-any_moment
returns-clause-any_moment g c = λ t only.
    short_synced g.D.Disk.moment g.D.Disk.left_since g.D.Disk.may_leave c.args.disk.now (λ f left. only f left ∙ c.requires.empty t) (λ f left. g.met.D.Disk.only_now c.args.disk.now f left)
    c.write_at.new.self (length c.empty_journal.result) (omega arith) c.write_at.ensures.crash c.sync.new.self c.write_at.ensures.time c.sync.ensures.time c.sync.ensures.crash
