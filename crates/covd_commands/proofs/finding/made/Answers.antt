use Rattle.covd_commands.proofs.Found.{too_long}
use Rattle.covd_commands.proofs.finding.made.Goals as goal

pub returns-in_ok-too_much-in-Err-TooLong : goal.returns-in_ok-too_much-in-Err-TooLong
returns-in_ok-too_much-in-Err-TooLong c =
    let h = rw c.in-Err-TooLong.field-0-is at c.in-Err-TooLong.ensures in
    too_long c.args.design.now c.args.seed c.args.rounds c.args.test c.in-Err-TooLong.n c.in_ok-too_much-in-Err-TooLong.field-0 c.in_ok-too_much-in-Err-TooLong.ensures h
