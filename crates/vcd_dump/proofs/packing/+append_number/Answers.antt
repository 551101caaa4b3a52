use Rattle.std.proofs.Common.{arith}
use Rattle.std.proofs.lemmas.Bool.Decides.{nat_tests}
use Rattle.vcd_dump.proofs.Unpacked.{appended}
use Rattle.vcd_dump.proofs.packing.+append_number.Goals as goal

pub returns : goal.returns
returns t c =
    appended c.args.bytes.now.items c.push-2.new.self.items c.append_number.new.bytes.items c.args.more c.args.n
    (grind (arith, nat_tests, c.if-more-eq0.false)) (grind (arith, nat_tests, c.if-n-lt128.false)) c.in_ok-push-3.ensures.items c.in_ok-append_number.ensures
