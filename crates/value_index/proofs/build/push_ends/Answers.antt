use Rattle.std.proofs.Common.{◌^◌, ◌+◌, ◌-◌, arith}
use Rattle.std.specs.Prelude.{nat_lt}
use Rattle.std.proofs.lemmas.Bool.{lt-ltb, le-ltb}
use Rattle.value_index.proofs.Counted.{two_ends, one_end}
use Rattle.value_index.proofs.build.push_ends.Goals as goal

pub returns-in_ok-push-2 : goal.returns-in_ok-push-2
returns-in_ok-push-2 c = two_ends (nat_lt c.args.span.now.high (2 ^ 64 - 1)) c.args.cuts.now.items c.push.new.self.items c.push-then-span-lt18446744073709551615.new.self.items c.args.span.now.low (c.args.span.now.high + 1)
    (lt-ltb c.args.span.now.high (2 ^ 64 - 1) (omega (arith, c.if-span-lt18446744073709551615.true))) c.in_ok-push.ensures.items c.in_ok-push-2.ensures.items

pub returns-else-span-lt18446744073709551615 : goal.returns-else-span-lt18446744073709551615
returns-else-span-lt18446744073709551615 c = one_end (nat_lt c.args.span.now.high (2 ^ 64 - 1)) c.args.cuts.now.items c.push.new.self.items c.args.span.now.low (c.args.span.now.high + 1)
    (le-ltb c.args.span.now.high (2 ^ 64 - 1) (omega (arith, c.if-span-lt18446744073709551615.false))) c.in_ok-push.ensures.items
