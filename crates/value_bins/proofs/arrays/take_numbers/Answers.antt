use Rattle.std.proofs.Common.{arith, subst, ◌<◌, ◌≤◌, ◌-◌, ℕ, ap}
use Rattle.value_bins.proofs.Taking.{takes_whole, takes_part, takes_rest, none_left, none_before, cut_added}
use Rattle.value_bins.proofs.arrays.take_numbers.Goals as goal

pub loop-missing-preserved : goal.loop-missing-preserved
loop-missing-preserved c =
    let fits = subst (λ (n : ℕ). n ≤ c.loop-missing.missing) c.size_of-size.ensures.size c.if-missing-size.false in
    takes_whole c.loop-missing.bin.items c.loop-missing.rest.items c.push-in-loop-missing.new.self.items c.pop.new.self.items c.loop-missing.missing (c.loop-missing.missing - c.size_of-size.result) c.in-Some.range c.loop-missing.invariant c.in-Some.ensures.items fits c.in_ok-push-3.ensures.items (ap (λ (n : ℕ). c.loop-missing.missing - n) c.size_of-size.ensures.size)

pub returns-in_default-clause-taken : goal.returns-in_default-clause-taken
returns-in_default-clause-taken c =
    let none' = none_left _ c.loop-missing.rest.items c.pop.new.self.items c.in_default.ensures.cases.0 c.in_default.ensures.rest in
    (takes_rest c.loop-missing.bin.items c.loop-missing.rest.items c.pop.new.self.items c.loop-missing.missing c.loop-missing.invariant (none_before _ _ c.in_default.ensures.items none') none').taken

pub returns-in_default-clause-left : goal.returns-in_default-clause-left
returns-in_default-clause-left c =
    let none' = none_left _ c.loop-missing.rest.items c.pop.new.self.items c.in_default.ensures.cases.0 c.in_default.ensures.rest in
    (takes_rest c.loop-missing.bin.items c.loop-missing.rest.items c.pop.new.self.items c.loop-missing.missing c.loop-missing.invariant (none_before _ _ c.in_default.ensures.items none') none').left

pub returns-then-missing-size-clause-taken : goal.returns-then-missing-size-clause-taken
returns-then-missing-size-clause-taken c =
    let fits = subst (λ (n : ℕ). c.loop-missing.missing < n) c.size_of-size.ensures.size c.if-missing-size.true in
    let added = cut_added c.loop-missing.bin.items c.push-then-missing-size.new.self.items c.in-Some.range.0 c.plus-then-missing-size.result c.loop-missing.missing (omega (arith, c.loop-missing-test.true)) c.plus-then-missing-size.ensures c.in_ok-push-2.ensures.items in
    (takes_part c.loop-missing.bin.items c.loop-missing.rest.items c.push-then-missing-size.new.self.items c.pop.new.self.items c.push.new.self.items c.loop-missing.missing c.in-Some.range.0 c.in-Some.range.1 c.plus.result c.loop-missing.invariant c.in-Some.ensures.items fits c.plus.ensures c.in_ok-push.ensures.items added).taken

pub returns-then-missing-size-clause-left : goal.returns-then-missing-size-clause-left
returns-then-missing-size-clause-left c =
    let fits = subst (λ (n : ℕ). c.loop-missing.missing < n) c.size_of-size.ensures.size c.if-missing-size.true in
    let added = cut_added c.loop-missing.bin.items c.push-then-missing-size.new.self.items c.in-Some.range.0 c.plus-then-missing-size.result c.loop-missing.missing (omega (arith, c.loop-missing-test.true)) c.plus-then-missing-size.ensures c.in_ok-push-2.ensures.items in
    (takes_part c.loop-missing.bin.items c.loop-missing.rest.items c.push-then-missing-size.new.self.items c.pop.new.self.items c.push.new.self.items c.loop-missing.missing c.in-Some.range.0 c.in-Some.range.1 c.plus.result c.loop-missing.invariant c.in-Some.ensures.items fits c.plus.ensures c.in_ok-push.ensures.items added).left
