use Rattle.std.proofs.Common.{ap, length, arith}
use Rattle.elab_order.proofs.Steps.{fits, goes_on}
use Rattle.elab_order.proofs.numbers.number_all.Goals as goal

pub first_bin-first-requires-clause-fits : goal.first_bin-first-requires-clause-fits
first_bin-first-requires-clause-fits c =
    let same = ap length c.as_slice.ensures.value in
    let h = fits c.args.loads.now c.args.instances _ _ _ _ c.in-Some.inst (length c.as_slice.result.now) same c.requires.loads c.requires.bins c.loop-inst.invariant c.in-Some.ensures.steps.0 in
    omega (arith, h)

pub with_numbers-requires : goal.with_numbers-requires
with_numbers-requires c =
    let same = ap length c.as_slice.ensures.value in
    let h = fits c.args.loads.now c.args.instances _ _ _ _ c.in-Some.inst (length c.as_slice.result.now) same c.requires.loads c.requires.bins c.loop-inst.invariant c.in-Some.ensures.steps.0 in
    let e = c.first_bin-first.ensures in
    omega (arith, h, e)

pub loop-inst-preserved : goal.loop-inst-preserved
loop-inst-preserved c =
    let same = ap length c.as_slice.ensures.value in
    goes_on c.args.loads.now _ _ _ _ _ c.in-Some.inst c.in_ok-with_numbers.field-0 (length c.as_slice.result.now) c.first_bin-first.result same c.first_bin-first.ensures c.in_ok-with_numbers.ensures c.loop-inst.invariant c.in-Some.ensures.steps.0 c.in_ok-push.ensures.items
