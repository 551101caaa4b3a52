use Rattle.std.proofs.Common.{◌≡◌, ◌+◌, ◌-◌, ◌*◌, ◌%◌, ◌<◌, ap, sym, ◌∙◌, length, arith}
use Rattle.product_bits.proofs.WordLemmas.{step_done}
use Rattle.product_bits.proofs.runs.repeat.Goals as goal

pub loop-i-preserved : goal.loop-i-preserved
loop-i-preserved c f again first =
    let words = c.loop-i.words in
    let i = c.loop-i.i in
    let period = c.args.period in
    let inside : i < length words = omega (arith, c.loop-i-test.true, c.loop-i.auto.words) in
    let before = c.loop-i.invariant f again first in
    step_done words i c.window.result inside f before (λ n e.
    let from : i * 64 - period + n % 64 + period ≡ n = omega (arith, c.requires.period, c.loop-i.auto.i) in
    c.window.ensures (n % 64) (omega arith) ∙ (before (i * 64 - period + n % 64) (omega (arith, c.requires.period, c.loop-i.auto.i)) ∙ (sym (again (i * 64 - period + n % 64)) ∙ ap f from)))

pub returns : goal.returns
returns c f again first n lt = c.loop-i.invariant f again first n (omega (arith, c.loop-i-test.false))
