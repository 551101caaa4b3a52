use Rattle.std.proofs.Common.{◌≡◌, ◌+◌, ◌/◌, ℕ, drop, get_or, ap, ◌∙◌, arith}
use Rattle.cross_select.specs.Products.{product_of}
use Rattle.product_bits.proofs.NumberLemmas.{next_stride}
use Rattle.product_bits.proofs.numbers.stride.Goals as goal

pub returns-then-left-eq0 : goal.returns-then-left-eq0
returns-then-left-eq0 c =
    let i = c.loop-size.size-index in
    let invariant = c.loop-size.invariant in
    let here : i ≡ c.args.axis = omega (arith, invariant.left, c.if-left-eq0.true) in
    let next = next_stride c.args.sizes.now i 0 c.loop-size-test.true (omega (arith, invariant.some, invariant.stride)) in
    ap (λ (k : ℕ). k / get_or c.args.sizes.now i 0) invariant.stride ∙ (next.2 ∙ ap (λ (k : ℕ). product_of (drop (k + 1) c.args.sizes.now)) here)
