use Rattle.std.proofs.Common.{◌≡◌, ◌+◌, ◌/◌, ◌%◌, ◌++◌, ◌∷◌, [], ℕ, List, drop, get_or, ap, sym, ◌∙◌, arith, append_assoc}
use Rattle.cross_select.specs.Products.{product_of}
use Rattle.product_bits.specs.Numbers.{product_at}
use Rattle.product_bits.proofs.NumberLemmas.{next_stride, next_digit}
use Rattle.product_bits.proofs.numbers.product.Goals as goal

pub loop-size-preserved : goal.loop-size-preserved
loop-size-preserved c =
    let i = c.loop-size.size-index in
    let sizes = c.args.sizes.now in
    let n = c.args.number in
    let invariant = c.loop-size.invariant in
    let next = next_stride sizes i 0 c.loop-size-test.true (omega (arith, invariant.some, invariant.stride)) in
    let stride : c.loop-size.stride / get_or sizes i 0 ≡ product_of (drop (i + 1) sizes) = ap (λ (k : ℕ). k / get_or sizes i 0) invariant.stride ∙ next.2 in
    let digit : n / (c.loop-size.stride / get_or sizes i 0) % get_or sizes i 0 ≡ n / product_of (drop (i + 1) sizes) % get_or sizes i 0 = ap (λ (k : ℕ). n / k % get_or sizes i 0) stride in
    let pushed : c.push.new.self ≡ c.loop-size.product ++ (n / product_of (drop (i + 1) sizes) % get_or sizes i 0) ∷ [] = c.in_ok-push.ensures ∙ ap (λ (d : ℕ). c.loop-size.product ++ d ∷ []) digit in
    record {
      some = omega (arith, next.1, stride);
      stride = stride;
      product = ap (λ (xs : List ℕ). xs ++ product_at (drop (i + 1) sizes) n) pushed
          ∙ (append_assoc c.loop-size.product ((n / product_of (drop (i + 1) sizes) % get_or sizes i 0) ∷ []) (product_at (drop (i + 1) sizes) n)
          ∙ (ap (λ (xs : List ℕ). c.loop-size.product ++ xs) (sym (next_digit sizes i 0 n c.loop-size-test.true)) ∙ invariant.product));
    }
