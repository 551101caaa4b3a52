use Rattle.std.proofs.Common.{◌≡◌, ◌&&◌, sym, ◌∙◌, arith}
use Rattle.product_bits.specs.Marks.{is_marked}
use Rattle.product_bits.proofs.SetLemmas.{shares_product}
use Rattle.product_bits.proofs.bits.ProductBits.shares.Goals as goal

pub returns : goal.returns
returns c sizes one two e marks more =
    let same : c.as_slice.result.now ≡ c.args.self.now = c.as_slice.ensures.value ∙ c.self.view_is in
    let also : c.as_slice-2.result.now ≡ c.args.other.now = c.as_slice-2.ensures.value ∙ c.other.view_is in
    let first = c.first_shared.result in
    shares_product sizes c.args.self.now c.args.other.now c.args.count first one two e marks more (omega (arith, c.first_shared.ensures.range))
    (λ n le lt. (λ i. is_marked (sym same i) n && is_marked (sym also i) n) ∙ c.first_shared.ensures.before n le lt)
    (λ lt. (λ i. is_marked (sym same i) first && is_marked (sym also i) first) ∙ c.first_shared.ensures.at lt)
