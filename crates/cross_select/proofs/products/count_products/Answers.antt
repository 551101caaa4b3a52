use Rattle.std.proofs.Common.{◌*◌, ◌+◌, sym, ◌∙◌, refl}
use Rattle.cross_select.specs.Products.{product_of}
use Rattle.cross_select.proofs.ProductLemmas.{zero_among, next_product, too_many}
use Rattle.cross_select.proofs.products.count_products.Goals as goal

pub returns-then-contains : goal.returns-then-contains
returns-then-contains c = rw (zero_among c.args.sizes.now (sym c.contains.ensures.value ∙ c.if-contains.true)) refl

pub returns-then-count-gt-MOST_PRODUCTS : goal.returns-then-count-gt-MOST_PRODUCTS
returns-then-count-gt-MOST_PRODUCTS c =
    let none = sym c.contains.ensures.value ∙ c.if-contains.false in
    let next = next_product c.loop-size.count c.loop-size.size-index (product_of c.args.sizes.now) c.args.sizes.now c.loop-size-test.true c.loop-size.invariant.so_far in
    too_many (c.loop-size.count * c.from-count.result) (c.loop-size.size-index + 1) c.args.sizes.now none c.if-count-gt-MOST_PRODUCTS.true (rw c.from-count.ensures next)
