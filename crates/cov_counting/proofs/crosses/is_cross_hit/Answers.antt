use Rattle.std.proofs.Common.{◌≡◌, List, [], true, subst, sym, ap, ◌∙◌}
use Rattle.std.specs.Prelude.{slice_index_or, IfOk, ◌↔◌}
use Rattle.design_data.specs.declared.infos.BinInfo.{BinInfo}
use Rattle.design_data.specs.Bins.{sizes_of}
use Rattle.design_data.specs.Crosses.{products}
use Rattle.cov_counting.specs.Hits.{holds}
use Rattle.cov_counting.specs.Crosses.{CrossHitAt}
use Rattle.cov_counting.specs.Steps.{SomeProductHit}
use Rattle.cov_counting.proofs.Products.{told}
use Rattle.cov_counting.proofs.CrossHits.{hit_from, some_from}
use Rattle.cov_counting.proofs.Windows.{at_any}
use Rattle.cov_counting.proofs.crosses.is_cross_hit.Goals as goal

pub returns : goal.returns
returns c =
    let items = c.args.items.now in
    let item = c.args.item.now in
    let axes = c.args.axes.now in
    let bin = c.args.bin.now in
    let all = c.args.samples.now in
    let k = c.args.k in
    let tried = c.as_slice-2.result.now in
    let env : c.as_slice-env.result.now ≡ slice_index_or all k [] = c.as_slice-env.ensures ∙ at_any all k c.index-samples-k.result [] c.requires.sample c.index-samples-k.is in
    let e : tried ≡ products (sizes_of items axes) = c.as_slice-2.ensures ∙ c.in_ok-products.ensures ∙ ap products (c.as_slice.ensures ∙ c.in_ok-sizes.ensures) in
    let on : holds item.guard (slice_index_or all k []) ≡ true = ap (holds item.guard) (sym env) ∙ sym c.holds.ensures ∙ c.if-not-holds.false in
    let bin_on : holds bin.guard (slice_index_or all k []) ≡ true = ap (holds bin.guard) (sym env) ∙ sym c.bin_holds.ensures ∙ c.if-not-bin_holds.false in
    let some = subst (λ (bs : List BinInfo). IfOk c.is_product_hit.result (λ hit. (hit ≡ true) ↔ SomeProductHit items bs axes bin tried all k)) c.as_slice-bins.ensures c.is_product_hit.ensures in
    told (SomeProductHit items item.bins axes bin tried all k) (CrossHitAt items item axes bin all k)
    (hit_from items item axes bin all k tried e on bin_on) (some_from items item axes bin all k tried e) c.is_product_hit.result some
