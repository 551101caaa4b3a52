-- A bin of a cross is hit exactly where one of all its products is.
use Rattle.std.proofs.Common.{◌≡◌, ℕ, ◌<◌, List, [], length, get_or, true, sym, subst}
use Rattle.std.specs.Prelude.{slice_index_or}
use Rattle.design_data.specs.declared.infos.ItemInfo.{ItemInfo}
use Rattle.design_data.specs.declared.infos.BinInfo.{BinInfo}
use Rattle.design_data.specs.Bins.{sizes_of}
use Rattle.design_data.specs.Crosses.{products}
use Rattle.record_codec.specs.Samples.{Env}
use Rattle.cov_counting.specs.Hits.{holds}
use Rattle.cov_counting.specs.Crosses.{CrossHitAt}
use Rattle.cov_counting.specs.Steps.{SomeProductHit}
use Rattle.cov_counting.proofs.Bins.{Member}
use Rattle.cov_counting.proofs.Products.{index_of, of_index, is_product, in_products}

module _ (items : List ItemInfo) (item : ItemInfo) (axes : List ℕ) (bin : BinInfo) (all : List Env) (k : ℕ) (tried : List (List ℕ)) (e : tried ≡ products (sizes_of items axes)) where
  pub hit_from : holds item.guard (slice_index_or all k []) ≡ true → holds bin.guard (slice_index_or all k []) ≡ true → SomeProductHit items item.bins axes bin tried all k → CrossHitAt items item axes bin all k
  hit_from on bin_on h = record {
    guarded = on;
    bin_guarded = bin_on;
    product = h.1;
    is_product = is_product (sizes_of items axes) h.1 (subst (λ (xs : List (List ℕ)). Member xs h.1) e (of_index tried h.0 h.1 h.2 h.3));
    is_own = h.4.0;
    members = h.4.1;
  }

  pub some_from : CrossHitAt items item axes bin all k → SomeProductHit items item.bins axes bin tried all k
  some_from h =
      let m : (j : ℕ) × (j < length tried) × (get_or tried j h.product ≡ h.product) = index_of tried h.product (subst (λ (xs : List (List ℕ)). Member xs h.product) (sym e) (in_products (sizes_of items axes) h.product h.is_product)) in
      (m.0, h.product, m.1, m.2, (h.is_own, h.members))
