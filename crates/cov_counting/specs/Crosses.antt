-- When a bin of a cross is hit (IEEE 1800-2017, 19.6).
use Rattle.std.specs.Prelude.{◌≡◌, ℕ, List, [], ◌∷◌, slice_get, slice_index_or, Option, Some, None, true}
use Rattle.const_eval.specs.Terms.{Term}
use Rattle.design_data.specs.declared.infos.ItemInfo.{ItemInfo}
use Rattle.design_data.specs.declared.infos.BinInfo.{BinInfo}
use Rattle.design_data.specs.declared.infos.ItemShape.{ItemShape}
use Rattle.design_data.specs.declared.infos.ItemShape.TheVariants.{Point, Cross}
use Rattle.design_data.specs.Bins.{coverage_bins, sizes_of}
use Rattle.design_data.specs.Crosses.{IsProduct, has}
use Rattle.record_codec.specs.Samples.{Env}
use Rattle.cov_counting.specs.Hits.{holds, HitAt}

-- there is such a bin of the point, and it is hit at the k-th sample
abbrev pub SomeHitAt : ItemInfo → Term → Option BinInfo → List Env → ℕ → Type 0
SomeHitAt item expr None all k = ⊥
SomeHitAt item expr (Some bin) all k = HitAt item expr bin all k

-- the item is a point whose coverage bin of this number is hit at the k-th sample
abbrev pub NumberHitAt : ItemInfo → ItemShape → (number : ℕ) → List Env → ℕ → Type 0
NumberHitAt item (Point expr) number all k = SomeHitAt item expr (slice_get (coverage_bins item) number) all k
NumberHitAt item (Cross axes) number all k = ⊥

abbrev pub MemberHitAt : Option ItemInfo → (number : ℕ) → List Env → ℕ → Type 0
MemberHitAt None number all k = ⊥
MemberHitAt (Some item) number all k = NumberHitAt item item.shape number all k

-- each member of a product of the points with these indexes is hit at the k-th sample
abbrev pub AllHitAt : List ItemInfo → (axes product : List ℕ) → List Env → ℕ → Type 0
AllHitAt items [] product all k = Unit {0}
AllHitAt items (axis ∷ axes) [] all k = ⊥
AllHitAt items (axis ∷ axes) (number ∷ product) all k = MemberHitAt (slice_get items axis) number all k × AllHitAt items axes product all k

-- The bin of a cross is hit at the k-th sample: the guards of the cross and of the bin are true there, and one of the
-- bin's products has all its members hit.
pub record CrossHitAt (items : List ItemInfo) (item : ItemInfo) (axes : List ℕ) (bin : BinInfo) (all : List Env) (k : ℕ) : Type 0 where
  pub guarded : holds item.guard (slice_index_or all k []) ≡ true
  pub bin_guarded : holds bin.guard (slice_index_or all k []) ≡ true
  pub product : List ℕ
  pub is_product : IsProduct (sizes_of items axes) product
  pub is_own : has item.bins bin.kind bin.rule product ≡ true
  pub members : AllHitAt items axes product all k
