-- The bins of products that were hit before.
use Rattle.std.specs.Prelude.{◌≡◌, ℕ, ◌<◌, List, [], length, slice_index_or, Some, nat_eq}
use Rattle.std.specs.HashMap.{get}
use Rattle.design_data.specs.declared.infos.BinInfo.{BinInfo}
use Rattle.design_data.specs.declared.infos.ItemInfo.{ItemInfo}
use Rattle.cross_sampler.specs.Numbers.{product_at}
use Rattle.cross_sampler.specs.Plans.{bins_with}
use Rattle.cross_sampler.specs.declared.known.Known.{Known}
use Rattle.cross_sampler.specs.declared.plan.CrossPlan.{CrossPlan}
use Rattle.cross_sampler.specs.declared.state.CrossState.{CrossState}

-- The row at the place of a number has the bins of the product that has this number.
pub record AreKnown (sizes : List ℕ) (bins : List BinInfo) (known : Known) : Type 0 where
  pub count : known.count ≡ length known.rows
  pub within : (number place : ℕ) → get nat_eq known.places number ≡ Some place → place < length known.rows
  pub at : (number place : ℕ) → get nat_eq known.places number ≡ Some place → slice_index_or known.rows place [] ≡ bins_with bins (product_at sizes number) (length bins)

-- What a cross keeps is of its bins.
pub record Fits (item : ItemInfo) (plan : CrossPlan) (state : CrossState) : Type 0 where
  pub stamps : length state.stamps.items ≡ length item.bins
  pub known : AreKnown plan.sizes item.bins state.known
