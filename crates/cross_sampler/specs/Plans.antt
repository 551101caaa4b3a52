-- What is worked out of a cross once for a design.
use Rattle.std.specs.Prelude.{◌≡◌, ℕ, ◌<◌, ◌≤◌, List, [], filter, length, slice_index_or, slice_get, Option, Some, None, Bool, true, false}
use Rattle.std.specs.List.{All, range_with_len}
use Rattle.cov_ground.specs.Limits.{most_bins, most_products}
use Rattle.cross_select.specs.Products.{product_of}
use Rattle.design_data.specs.declared.infos.BinInfo.{BinInfo}
use Rattle.design_data.specs.declared.infos.BinRule.{BinRule}
use Rattle.design_data.specs.declared.infos.BinRule.TheVariants.{Values, Patterns, Trans, Default, DefaultValues, DefaultSequence, Picked, Product}
use Rattle.design_data.specs.Crosses.{IsProduct, has}
use Rattle.cross_sampler.specs.Numbers.{product_at, weights_of}
use Rattle.cross_sampler.specs.declared.plan.CrossPlan.{CrossPlan}
use Rattle.cross_sampler.specs.declared.plan.Table.{Table}
use Rattle.cross_sampler.specs.declared.plan.Table.TheVariants.{Rows, Scan, Nothing}

-- the rule is that of a declared bin
abbrev pub is_picked : BinRule → Bool
is_picked (Values set) = false
is_picked (Patterns patterns) = false
is_picked (Trans seqs) = false
is_picked Default = false
is_picked (DefaultValues set) = false
is_picked DefaultSequence = false
is_picked (Picked select) = true
is_picked (Product members) = false

-- the rule is that of an automatic bin
abbrev pub is_automatic : BinRule → Bool
is_automatic (Values set) = false
is_automatic (Patterns patterns) = false
is_automatic (Trans seqs) = false
is_automatic Default = false
is_automatic (DefaultValues set) = false
is_automatic DefaultSequence = false
is_automatic (Picked select) = false
is_automatic (Product members) = true

-- from this index on there is no declared bin
pub record IsDeclaredEnd (bins : List BinInfo) (declared : ℕ) : Type 0 where
  pub within : declared ≤ length bins
  pub none : (b : ℕ) (bin : BinInfo) → declared ≤ b → slice_get bins b ≡ Some bin → is_picked bin.rule ≡ false

-- from this index on no bin has a guard
pub record IsGuardEnd (bins : List BinInfo) (end : ℕ) : Type 0 where
  pub within : end ≤ length bins
  pub none : (b : ℕ) (bin : BinInfo) → end ≤ b → slice_get bins b ≡ Some bin → bin.guard ≡ None

abbrev pub bin_has : List BinInfo → (product : List ℕ) → Option BinInfo → Bool
bin_has bins product None = false
bin_has bins product (Some bin) = has bins bin.kind bin.rule product

-- there is a bin at the index, and the product is one of its products
abbrev pub has_at : List BinInfo → (product : List ℕ) → ℕ → Bool
has_at bins product b = bin_has bins product (slice_get bins b)

-- the indexes of those of the first n bins that have the product
abbrev pub bins_with : List BinInfo → (product : List ℕ) (n : ℕ) → List ℕ
bins_with bins product n = filter (has_at bins product) (range_with_len 0 n)

-- each row has those of the first n bins that have the product of its number
abbrev pub HaveBins : (sizes : List ℕ) → List BinInfo → (n : ℕ) → (rows : List (List ℕ)) → Type 0
HaveBins sizes bins n rows = (number : ℕ) → number < length rows → slice_index_or rows number [] ≡ bins_with bins (product_at sizes number) n

-- the rows are those of all products
pub record AreRows (sizes : List ℕ) (bins : List BinInfo) (n : ℕ) (rows : List (List ℕ)) : Type 0 where
  pub all : length rows ≡ product_of sizes
  pub at : HaveBins sizes bins n rows

-- where there are products, each of the points has some coverage bin, and products are told by their numbers
pub record HasProducts (sizes weights : List ℕ) : Type 0 where
  pub some : All (λ size. 0 < size) sizes
  pub are_weights : weights ≡ weights_of sizes

abbrev pub IsTable : (sizes weights : List ℕ) → List BinInfo → Table → Type 0
IsTable sizes weights bins (Rows rows) = HasProducts sizes weights × AreRows sizes bins (length bins) rows
IsTable sizes weights bins Scan = HasProducts sizes weights
IsTable sizes weights bins Nothing = (product : List ℕ) → IsProduct sizes product → ⊥

-- what is worked out of a cross with these bins
pub record IsPlan (bins : List BinInfo) (plan : CrossPlan) : Type 0 where
  pub few_bins : length bins ≤ most_bins
  pub few : product_of plan.sizes ≤ most_products
  pub declared : IsDeclaredEnd bins plan.declared
  pub guards : IsGuardEnd bins plan.guards
  pub table : IsTable plan.sizes plan.weights bins plan.table
