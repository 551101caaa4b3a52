-- What a design may hold.
use Rattle.std.specs.Prelude.{◌≡◌, ℤ, ℕ, ◌+◌, ◌<◌, ◌≤◌, List, [], ◌∷◌, ◌++◌, length, slice_get, IsSomeAnd, IsTrue}
use Rattle.std.specs.List.{AllByRecursion, list_any}
use Rattle.std.proofs.Props.{props}
use Rattle.cov_ground.specs.Limits.{most_signals, most_instances, most_items, most_arguments, most_bins, most_design_bins, most_ranges, most_design_ranges, most_points, most_products, most_cells}
pub use Rattle.bit_width.specs.Widths.{HasWidth}
use Rattle.trans_seq.specs.declared.seq.Seq.{Seq}
use Rattle.trans_seq.specs.Cells.{cells_of_seqs}
use Rattle.cross_select.specs.Products.{product_of}
use Rattle.const_eval.specs.Terms.{typ_of}
use Rattle.design_data.specs.declared.infos.Signal.{Signal}
use Rattle.design_data.specs.declared.infos.GroupInfo.{GroupInfo}
use Rattle.design_data.specs.declared.infos.ItemInfo.{ItemInfo}
use Rattle.design_data.specs.declared.infos.InstInfo.{InstInfo}
use Rattle.design_data.specs.declared.infos.BinInfo.{BinInfo}
use Rattle.design_data.specs.declared.infos.BinKind.{BinKind}
use Rattle.design_data.specs.declared.infos.BinRule.{BinRule}
use Rattle.design_data.specs.declared.infos.BinRule.TheVariants.{Values, Patterns, Trans, Default, DefaultValues, DefaultSequence, Picked, Product}
use Rattle.design_data.specs.declared.infos.ItemShape.{ItemShape}
use Rattle.design_data.specs.declared.infos.ItemShape.TheVariants.{Point, Cross}
use Rattle.design_data.specs.Bins.{is_point, sizes_of, total, numbered_items, bins_in, items_in, IsNumberedFrom, removing_seqs}
use Rattle.design_data.specs.Crosses.{IsProduct, products, fits, has}
use Rattle.design_data.specs.Left.{has_seq_left}

-- ---- sets

-- a set with some number, of not too many intervals
abbrev pub IsSetLeft : List (ℤ × ℤ) → Type 0
IsSetLeft set = (1 ≤ length set) × (length set ≤ most_ranges)

-- the sets of sequences' items have not too many intervals
abbrev pub AreSetsShort : List Seq → Type 0
AreSetsShort seqs = AllByRecursion (λ seq. AllByRecursion (λ item. length item.set ≤ most_ranges) seq.items) seqs

-- the intervals of a bin's set, or of the items of its sequences
abbrev pub ranges_of : BinRule → ℕ
ranges_of (Values set) = length set
ranges_of (Patterns patterns) = 0
ranges_of (Trans seqs) = total (λ seq. total (λ item. length item.set) seq.items) seqs
ranges_of Default = 0
ranges_of (DefaultValues set) = length set
ranges_of DefaultSequence = 0
ranges_of (Picked select) = 0
ranges_of (Product members) = 0

abbrev pub ranges_in : List ItemInfo → ℕ
ranges_in items = total (λ item. total (λ bin. ranges_of bin.rule) item.bins) items

-- ---- bins

-- the rule of a bin of a point, which has something left
abbrev pub IsPointRule : ItemInfo → BinKind → BinRule → Type 0
IsPointRule item kind (Values set) = IsSetLeft set
IsPointRule item kind (Patterns patterns) = 1 ≤ length patterns
IsPointRule item kind (Trans seqs) = (cells_of_seqs seqs ≤ most_cells) × AreSetsShort seqs × IsTrue (has_seq_left (removing_seqs item kind) seqs)
IsPointRule item kind Default = Unit {0}
IsPointRule item kind (DefaultValues set) = IsSetLeft set
IsPointRule item kind DefaultSequence = Unit {0}
IsPointRule item kind (Picked select) = ⊥
IsPointRule item kind (Product members) = ⊥

-- the rule of a bin of a cross of points with so many coverage bins, which has some product left
abbrev pub IsCrossRule : (sizes : List ℕ) → List BinInfo → BinKind → BinRule → Type 0
IsCrossRule sizes bins kind (Values set) = ⊥
IsCrossRule sizes bins kind (Patterns patterns) = ⊥
IsCrossRule sizes bins kind (Trans seqs) = ⊥
IsCrossRule sizes bins kind Default = ⊥
IsCrossRule sizes bins kind (DefaultValues set) = ⊥
IsCrossRule sizes bins kind DefaultSequence = ⊥
IsCrossRule sizes bins kind (Picked select) = IsTrue (fits sizes select) × IsTrue (list_any (has bins kind (Picked select)) (products sizes))
IsCrossRule sizes bins kind (Product members) = IsProduct sizes members

-- ---- items

-- the index is that of a point of the instance
abbrev pub IsPointIndex : List ItemInfo → ℕ → Type 0
IsPointIndex items index = IsSomeAnd (slice_get items index) (λ point. IsTrue (is_point point.shape))

-- a cross of the points at these indexes of the instance
pub record IsCross (items : List ItemInfo) (bins : List BinInfo) (axes : List ℕ) : Type 0 where
  pub few : length axes ≤ most_points
  pub points : AllByRecursion (IsPointIndex items) axes
  pub few_products : product_of (sizes_of items axes) ≤ most_products
  pub rules : AllByRecursion (λ bin. IsCrossRule (sizes_of items axes) bins bin.kind bin.rule) bins

abbrev pub IsShape : List ItemInfo → ItemInfo → ItemShape → Type 0
IsShape items item (Point expr) = HasWidth (typ_of expr).width × AllByRecursion (λ bin. IsPointRule item bin.kind bin.rule) item.bins
IsShape items item (Cross axes) = IsCross items item.bins axes

-- an item of an instance with these items
pub record IsItem (items : List ItemInfo) (item : ItemInfo) : Type 0 where
  pub at_least : 1 ≤ item.at_least
  pub bins : length item.bins ≤ most_bins
  pub removing : cells_of_seqs (item.ignored ++ item.illegal) ≤ most_cells
  pub shape : IsShape items item item.shape

-- ---- designs

-- an instance of one of so many groups
pub record IsInstance (groups : ℕ) (inst : InstInfo) : Type 0 where
  pub group : inst.group < groups
  pub arg_count : length inst.args ≤ most_arguments
  pub args : AllByRecursion (λ arg. HasWidth arg.width) inst.args
  pub items : AllByRecursion (IsItem inst.items) inst.items

-- The parts of a design: all limits hold, each index is one, each bin has something left, and the bins are numbered
-- from 0 without a gap.
pub record IsDesign (signals : List Signal) (groups : List GroupInfo) (instances : List InstInfo) (bin_count : ℕ) : Type 0 where
  pub signal_count : length signals ≤ most_signals
  pub widths : AllByRecursion (λ signal. HasWidth signal.width) signals
  pub instance_count : length instances ≤ most_instances
  pub item_count : items_in instances ≤ most_items
  pub each : AllByRecursion (IsInstance (length groups)) instances
  pub numbered : IsNumberedFrom 0 (numbered_items groups instances)
  pub count : bin_count ≡ bins_in (numbered_items groups instances)
  pub few_bins : bin_count ≤ most_design_bins
  pub few_ranges : ranges_in (numbered_items groups instances) ≤ most_design_ranges

-- ---- each of these is known in one way at most, as a field of a type must be

pub IsProduct-prop : (sizes product : List ℕ) → IsProp (IsProduct sizes product)
IsProduct-prop [] [] = hlevel props
IsProduct-prop [] (bin ∷ product) = hlevel props
IsProduct-prop (size ∷ sizes) [] = hlevel props
IsProduct-prop (size ∷ sizes) (bin ∷ product) = hlevel (props, IsProduct-prop sizes product)

pub IsPointRule-prop : (item : ItemInfo) (kind : BinKind) (rule : BinRule) → IsProp (IsPointRule item kind rule)
IsPointRule-prop item kind (Values set) = hlevel props
IsPointRule-prop item kind (Patterns patterns) = hlevel props
IsPointRule-prop item kind (Trans seqs) = hlevel props
IsPointRule-prop item kind Default = hlevel props
IsPointRule-prop item kind (DefaultValues set) = hlevel props
IsPointRule-prop item kind DefaultSequence = hlevel props
IsPointRule-prop item kind (Picked select) = hlevel props
IsPointRule-prop item kind (Product members) = hlevel props

pub IsCrossRule-prop : (sizes : List ℕ) (bins : List BinInfo) (kind : BinKind) (rule : BinRule) → IsProp (IsCrossRule sizes bins kind rule)
IsCrossRule-prop sizes bins kind (Values set) = hlevel props
IsCrossRule-prop sizes bins kind (Patterns patterns) = hlevel props
IsCrossRule-prop sizes bins kind (Trans seqs) = hlevel props
IsCrossRule-prop sizes bins kind Default = hlevel props
IsCrossRule-prop sizes bins kind (DefaultValues set) = hlevel props
IsCrossRule-prop sizes bins kind DefaultSequence = hlevel props
IsCrossRule-prop sizes bins kind (Picked select) = hlevel props
IsCrossRule-prop sizes bins kind (Product members) = IsProduct-prop sizes members

pub IsCross-prop : (items : List ItemInfo) (bins : List BinInfo) (axes : List ℕ) → IsProp (IsCross items bins axes)
IsCross-prop items bins axes = hlevel (props, IsCrossRule-prop)

pub IsShape-prop : (items : List ItemInfo) (item : ItemInfo) (shape : ItemShape) → IsProp (IsShape items item shape)
IsShape-prop items item (Point expr) = hlevel (props, IsPointRule-prop)
IsShape-prop items item (Cross axes) = IsCross-prop items item.bins axes

pub IsItem-prop : (items : List ItemInfo) (item : ItemInfo) → IsProp (IsItem items item)
IsItem-prop items item = hlevel (props, IsShape-prop)

pub IsInstance-prop : (groups : ℕ) (inst : InstInfo) → IsProp (IsInstance groups inst)
IsInstance-prop groups inst = hlevel (props, IsItem-prop)

pub IsNumberedFrom-prop : (first : ℕ) (items : List ItemInfo) → IsProp (IsNumberedFrom first items)
IsNumberedFrom-prop first [] = hlevel props
IsNumberedFrom-prop first (item ∷ items) = hlevel (props, IsNumberedFrom-prop (first + length item.bins) items)

pub IsDesign-prop : (signals : List Signal) (groups : List GroupInfo) (instances : List InstInfo) (bin_count : ℕ) → IsProp (IsDesign signals groups instances bin_count)
IsDesign-prop signals groups instances bin_count = hlevel (props, IsInstance-prop, IsNumberedFrom-prop)
