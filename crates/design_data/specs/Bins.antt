-- The bins of points and crosses (IEEE 1800-2017, 19.5 and 19.6), and how they are numbered.
use Rattle.std.specs.Prelude.{◌≡◌, ℕ, ◌+◌, ◌==◌, List, [], ◌∷◌, ◌++◌, length, map, filter, slice_get, Option, Some, None, Bool, true, false}
use Rattle.std.specs.List.{flat_map}
use Rattle.trans_seq.specs.declared.seq.Seq.{Seq}
use Rattle.design_data.specs.declared.infos.ItemInfo.{ItemInfo}
use Rattle.design_data.specs.declared.infos.InstInfo.{InstInfo}
use Rattle.design_data.specs.declared.infos.GroupInfo.{GroupInfo}
use Rattle.design_data.specs.declared.infos.BinInfo.{BinInfo}
use Rattle.design_data.specs.declared.infos.BinKind.{BinKind}
use Rattle.design_data.specs.declared.infos.BinKind.TheVariants.{CvgBin, IllegalBin, IgnoreBin, DefaultBin}
use Rattle.design_data.specs.declared.infos.BinRule.{BinRule}
use Rattle.design_data.specs.declared.infos.BinRule.TheVariants.{Values, Patterns, Trans, Default, DefaultValues, DefaultSequence, Picked, Product}
use Rattle.design_data.specs.declared.infos.ItemShape.{ItemShape}
use Rattle.design_data.specs.declared.infos.ItemShape.TheVariants.{Point, Cross}

-- ---- kinds of items and bins

-- the bins that count for coverage
abbrev pub is_coverage : BinKind → Bool
is_coverage CvgBin = true
is_coverage IllegalBin = false
is_coverage IgnoreBin = false
is_coverage DefaultBin = false

-- the coverage bins of an item, in order: a product counts these
abbrev pub coverage_bins : ItemInfo → List BinInfo
coverage_bins item = filter (λ bin. is_coverage bin.kind) item.bins

abbrev pub is_point : ItemShape → Bool
is_point (Point expr) = true
is_point (Cross axes) = false

-- the sequences of a transition bin
abbrev pub seqs_of : BinRule → List Seq
seqs_of (Values set) = []
seqs_of (Patterns patterns) = []
seqs_of (Trans seqs) = seqs
seqs_of Default = []
seqs_of (DefaultValues set) = []
seqs_of DefaultSequence = []
seqs_of (Picked select) = []
seqs_of (Product members) = []

-- The sequences whose windows a transition bin of this kind doesn't count (19.5.5, 19.5.6): an ignore bin loses what
-- is illegal, and an illegal bin nothing.
abbrev pub removing_seqs : ItemInfo → BinKind → List Seq
removing_seqs item CvgBin = item.ignored ++ item.illegal
removing_seqs item IgnoreBin = item.illegal
removing_seqs item IllegalBin = []
removing_seqs item DefaultBin = []

-- how many coverage bins an item of an instance has, if there is one
abbrev pub size_of : Option ItemInfo → ℕ
size_of None = 0
size_of (Some item) = length (coverage_bins item)

-- the numbers of coverage bins of the crossed points
abbrev pub sizes_of : List ItemInfo → List ℕ → List ℕ
sizes_of items axes = map (λ axis. size_of (slice_get items axis)) axes

-- ---- numbers

-- the sum of a number of each element
abbrev pub total : {X : Type 0} → (X → ℕ) → List X → ℕ
total f [] = 0
total f (x ∷ xs) = f x + total f xs

-- how many bins items have
abbrev pub bins_in : List ItemInfo → ℕ
bins_in items = total (λ item. length item.bins) items

-- how many items instances have
abbrev pub items_in : List InstInfo → ℕ
items_in instances = total (λ inst. length inst.items) instances

-- the items of the instances of a group
abbrev pub items_of_group : List InstInfo → ℕ → List ItemInfo
items_of_group instances group = flat_map (λ inst. inst.items) (filter (λ inst. inst.group == group) instances)

-- the items of the instances of groups, the first of which has this index
abbrev pub items_from : List InstInfo → ℕ → List GroupInfo → List ItemInfo
items_from instances first [] = []
items_from instances first (group ∷ groups) = items_of_group instances first ++ items_from instances (first + 1) groups

-- The items of all instances in the order in which their bins are numbered: group by group, and in each group by its
-- instances.
abbrev pub numbered_items : List GroupInfo → List InstInfo → List ItemInfo
numbered_items groups instances = items_from instances 0 groups

-- the bins of items are numbered from this number on without a gap
abbrev pub IsNumberedFrom : ℕ → List ItemInfo → Type 0
IsNumberedFrom first [] = Unit {0}
IsNumberedFrom first (item ∷ items) = (item.first_bin ≡ first) × IsNumberedFrom (first + length item.bins) items
