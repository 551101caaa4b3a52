-- What counting promises: laws of tallies, each proved as the contract of a function of the module `laws`.
use Rattle.std.specs.Prelude.{◌≡◌, ◌≢◌, ◌⊎◌, ℕ, suc, ◌+◌, ◌<◌, ◌≤◌, List, ◌∷◌, ◌++◌, length, take, drop, slice_get, slice_index, slice_index_or, [], Option, Some, false}
use Rattle.const_eval.specs.Terms.{Term}
use Rattle.cov_spec.specs.Number.{Number}
use Rattle.trans_seq.specs.declared.seq.Seq.{Seq}
use Rattle.trans_seq.specs.Windows.{InSome}
use Rattle.design_data.specs.declared.infos.ItemInfo.{ItemInfo}
use Rattle.design_data.specs.declared.infos.InstInfo.{InstInfo}
use Rattle.design_data.specs.declared.infos.BinInfo.{BinInfo}
use Rattle.design_data.specs.declared.infos.BinRule.TheVariants.{Trans, Product}
use Rattle.design_data.specs.declared.infos.ItemShape.TheVariants.{Point, Cross}
use Rattle.design_data.specs.declared.design.Design.{Design}
use Rattle.design_data.specs.Bins.{coverage_bins, removing_seqs}
use Rattle.design_data.specs.Laws.{Value}
use Rattle.record_codec.specs.declared.record.Record.{Record}
use Rattle.record_codec.specs.declared.record.Event.{Event}
use Rattle.record_codec.specs.declared.record.Event.TheVariants.{Sample}
use Rattle.record_codec.specs.Samples.{Env, samples_of}
use Rattle.cov_counting.specs.Hits.{holds, trace, HitAt}
use Rattle.cov_counting.specs.Tallies.{Hit, IsBin, IsTally}

-- count is the number of the first n samples at which the bin is hit
abbrev pub CountsUpTo : List ItemInfo → ItemInfo → BinInfo → List Env → (n count : ℕ) → Type 0
CountsUpTo items item bin all n count = Number (Hit items item bin all) n count

-- One more sample raises a bin's count by one or not at all.
abbrev pub RisesAtMostOnce : Type 0
RisesAtMostOnce = (items : List ItemInfo) (item : ItemInfo) (bin : BinInfo) (all : List Env) (n before after : ℕ)
    → CountsUpTo items item bin all n before → CountsUpTo items item bin all (suc n) after → (after ≡ before) ⊎ (after ≡ before + 1)

-- A sample at which the point's guard isn't true raises none of its bins.
abbrev pub StaysOutsideTrace : Type 0
StaysOutsideTrace = (items : List ItemInfo) (item : ItemInfo) (bin : BinInfo) (expr : Term) (all : List Env) (n before after : ℕ)
    → item.shape ≡ Point expr → holds item.guard (slice_index_or all n []) ≡ false
    → CountsUpTo items item bin all n before → CountsUpTo items item bin all (suc n) after → after ≡ before

-- the second record is the first with one more sample, which is of this instance
pub record AddsSample (r s : Record) (instance : ℕ) : Type 0 where
  pub signals : s.signals ≡ r.signals
  pub instances : s.instances ≡ r.instances
  pub front : List Event
  pub back : List Event
  pub args : List (Option ℕ)
  pub was : r.events ≡ front ++ back
  pub is : s.events ≡ front ++ Sample instance args ∷ back

-- A sample of an instance changes the count of no bin of another.
abbrev pub OthersStay : Type 0
OthersStay = (d : Design) (r s : Record) (instance other : ℕ) → other ≢ instance → AddsSample r s other
    → (a b : List ℕ) → IsTally d r a → IsTally d s b
    → (inst : InstInfo) (item : ItemInfo) (bin : BinInfo) (number : ℕ) → IsBin d instance inst item bin number → slice_index b number ≡ slice_index a number

-- A bin's count is at most the number of its instance's samples.
abbrev pub AtMostSamples : Type 0
AtMostSamples = (d : Design) (r : Record) (counts : List ℕ) → IsTally d r counts
    → (instance : ℕ) (inst : InstInfo) (item : ItemInfo) (bin : BinInfo) (number : ℕ) → IsBin d instance inst item bin number
    → slice_index counts number ≤ length (samples_of r instance)

-- the coverage bin of a crossed point that a product names at one of the cross's points
pub record IsMember (items : List ItemInfo) (axes product : List ℕ) (point : ItemInfo) (bin : BinInfo) : Type 0 where
  pub index : ℕ
  pub axis : ℕ
  pub is_axis : slice_get axes index ≡ Some axis
  pub is_point : slice_get items axis ≡ Some point
  pub number : ℕ
  pub is_number : slice_get product index ≡ Some number
  pub is_bin : slice_get (coverage_bins point) number ≡ Some bin

-- The count of an automatic cross bin is at most that of each of its members.
abbrev pub AtMostMembers : Type 0
AtMostMembers = (d : Design) (r : Record) (counts : List ℕ) → IsTally d r counts
    → (instance : ℕ) (inst : InstInfo) (cross point : ItemInfo) (bin member : BinInfo) (axes product : List ℕ) (number member_number : ℕ)
    → cross.shape ≡ Cross axes → bin.rule ≡ Product product → IsMember inst.items axes product point member
    → IsBin d instance inst cross bin number → IsBin d instance inst point member member_number
    → slice_index counts number ≤ slice_index counts member_number

-- some window that ends with the last value is a list of own and of none that removes
pub record HasKept (own removing : List Seq) (values : List Value) : Type 0 where
  pub from : ℕ
  pub some : from < length values
  pub is_own : InSome own (drop from values)
  pub not_removed : InSome removing (drop from values) → ⊥

-- Where a transition bin is hit, some window of the point's trace that ends there is one of the bin's and none of those
-- that remove.
abbrev pub RemovedNeverCount : Type 0
RemovedNeverCount = (item : ItemInfo) (expr : Term) (bin : BinInfo) (seqs : List Seq) (all : List Env) (k : ℕ)
    → k < length all → bin.rule ≡ Trans seqs → HitAt item expr bin all k
    → HasKept seqs (removing_seqs item bin.kind) (trace expr item.guard (take (k + 1) all))

-- Two lists that are tallies of the same design and record are equal.
abbrev pub TallyIsOne : Type 0
TallyIsOne = (d : Design) (r : Record) (a b : List ℕ) → IsTally d r a → IsTally d r b → a ≡ b

-- Each number below the number of bins is that of a bin, and each bin's number is below it.
pub record AreNumbers (d : Design) : Type 0 where
  pub has_bin : (number : ℕ) → number < d.bin_count → (instance : ℕ) × (inst : InstInfo) × (item : ItemInfo) × (bin : BinInfo) × IsBin d instance inst item bin number
  pub below : (instance : ℕ) (inst : InstInfo) (item : ItemInfo) (bin : BinInfo) (number : ℕ) → IsBin d instance inst item bin number → number < d.bin_count
