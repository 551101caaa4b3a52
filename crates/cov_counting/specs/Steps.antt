-- How the plain program counts, step by step. Public contracts cite none of it.
use Rattle.std.specs.Prelude.{◌≡◌, ℤ, ℕ, ◌+◌, ◌≤◌, ◌==◌, List, [], ◌∷◌, ◌++◌, length, map, slice_get, slice_index, Option, Some, if◌then◌else◌, true, Any}
use Rattle.std.specs.List.{AllByRecursion, range_with_len}
use Rattle.trans_seq.specs.declared.seq.Seq.{Seq}
use Rattle.trans_seq.specs.Windows.{InSome}
use Rattle.design_data.specs.declared.infos.ItemInfo.{ItemInfo}
use Rattle.design_data.specs.declared.infos.InstInfo.{InstInfo}
use Rattle.design_data.specs.declared.infos.BinInfo.{BinInfo}
use Rattle.design_data.specs.Crosses.{has}
use Rattle.design_data.specs.Limits.{IsItem}
use Rattle.record_codec.specs.declared.record.Record.{Record}
use Rattle.record_codec.specs.declared.record.SignalRow.{SignalRow}
use Rattle.record_codec.specs.declared.record.ArgRow.{ArgRow}
use Rattle.record_codec.specs.declared.record.Event.{Event}
use Rattle.record_codec.specs.declared.record.Event.TheVariants.{Set, Sample}
use Rattle.record_codec.specs.Samples.{Env, signal_at, arg_at, env_of, samples_of}
use Rattle.cov_counting.specs.Crosses.{AllHitAt}
use Rattle.cov_counting.specs.Tallies.{IsCount}

-- ---- samples

-- the values of the first n signals and the first m arguments
abbrev pub values_to : (n m : ℕ) → List SignalRow → List ArgRow → List Event → List (Option ℕ) → Env
values_to n m signals rows before args = map (signal_at signals before) (range_with_len 0 n) ++ map (arg_at rows args) (range_with_len 0 m)

-- the values at an event, if it is a sample of the instance
abbrev pub envs_at : List SignalRow → List ArgRow → ℕ → List Event → Event → List Env
envs_at signals rows instance before (Set signal value) = []
envs_at signals rows instance before (Sample sampled args) = if sampled == instance then env_of signals rows before args ∷ [] else []

-- ---- points

-- a window is a list of some own sequence and of no removing one
abbrev pub Keeps : (own removing : List Seq) → List (Option ℤ) → Type 0
Keeps own removing window = InSome own window × (InSome removing window → ⊥)

-- ---- crosses

-- the items of an instance of a design
abbrev pub AreItems : List ItemInfo → Type 0
AreItems items = AllByRecursion (IsItem items) items

abbrev pub AreInstances : List InstInfo → Type 0
AreInstances instances = AllByRecursion (λ inst. AreItems inst.items) instances

-- one of the products is the bin's and has all its members hit
abbrev pub SomeProductHit : List ItemInfo → List BinInfo → (axes : List ℕ) → BinInfo → (products : List (List ℕ)) → List Env → ℕ → Type 0
SomeProductHit items bins axes bin products all k = Any (λ product. (has bins bin.kind bin.rule product ≡ true) × AllHitAt items axes product all k) products

-- ---- counts

-- so many counts more
abbrev pub Extends : (before after : List ℕ) → ℕ → Type 0
Extends before after n = (added : List ℕ) × (after ≡ before ++ added) × (length added ≡ n)

-- the counts of an item's bins stand at their numbers
pub record ItemDone (items : List ItemInfo) (item : ItemInfo) (all : List Env) (counts : List ℕ) : Type 0 where
  pub within : item.first_bin + length item.bins ≤ length counts
  pub at : (k : ℕ) (bin : BinInfo) → slice_get item.bins k ≡ Some bin → IsCount items item bin all (slice_index counts (item.first_bin + k))

abbrev pub ItemsDone : List ItemInfo → List Env → List ℕ → Type 0
ItemsDone items all counts = (k : ℕ) (item : ItemInfo) → slice_get items k ≡ Some item → ItemDone items item all counts

abbrev pub GroupDone : Record → List InstInfo → (group : ℕ) → List ℕ → Type 0
GroupDone r instances group counts = (k : ℕ) (inst : InstInfo) → slice_get instances k ≡ Some inst → inst.group ≡ group → ItemsDone inst.items (samples_of r k) counts
