-- What a point has counted after some of the samples of its instance.
use Rattle.std.specs.Prelude.{◌≡◌, ◌≢◌, ◌↔◌, ◌⊎◌, ℕ, ◌+◌, ◌-◌, ◌^◌, ◌<◌, ◌≤◌, List, [], length, take, slice_get, slice_index, slice_index_or, Contains, AllPairs, Some, IsTrue}
use Rattle.cov_counting.specs.Number.{Number}
use Rattle.const_eval.specs.Terms.{Term}
use Rattle.trans_auto.specs.State.{Stands}
use Rattle.design_data.specs.declared.infos.ItemInfo.{ItemInfo}
use Rattle.design_data.specs.declared.infos.BinInfo.{BinInfo}
use Rattle.design_data.specs.Bins.{coverage_bins}
use Rattle.design_data.specs.Laws.{Value}
use Rattle.record_codec.specs.Samples.{Env}
use Rattle.cov_counting.specs.Hits.{trace, HitAt}
use Rattle.cov_counting.specs.Crosses.{SomeHitAt}
use Rattle.word_table.specs.declared.row.PlacedWord.{PlacedWord}
use Rattle.word_table.specs.Recent.{AreLast}
use Rattle.point_sampler.specs.declared.plan.PointPlan.{PointPlan}
use Rattle.point_tables.specs.declared.tables.Removers.{Removers}
use Rattle.point_tables.specs.declared.tables.Machine.{Machine}
use Rattle.point_sampler.specs.declared.state.PointState.{PointState}
use Rattle.point_tables.specs.Tables.{removed_by}

-- the m-th of all samples has these values, and there are not more before it than a count can say
pub record IsSample (all : List Env) (m : ℕ) (env : Env) : Type 0 where
  pub within : m < length all
  pub few : m < 2 ^ 64 - 1
  pub is : slice_index_or all m [] ≡ env

-- ---- what is remembered

-- the state has a place for each automaton of the plan
abbrev pub FitsPlan : PointPlan → PointState → Type 0
FitsPlan plan state = length state.runs.items ≡ length plan.machines.items

-- the runs of each automaton stand after the values
abbrev pub RunsStand : List Machine → Removers → (runs : List (List (ℕ × ℕ))) → List Value → Type 0
RunsStand machines removers runs w = (k : ℕ) (machine : Machine) (run : List (ℕ × ℕ)) → k < length machines
    → Stands (slice_index_or machines k machine).watcher (removed_by removers (slice_index_or machines k machine).kind) (slice_index_or runs k run) w

-- the run of the automaton of ignored and illegal sequences stands after the values, where there is a default sequence
abbrev pub OthersStand : PointPlan → List (ℕ × ℕ) → List Value → Type 0
OthersStand plan others w = 0 < length plan.sequences.items → Stands plan.others plan.removers.none others w

-- the values are the last ones, where there are words
abbrev pub AreRecent : List PlacedWord → (recent w : List Value) → Type 0
AreRecent rows recent w = 0 < length rows → AreLast recent w

-- the state says whether a value came before, where there is a default sequence
abbrev pub HasBegun : PointPlan → PointState → List Value → Type 0
HasBegun plan state w = 0 < length plan.sequences.items → IsTrue state.begun ↔ (0 < length w)

-- the state stands after these values of the point's trace
pub record Remembers (plan : PointPlan) (state : PointState) (w : List Value) : Type 0 where
  pub begun : HasBegun plan state w
  pub runs : RunsStand plan.machines.items plan.removers state.runs.items w
  pub others : OthersStand plan state.others w
  pub recent : AreRecent plan.words state.ending.recent w

-- the state stands after the first m samples of the instance
abbrev pub StateStands : ItemInfo → Term → PointPlan → List Env → ℕ → PointState → Type 0
StateStands item expr plan all m state = Remembers plan state (trace expr item.guard (take m all))

-- ---- what is counted

-- the counts of the point's bins, which stand at their numbers, are those of the first m samples
abbrev pub CountsStand : ItemInfo → Term → List Env → ℕ → List ℕ → Type 0
CountsStand item expr all m counts = (k : ℕ) (bin : BinInfo) → slice_get item.bins k ≡ Some bin → Number (HitAt item expr bin all) m (slice_index counts (item.first_bin + k))

-- the number is that of no bin of the item
abbrev pub IsOutside : ItemInfo → ℕ → Type 0
IsOutside item number = (number < item.first_bin) ⊎ (item.first_bin + length item.bins ≤ number)

-- what the point remembers and counts is that of the first m samples of its instance
pub record PointStands (item : ItemInfo) (expr : Term) (plan : PointPlan) (all : List Env) (m : ℕ) (state : PointState) (counts : List ℕ) : Type 0 where
  pub remembers : StateStands item expr plan all m state
  pub counted : CountsStand item expr all m counts

-- The row has the numbers, among the point's coverage bins, of those that are hit at the m-th sample, each once.
pub record RowStands (item : ItemInfo) (expr : Term) (all : List Env) (m : ℕ) (row : List ℕ) : Type 0 where
  pub is : (number : ℕ) → Contains row number ↔ SomeHitAt item expr (slice_get (coverage_bins item) number) all m
  pub once : AllPairs (λ a b. a ≢ b) row
