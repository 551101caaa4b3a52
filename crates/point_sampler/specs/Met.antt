-- How a sample is counted, step by step. Public contracts cite none of it.
use Rattle.std.specs.Prelude.{◌≡◌, ◌≢◌, ◌↔◌, ◌⊎◌, ℕ, ◌+◌, ◌<◌, ◌≤◌, min, ◌-◌, ◌^◌, List, [], ◌∷◌, ◌++◌, length, take, slice_get, slice_index, slice_index_or, slice_set, Contains, AllPairs, Option, Some, None, Bool, true, false, IsTrue, if◌then◌else◌}
use Rattle.trans_seq.specs.Windows.{EndsKept, EndsWindow}
use Rattle.trans_auto.specs.State.{Stands}
use Rattle.trans_auto.specs.Removing.{IsStep}
use Rattle.design_data.specs.declared.infos.ItemInfo.{ItemInfo}
use Rattle.design_data.specs.declared.infos.BinInfo.{BinInfo}
use Rattle.design_data.specs.Bins.{is_coverage}
use Rattle.design_data.specs.Laws.{Value}
use Rattle.record_codec.specs.Samples.{Env}
use Rattle.cov_counting.specs.Hits.{holds, Meets}
use Rattle.word_table.specs.Placed.{HasPlace, StandOnce, EndsAt}
use Rattle.point_tables.specs.declared.tables.Removers.{Removers}
use Rattle.point_tables.specs.declared.tables.Machine.{Machine}
use Rattle.point_sampler.specs.declared.plan.PointPlan.{PointPlan}
use Rattle.point_sampler.specs.declared.counting.Asked.{Asked}
use Rattle.point_sampler.specs.declared.state.Steps.{Steps}
use Rattle.point_tables.specs.Tables.{removed_by, covering}

-- ---- transitions

-- what a sample does to the sequences that take windows away
pub record AreSteps (removers : Removers) (v : Value) (steps : Steps) : Type 0 where
  pub covering : IsStep removers.covering v steps.covering
  pub ignoring : IsStep removers.ignoring v steps.ignoring
  pub none : IsStep removers.none v steps.none

-- the place is that of the bin of some automaton
pub record IsPlaceOf (machines : List Machine) (place : ℕ) : Type 0 where
  pub machine : Machine
  pub is_one : Contains machines machine
  pub is_place : machine.place ≡ place

-- a window that counts ends with the last value, of the bin at this place
pub record MetBy (machines : List Machine) (removers : Removers) (w : List Value) (place : ℕ) : Type 0 where
  pub machine : Machine
  pub is_one : Contains machines machine
  pub is_place : machine.place ≡ place
  pub kept : EndsKept machine.watcher (removed_by removers machine.kind) w

-- a window of some automaton ends with the last value, removed or not
pub record EndedBy (machines : List Machine) (w : List Value) : Type 0 where
  pub machine : Machine
  pub is_one : Contains machines machine
  pub ends : EndsWindow machine.watcher w

-- what automata say of the last value: the places that are met, and whether a window ends at all
pub record Answered (machines : List Machine) (removers : Removers) (w : List Value) (met : List ℕ) (ended : Bool) : Type 0 where
  pub met_by : (place : ℕ) → Contains met place ↔ MetBy machines removers w place
  pub ended_by : IsTrue ended ↔ EndedBy machines w

-- the automata before the k-th have taken the value v
pub record SomeTaken (machines : List Machine) (removers : Removers) (w : List Value) (v : Value) (k : ℕ) (runs : List (List (ℕ × ℕ))) : Type 0 where
  pub done : (j : ℕ) (d : Machine) (r : List (ℕ × ℕ)) → j < k → j < length machines
      → Stands (slice_index_or machines j d).watcher (removed_by removers (slice_index_or machines j d).kind) (slice_index_or runs j r) (w ++ v ∷ [])
  pub left : (j : ℕ) (d : Machine) (r : List (ℕ × ℕ)) → k ≤ j → j < length machines
      → Stands (slice_index_or machines j d).watcher (removed_by removers (slice_index_or machines j d).kind) (slice_index_or runs j r) w

-- the places of automata ascend
abbrev pub Ascend : List Machine → Type 0
Ascend machines = AllPairs (λ a b. a.place < b.place) machines

-- the place is that of a transition bin
abbrev pub IsTransPlace : PointPlan → ℕ → Type 0
IsTransPlace plan place = IsPlaceOf plan.machines.items place ⊎ HasPlace plan.words place

-- the places of automata, of words and of default sequences stand apart
pub record StandApart (plan : PointPlan) : Type 0 where
  pub ascend : Ascend plan.machines.items
  pub words_once : StandOnce plan.words
  pub words : (place : ℕ) → IsPlaceOf plan.machines.items place → HasPlace plan.words place → ⊥
  pub once : AllPairs (λ a b. a ≢ b) plan.sequences.items
  pub apart : (place : ℕ) → IsTransPlace plan place → Contains plan.sequences.items place → ⊥

-- the place is that of a transition bin or of a default sequence
abbrev pub IsTracePlace : PointPlan → ℕ → Type 0
IsTracePlace plan place = IsTransPlace plan place ⊎ Contains plan.sequences.items place

-- a value came before, and no transition of the point ends here, ignored and illegal ones included
pub record EndsNowhere (plan : PointPlan) (before : List Value) (now : Value) : Type 0 where
  pub later : 0 < length before
  pub machines : EndedBy plan.machines.items (before ++ now ∷ []) → ⊥
  pub words : (place : ℕ) → EndsAt plan.words (before ++ now ∷ []) place → ⊥
  pub others : EndsWindow plan.others (before ++ now ∷ []) → ⊥

-- the places of the transition bins and default sequences that are met
abbrev pub AreTransMet : PointPlan → List Value → Value → List ℕ → Type 0
AreTransMet plan before now met = (place : ℕ) → Contains met place
    ↔ (MetBy plan.machines.items plan.removers (before ++ now ∷ []) place
    ⊎ (EndsAt plan.words (before ++ now ∷ []) place ⊎ (Contains plan.sequences.items place × EndsNowhere plan before now)))

-- ---- all bins

-- the bin at this place, if there is one, is met at the value `now` of the trace, after the values before
abbrev pub SomeMeets : ItemInfo → Option BinInfo → List Value → Value → Type 0
SomeMeets item None before now = ⊥
SomeMeets item (Some bin) before now = Meets item bin.kind bin.rule before now

-- the places are those of the bins whose rule is met
abbrev pub AreMet : ItemInfo → List Value → Value → List ℕ → Type 0
AreMet item before now met = (place : ℕ) → Contains met place ↔ SomeMeets item (slice_get item.bins place) before now

-- ---- counts

-- a count after one more hit
abbrev pub raised : ℕ → ℕ
raised count = min (count + 1) (2 ^ 64 - 1)

-- the bin at a place, and that its guard holds
pub record IsOn (bins : List BinInfo) (env : Env) (place : ℕ) (bin : BinInfo) : Type 0 where
  pub is_bin : slice_get bins place ≡ Some bin
  pub guarded : holds bin.guard env ≡ true

-- this is what the guard of the bin answers at the sample
abbrev pub IsAnswered : List BinInfo → Env → Asked → Type 0
IsAnswered bins env asked = (bin : BinInfo) → slice_get bins asked.place ≡ Some bin → asked.holds ≡ holds bin.guard env

-- one place was counted: its count is raised where its guard holds, and a coverage bin is put into the row
pub record PlaceTaken (item : ItemInfo) (env : Env) (place : ℕ) (old : List ℕ) (old_row : List ℕ) (new : List ℕ) (row : List ℕ) : Type 0 where
  pub on : (bin : BinInfo) → IsOn item.bins env place bin
      → (new ≡ slice_set old (item.first_bin + place) (raised (slice_index old (item.first_bin + place))))
      × (row ≡ (if is_coverage bin.kind then old_row ++ length (covering (take place item.bins)) ∷ [] else old_row))
  pub off : (bin : BinInfo) → slice_get item.bins place ≡ Some bin → holds bin.guard env ≡ false → (new ≡ old) × (row ≡ old_row)

-- a place among these has a bin whose guard holds and whose number is this
pub record IsNoted (bins : List BinInfo) (env : Env) (met : List ℕ) (number : ℕ) : Type 0 where
  pub place : ℕ
  pub is_met : Contains met place
  pub bin : BinInfo
  pub is_on : IsOn bins env place bin
  pub covers : is_coverage bin.kind ≡ true
  pub is_number : number ≡ length (covering (take place bins))

-- the places were counted, each once
pub record AllTaken (item : ItemInfo) (env : Env) (met : List ℕ) (old new : List ℕ) (noted : List ℕ) : Type 0 where
  pub on : (place : ℕ) (bin : BinInfo) → Contains met place → IsOn item.bins env place bin
      → slice_index new (item.first_bin + place) ≡ raised (slice_index old (item.first_bin + place))
  pub off : (number : ℕ) → ((place : ℕ) (bin : BinInfo) → Contains met place → IsOn item.bins env place bin → number ≢ item.first_bin + place)
      → slice_index new number ≡ slice_index old number
  pub row : (number : ℕ) → Contains noted number ↔ IsNoted item.bins env met number
  pub once : AllPairs (λ a b. a ≢ b) noted

-- the bins that are met at the value were counted
pub record ValueTaken (item : ItemInfo) (env : Env) (before : List Value) (now : Value) (old new : List ℕ) (row : List ℕ) : Type 0 where
  pub met : List ℕ
  pub are_met : AreMet item before now met
  pub taken : AllTaken item env met old new row
