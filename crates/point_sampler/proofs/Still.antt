-- A point without transitions takes a value.
use Rattle.std.proofs.Common.{◌≡◌, ◌≢◌, ℕ, List, [], length, ap, subst, inl, inr, arith}
use Rattle.std.specs.Prelude.{Contains, AllPairs}
use Rattle.design_data.specs.Laws.{Value}
use Rattle.word_table.specs.declared.row.PlacedWord.{PlacedWord}
use Rattle.point_sampler.specs.declared.plan.PointPlan.{PointPlan}
use Rattle.point_sampler.specs.declared.state.PointState.{PointState}
use Rattle.point_sampler.specs.Points.{RunsStand, OthersStand, AreRecent, Remembers}
use Rattle.point_sampler.specs.Met.{IsTracePlace, AreTransMet}
use Rattle.point_tables.proofs.Places.{in_none}

module _ (plan : PointPlan) (none : length plan.machines.items ≡ 0) (no_words : plan.words ≡ []) (alone : length plan.sequences.items ≡ 0) where
  pub still_runs : (runs : List (List (ℕ × ℕ))) (w : List Value) → RunsStand plan.machines.items plan.removers runs w
  still_runs runs w = λ k machine run lt. absurd (omega (arith, lt, none))

  pub still_others : (others : List (ℕ × ℕ)) (w : List Value) → OthersStand plan others w
  still_others others w = λ some. absurd (omega (arith, some, alone))

  pub still_recent : (recent w : List Value) → AreRecent plan.words recent w
  still_recent recent w = λ some. absurd (omega (arith, some, ap (λ (rows : List PlacedWord). length rows) no_words))

  pub still_remembers : (state : PointState) (w : List Value) → Remembers plan state w
  still_remembers state w = record {
    begun = λ some. absurd (omega (arith, some, alone));
    runs = still_runs state.runs.items w;
    others = still_others state.others w;
    recent = still_recent state.ending.recent w;
  }

  pub still_met : (w : List Value) (v : Value) (met : List ℕ) → met ≡ [] → AreTransMet plan w v met
  still_met w v met e = λ place. (
    (λ c. absurd (in_none place (subst (λ (m : List ℕ). Contains m place) e c))),
    (λ m. elim m [
      | inl kept ↦ absurd (omega (arith, none, kept.is_one.1))
      | inr (inl word) ↦ absurd (in_none word.row (subst (λ (rows : List PlacedWord). Contains rows word.row) no_words word.is_one))
      | inr (inr sequence) ↦ absurd (omega (arith, alone, sequence.0.1))
    ]),
  )

pub none_among : (plan : PointPlan) (met : List ℕ) → met ≡ [] → (place : ℕ) → Contains met place → IsTracePlace plan place
none_among plan met e place c = absurd (in_none place (subst (λ (m : List ℕ). Contains m place) e c))

pub none_once : (met : List ℕ) → met ≡ [] → AllPairs (λ a b. a ≢ b) met
none_once met e = λ i j d lt within. absurd (omega (arith, within, ap (λ (m : List ℕ). length m) e))
