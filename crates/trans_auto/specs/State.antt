-- What the runs of an automaton stand for.
use Rattle.std.specs.Prelude.{◌≡◌, ◌≢◌, ℕ, ◌<◌, ◌⊎◌, Bool, true, false, Option, List, [], ◌∷◌, ◌++◌, length, drop, Contains, AllPairs, ℤ, ◌↔◌, IsTrue}
use Rattle.trans_seq.specs.declared.seq.Seq.{Seq}
use Rattle.trans_seq.specs.Windows.{InSome, EndsWindow, EndsKept}
use Rattle.trans_auto.specs.Masks.{SeqsHold}
use Rattle.trans_auto.specs.Steps.{SeqsStep}

module _ (own removed : List Seq) where
  -- the pair of masks says which own and removed cells the list reaches
  abbrev pub PairHolds : ℕ × ℕ → List (Option ℤ) → Type 0
  PairHolds run w = SeqsHold 0 run.0 w own × SeqsHold 0 run.1 w removed

  -- the list reaches no own cell, or its pair of masks is among the runs
  abbrev pub Covers : List (ℕ × ℕ) → List (Option ℤ) → Type 0
  Covers runs w = SeqsHold 0 0 w own ⊎ ((run : ℕ × ℕ) × Contains runs run × PairHolds run w)

  -- the runs are the pairs of masks of the non-empty suffixes that reach an own cell, each once
  pub record Stands (runs : List (ℕ × ℕ)) (w : List (Option ℤ)) : Type 0 where
    pub sound : (run : ℕ × ℕ) → Contains runs run → (run.0 ≢ 0) × (from : ℕ) × (from < length w) × PairHolds run (drop from w)
    pub complete : (from : ℕ) → from < length w → Covers runs (drop from w)
    pub once : AllPairs (λ a b. a ≢ b) runs

  -- the answer says of each trace that the runs stand for whether with the sample a window ends that counts
  abbrev pub SaysKept : List (ℕ × ℕ) → Option ℤ → Bool → Type 0
  SaysKept runs v answer = (w : List (Option ℤ)) → Stands runs w → IsTrue answer ↔ EndsKept own removed (w ++ v ∷ [])

  -- and whether a window of own ends at all
  abbrev pub SaysWindow : List (ℕ × ℕ) → Option ℤ → Bool → Type 0
  SaysWindow runs v answer = (w : List (Option ℤ)) → Stands runs w → IsTrue answer ↔ EndsWindow own (w ++ v ∷ [])

  -- of each trace that the runs stand for, the next runs stand for the trace with the sample behind it
  abbrev pub TakesSample : List (ℕ × ℕ) → Option ℤ → List (ℕ × ℕ) → Type 0
  TakesSample runs v next = (w : List (Option ℤ)) → Stands runs w → Stands next (w ++ v ∷ [])

  -- a list is in a sequence of own and in none of removed
  abbrev pub Remains : List (Option ℤ) → Type 0
  Remains w = InSome own w × (InSome removed w → ⊥)

  -- what a pair of masks becomes at a sample
  abbrev pub PairSteps : Option ℤ → Bool → ℕ × ℕ → ℕ × ℕ → Type 0
  PairSteps v fresh a b = SeqsStep fresh 0 a.0 b.0 v own × SeqsStep fresh 0 a.1 b.1 v removed

  -- what the runs have become at the sample, where they still reach an own cell, and the run that begins with it
  pub record Advances (v : Option ℤ) (runs next : List (ℕ × ℕ)) : Type 0 where
    pub sound : (b : ℕ × ℕ) → Contains next b → (b.0 ≢ 0) × (PairSteps v true (0, 0) b ⊎ ((a : ℕ × ℕ) × Contains runs a × PairSteps v false a b))
    pub complete : (a : ℕ × ℕ) → Contains runs a → (b : ℕ × ℕ) × PairSteps v false a b × ((b.0 ≡ 0) ⊎ Contains next b)
    pub fresh : (b : ℕ × ℕ) × PairSteps v true (0, 0) b × ((b.0 ≡ 0) ⊎ Contains next b)
    pub once : AllPairs (λ a b. a ≢ b) next
