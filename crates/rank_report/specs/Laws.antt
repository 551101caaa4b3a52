-- Laws of the greedy ranking.
use Rattle.std.specs.Prelude.{◌≡◌, ℕ, ◌≤◌, List, [], ◌∷◌, ◌++◌}
use Rattle.tally.specs.declared.ranked.Ranked.{Ranked}
use Rattle.rank_report.specs.Ranking.{Test, gain_at, IsRanking}

-- the gain of a test after a further row is no greater than before it, whatever the rows are
abbrev pub GainsNeverGrow : Type 0
GainsNeverGrow = (tests : List Test) (wanted : List (ℕ × ℕ)) (ranked : List Ranked) (row : Ranked) (index : ℕ) → gain_at tests wanted (ranked ++ (row ∷ [])) index ≤ gain_at tests wanted ranked index

-- two rankings of the same tests and wanted hits are equal
abbrev pub OneRanking : Type 0
OneRanking = (tests : List Test) (wanted : List (ℕ × ℕ)) (a b : List Ranked) → IsRanking tests wanted a → IsRanking tests wanted b → a ≡ b
