-- The printed ranking. Each line ends with a newline, and numbers are decimal.
use Rattle.std.specs.Prelude.{ℕ, ◌+◌, List, [], ◌∷◌, ◌++◌, codes, decimal, slice_index_or}
use Rattle.tally.specs.declared.ranked.Ranked.{Ranked}

-- rank K GAIN ID
abbrev pub rank_line : ℕ → ℕ → List ℕ → List ℕ
rank_line k gain id = codes "rank " ++ (decimal k ++ (32 ∷ (decimal gain ++ (32 ∷ (id ++ (10 ∷ []))))))

-- a line for each row, numbered from k on
abbrev pub rank_text : ℕ → List Ranked → List (List ℕ) → List ℕ
rank_text k [] ids = []
rank_text k (row ∷ rows) ids = rank_line k row.gain (slice_index_or ids row.test []) ++ rank_text (k + 1) rows ids
