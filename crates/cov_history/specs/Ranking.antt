-- The greedy ranking as a list: the test of greatest gain is taken next, the earliest among equals, until no test has a
-- gain. That it is the ranking of tests is a law.
use Rattle.std.specs.Prelude.{ℕ, zero, suc, List, [], ◌∷◌, ◌++◌, length, map, fold, filter, Option, Some, None, not, ◌==◌, nat_lt, if◌then◌else◌}
use Rattle.std.specs.List.{range_with_len}
use Rattle.std.specs.Option.{option_map_or}
use Rattle.tally.specs.declared.ranked.Ranked.{Ranked}
use Rattle.rank_report.specs.Ranking.{Test, gain_at, is_taken}

-- the row with the greater gain, which is above 0; the earlier one among equals
abbrev pub better : Option Ranked → Ranked → Option Ranked
better None row = if row.gain == 0 then None else Some row
better (Some best) row = if nat_lt best.gain row.gain then Some row else Some best

-- a row for each test that isn't taken
abbrev pub rows_left : List Test → (wanted : List (ℕ × ℕ)) → List Ranked → List Ranked
rows_left tests wanted ranked = map (λ index. record { test = index; gain = gain_at tests wanted ranked index }) (filter (λ index. not (is_taken ranked index)) (range_with_len 0 (length tests)))

abbrev pub next_row : List Test → (wanted : List (ℕ × ℕ)) → List Ranked → Option Ranked
next_row tests wanted ranked = fold better None (rows_left tests wanted ranked)

-- the rows after these, at most so many
abbrev pub ranking_after : (most : ℕ) → List Test → (wanted : List (ℕ × ℕ)) → List Ranked → List Ranked
ranking_after zero tests wanted ranked = ranked
ranking_after (suc most) tests wanted ranked = option_map_or (λ row. ranking_after most tests wanted (ranked ++ row ∷ [])) (next_row tests wanted ranked) ranked

-- no test is taken twice
unfoldable pub ranking : List Test → (wanted : List (ℕ × ℕ)) → List Ranked
ranking tests wanted = ranking_after (length tests) tests wanted []
