-- The order of the wanted pairs makes no difference to a ranking.
use Rattle.std.proofs.Common.{◌≡◌, ℕ, ◌-◌, min, List, ◌∷◌, ◌++◌, [], arith}
use Rattle.std.specs.List.Sorted.{IsPermutation}
use Rattle.std.proofs.lemmas.List.Sorted.{sum_by-IsPermutation}
use Rattle.tally.specs.declared.ranked.Ranked.{Ranked}
use Rattle.rank_report.specs.Ranking.{Test, total, worth, test_at, tests_of, gain_at, IsNext, IsGreedy, none, then, IsRanking}

module _ (tests : List Test) (wanted sorted : List (ℕ × ℕ)) (moved : IsPermutation wanted sorted) where
  same_worth : (taken : List Test) → worth sorted taken ≡ worth wanted taken
  same_worth taken = sum_by-IsPermutation (λ (pair : ℕ × ℕ). min pair.1 (total taken pair.0)) wanted sorted moved

  same_gain : (ranked : List Ranked) (at : ℕ) → gain_at tests sorted ranked at ≡ gain_at tests wanted ranked at
  same_gain ranked at = λ i. same_worth (tests_of tests ranked ++ (test_at tests at ∷ [])) i - same_worth (tests_of tests ranked) i

  same_next : (ranked : List Ranked) (row : Ranked) → IsNext tests sorted ranked row → IsNext tests wanted ranked row
  same_next ranked row n = record {
    inside = n.inside;
    left = n.left;
    gains = let here = same_gain ranked row.test in omega (arith, here, n.gains);
    some = n.some;
    greatest = λ at lt left. let here = same_gain ranked at in let le = n.greatest at lt left in omega (arith, here, le);
    earliest = λ at lt left. let here = same_gain ranked at in let less = n.earliest at lt left in omega (arith, here, less);
  }

  same_greedy : (rows : List Ranked) → IsGreedy tests sorted rows → IsGreedy tests wanted rows
  same_greedy rows none = none
  same_greedy rows (then {ranked} {row} greedy next) = then (same_greedy ranked greedy) (same_next ranked row next)

  pub same_ranking : (rows : List Ranked) → IsRanking tests sorted rows → IsRanking tests wanted rows
  same_ranking rows r = record {
    greedy = same_greedy rows r.greedy;
    end = λ at lt left. let here = same_gain rows at in let no = r.end at lt left in omega (arith, here, no);
  }
