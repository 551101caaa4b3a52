-- The law of gains, from what is missing to what the definition says.
use Rattle.std.proofs.Common.{◌≡◌, ℕ, ◌≤◌, List, [], ◌∷◌, ◌++◌, sym, ap, ◌∙◌, arith}
use Rattle.std.proofs.lemmas.List.{map-append}
use Rattle.tally.specs.declared.ranked.Ranked.{Ranked}
use Rattle.rank_report.specs.Ranking.{Test, test_at, tests_of, gain_at}
use Rattle.rank_report.specs.Steps.{added, less}
use Rattle.rank_report.proofs.RankLemmas.{missing_of, raised, less_missing}
use Rattle.rank_report.proofs.Rows.{never_grows}

-- a gain is what the test adds to what is missing
gain_is : (tests : List Test) (wanted : List (ℕ × ℕ)) (ranked : List Ranked) (index : ℕ) → gain_at tests wanted ranked index ≡ added (test_at tests index) (missing_of wanted (tests_of tests ranked))
gain_is tests wanted ranked index = let r = raised wanted (tests_of tests ranked) (test_at tests index) in omega (arith, r)

pub gains_never_grow : (tests : List Test) (wanted : List (ℕ × ℕ)) (ranked : List Ranked) (row : Ranked) (index : ℕ) → gain_at tests wanted (ranked ++ (row ∷ [])) index ≤ gain_at tests wanted ranked index
gains_never_grow tests wanted ranked row index =
    let test = test_at tests index in
    let taken = test_at tests row.test in
    let before = gain_is tests wanted ranked index in
    let after = gain_is tests wanted (ranked ++ (row ∷ [])) index in
    let more : tests_of tests (ranked ++ (row ∷ [])) ≡ tests_of tests ranked ++ (taken ∷ []) = map-append (λ row. test_at tests row.test) ranked (row ∷ []) in
    let left : added test (missing_of wanted (tests_of tests (ranked ++ (row ∷ [])))) ≡ added test (less taken (missing_of wanted (tests_of tests ranked))) =
    ap (added test) (ap (missing_of wanted) more ∙ sym (less_missing wanted (tests_of tests ranked) taken)) in
    let grows = never_grows test taken (missing_of wanted (tests_of tests ranked)) in
    omega (arith, before, after, left, grows)
