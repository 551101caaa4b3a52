-- The rows of a ranking have tests that exist.
use Rattle.std.proofs.Common.{◌≡◌, ℕ, ◌<◌, List, [], ◌∷◌, length, map, inl, inr, subst}
use Rattle.std.specs.Prelude.{All}
use Rattle.std.proofs.lemmas.List.Elements.{All-nil, All-cons, All-append}
use Rattle.std.proofs.lemmas.List.{length-map}
use Rattle.tally.specs.Rows.{rows_from}
use Rattle.tally.specs.declared.ranked.Ranked.{Ranked}
use Rattle.rank_report.specs.Ranking.{Test, IsGreedy}
use Rattle.rank_report.specs.Ranking.IsGreedy.{none, then}
use Rattle.ucis_model.specs.declared.answers.Answer.TheVariants as answers
use Rattle.design_data.specs.declared.design.Design.{Design}
use Rattle.cov_history.specs.declared.entry.Entry.{Entry}
use Rattle.cov_history.specs.Tallies.{tally}
use Rattle.cov_history.specs.History.{Test as Kept, design_of, tests_of}
use Rattle.cov_history.specs.Answers.{wanted_at, rank_at}
use Rattle.cov_history.proofs.Rankings.{ranking_is}
use Rattle.merge_store.specs.Told.{Reads}
use Rattle.store_views.specs.Views.{ranked_at}

greedy_inside : (tests : List Test) (wanted : List (ℕ × ℕ)) (ranked : List Ranked) → IsGreedy tests wanted ranked → All (λ row. row.test < length tests) ranked
greedy_inside tests wanted _ none = All-nil (λ (row : Ranked). row.test < length tests)
greedy_inside tests wanted _ ((then) {ranked = ranked} {row = row} g n) =
    All-append (λ (r : Ranked). r.test < length tests) ranked (row ∷ []) (greedy_inside tests wanted ranked g) (All-cons (λ (r : Ranked). r.test < length tests) row [] n.inside (All-nil (λ (r : Ranked). r.test < length tests)))

pub ranked_inside : (opening : Design) (h : List Entry) → All (λ row. row.test < length (tests_of h)) (ranked_at opening h)
ranked_inside opening h =
    let rows : List Test = map (λ (t : Kept). rows_from 0 (tally (design_of opening h) t.content)) (tests_of h) in
    let all = greedy_inside rows (wanted_at opening h) (ranked_at opening h) (ranking_is rows (wanted_at opening h)).is.greedy in
    subst (λ (n : ℕ). All (λ (row : Ranked). row.test < n) (ranked_at opening h)) (length-map (tests_of h) (λ (t : Kept). rows_from 0 (tally (design_of opening h) t.content))) all

-- the rows that a store answers
pub ranked_is : (opening : Design) (h : List Entry) (rows : List Ranked) → Reads (rank_at opening h) (answers.RankRows rows) → rows ≡ ranked_at opening h
ranked_is opening h rows r = elim r [ inl e ↦ cc e | inr e ↦ absurd (cc e) ]
