use Rattle.std.proofs.Common.{◌≡◌, ◌∙◌, ap, subst, map, length, inl, List, ℕ, arith}
use Rattle.std.specs.Arc.{arc_value}
use Rattle.std.specs.declared.sync.Arc.{Arc}
use Rattle.std.specs.declared.alloc.Global.{Global}
use Rattle.std.proofs.lemmas.List.{length-map}
use Rattle.tally.specs.declared.tally.Tally.{Tally}
use Rattle.tally.specs.declared.ranked.Ranked.{Ranked}
use Rattle.rank_report.specs.Ranking.{IsRanking, Test as Rows}
use Rattle.rank_report.proofs.OneRanking.{rankings_equal}
use Rattle.ucis_model.specs.declared.answers.Which.TheVariants.{Tests}
use Rattle.ucis_model.specs.declared.answers.Answer.TheVariants as answer
use Rattle.cov_history.specs.History.{tests_of, design_of}
use Rattle.cov_history.specs.Answers.{wanted_at}
use Rattle.cov_history.specs.Ranking.{ranking}
use Rattle.cov_history.proofs.Rankings.{ranking_is}
use Rattle.store_parts.specs.Keeps.{rows_of}
use Rattle.merge_store.specs.Stores.{opening_of, entries_of}
use Rattle.store_parts.proofs.Standing.{same_wanted}
use Rattle.merge_store.proofs.store.Store.rank.Goals as goal

pub rank-requires-clause-tests : goal.rank-requires-clause-tests
rank-requires-clause-tests g c =
    let s = c.args.self.now in
    let h = entries_of s in
    let d = design_of (opening_of s) h in
    let v = ap (λ (xs : List (Arc Tally Global)). length xs) c.as_slice.ensures.value in
    let a = length-map c.in_ok-tallies.tallies.items (λ (t : Arc Tally Global). arc_value t) in
    let b = length-map (tests_of h) (rows_of d) in
    let e = ap (λ (xs : List Rows). length xs) c.in_ok-tallies.ensures in
    omega (arith, v, a, b, e, s.keeps.within Tests)

pub returns : goal.returns
returns g c =
    let s = c.args.self.now in
    let h = entries_of s in
    let d = design_of (opening_of s) h in
    let tests : List Rows = map (rows_of d) (tests_of h) in
    let wanted = wanted_at (opening_of s) h in
    let rows = c.in_ok-rows.rows in
    let t : map (λ (x : Arc Tally Global). arc_value x) c.as_slice.result.now ≡ tests = ap (map (λ (x : Arc Tally Global). arc_value x)) c.as_slice.ensures.value ∙ c.in_ok-tallies.ensures in
    let w : c.as_slice-2.result.now ≡ wanted = c.as_slice-2.ensures.value ∙ c.in_ok-wanted.ensures.wanted ∙ same_wanted s.keeps in
    let r : IsRanking tests wanted rows = subst (λ (x : List (ℕ × ℕ)). IsRanking tests x rows) w (subst (λ (x : List Rows). IsRanking x c.as_slice-2.result.now rows) t c.in_ok-rows.ensures) in
    inl (ap (λ (x : List Ranked). answer.RankRows x) (rankings_equal tests wanted rows (ranking tests wanted) r (ranking_is tests wanted).is))
