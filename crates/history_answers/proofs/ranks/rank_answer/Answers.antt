use Rattle.std.proofs.Common.{◌≡◌, ◌∙◌, ap, map, length, arith, List}
use Rattle.std.specs.Arc.{arc_value}
use Rattle.std.specs.declared.sync.Arc.{Arc}
use Rattle.std.specs.declared.alloc.Global.{Global}
use Rattle.std.proofs.lemmas.List.{length-map}
use Rattle.tally.specs.declared.tally.Tally.{Tally}
use Rattle.tally.specs.Rows.{rows_from}
use Rattle.rank_report.specs.Ranking.{Test as Rows}
use Rattle.history_answers.specs.declared.keeping.Kept.{Kept}
use Rattle.history_answers.specs.Kept.{kept_from, rows_of}
use Rattle.history_answers.proofs.Worked.{few_kept}
use Rattle.history_answers.proofs.Asked.{rank_is}
use Rattle.history_answers.proofs.ranks.rank_answer.Goals as goal

pub rank-requires-clause-tests : goal.rank-requires-clause-tests
rank-requires-clause-tests g c =
    let d = c.design_at-design.result.now in
    let h = c.args.entries.now in
    let kept = c.as_slice.ensures.value ∙ c.in_ok-tests.ensures in
    let s = ap (λ (xs : List (Arc Tally Global)). length xs) c.as_slice-2.ensures.value in
    let a = length-map c.in_ok-all.all.items (λ (t : Arc Tally Global). arc_value t) in
    let e = ap (λ (xs : List Rows). length xs) c.in_ok-all.ensures in
    let b = length-map c.as_slice.result.now (λ (t : Kept). rows_from 0 t.counts) in
    let k = ap (λ (ts : List Kept). length ts) kept in
    let f = few_kept d h in
    let most = c.requires in
    omega (arith, s, a, e, b, k, f, most)

pub returns : goal.returns
returns g c =
    let o = c.args.opening.now in
    let d = c.design_at-design.result.now in
    let h = c.args.entries.now in
    let kept = c.as_slice.ensures.value ∙ c.in_ok-tests.ensures in
    let t : map (λ (x : Arc Tally Global). arc_value x) c.as_slice-2.result.now ≡ rows_of (kept_from d 0 h) = ap (map (λ (x : Arc Tally Global). arc_value x)) c.as_slice-2.ensures.value ∙ c.in_ok-all.ensures ∙ ap rows_of kept in
    rank_is o d h c.in_ok-tree.tree (map (λ (x : Arc Tally Global). arc_value x) c.as_slice-2.result.now) c.as_slice-3.result.now c.in_ok-ranked.ranked c.design_at-design.ensures c.in_ok-tree.ensures t (c.as_slice-3.ensures.value ∙ c.in_ok-wanted.ensures.wanted) c.in_ok-ranked.ensures
