use Rattle.std.proofs.Common.{◌≡◌, ◌∙◌, ap, sym, Some}
use Rattle.std.specs.Prelude.{slice_index, find, bytes_eq}
use Rattle.cov_history.specs.History.{hits, design_of}
use Rattle.history_answers.specs.declared.keeping.Kept.{Kept}
use Rattle.history_answers.specs.Kept.{kept_from}
use Rattle.history_answers.proofs.Asked.{some_kept, none_kept, no_test_counts, none_found, rows_found, hits_meant, test_counts_found}
use Rattle.ucis_model.specs.declared.answers.Answer.TheVariants as answers
use Rattle.std.proofs.Common.{None}
use Rattle.history_answers.proofs.queries.test_counts_answer.Goals as goal

pub returns-in_default : goal.returns-in_default
returns-in_default c =
    let o = c.args.opening.now in
    let h = c.args.entries.now in
    let d = c.design_at-design.result.now in
    let f : find (λ (x : Kept). bytes_eq c.args.id.now x.row.id) (kept_from d 0 h) ≡ None = ap (find (λ (x : Kept). bytes_eq c.args.id.now x.row.id)) (sym (c.as_slice.ensures.value ∙ c.in_ok-tests.ensures)) ∙ sym c.in_default.ensures in
    no_test_counts o h c.args.first c.args.id.now c.args.path.now (none_kept d h c.args.id.now f)

pub returns-in_default-find : goal.returns-in_default-find
returns-in_default-find c =
    let o = c.args.opening.now in
    let h = c.args.entries.now in
    let d = c.design_at-design.result.now in
    let f : find (λ (x : Kept). bytes_eq c.args.id.now x.row.id) (kept_from d 0 h) ≡ Some c.in-Some.test.now = ap (find (λ (x : Kept). bytes_eq c.args.id.now x.row.id)) (sym (c.as_slice.ensures.value ∙ c.in_ok-tests.ensures)) ∙ sym c.in-Some.ensures in
    let s = some_kept d h c.args.id.now c.in-Some.test.now f in
    test_counts_found o h c.args.first c.args.id.now c.args.path.now s.0 answers.NoSuchPath s.1 (none_found o d h c.in_ok-tree.tree c.design_at-design.ensures c.in_ok-tree.ensures c.args.path.now _ (sym c.find.ensures ∙ c.in_default-find.is))

pub returns : goal.returns
returns c =
    let o = c.args.opening.now in
    let h = c.args.entries.now in
    let d = c.design_at-design.result.now in
    let k = c.in-Some.test.now in
    let f : find (λ (x : Kept). bytes_eq c.args.id.now x.row.id) (kept_from d 0 h) ≡ Some k = ap (find (λ (x : Kept). bytes_eq c.args.id.now x.row.id)) (sym (c.as_slice.ensures.value ∙ c.in_ok-tests.ensures)) ∙ sym c.in-Some.ensures in
    let s = some_kept d h c.args.id.now k f in
    let t = s.0 in
    let counts = c.as_slice-counts.ensures ∙ ap (λ (x : Kept). x.counts) (sym s.2) in
    test_counts_found o h c.args.first c.args.id.now c.args.path.now t c.in_ok-answer.answer s.1
    (rows_found o d h c.in_ok-tree.tree c.design_at-design.ensures c.in_ok-tree.ensures (slice_index c.as_slice-counts.result.now) (hits (design_of o h) t.content) c.args.first c.in-Some-find.place c.args.path.now c.in_ok-answer.answer (sym c.find.ensures ∙ c.in-Some-find.is)
    (hits_meant o d h t c.as_slice-counts.result.now c.design_at-design.ensures counts)
    c.in_ok-answer.ensures)
