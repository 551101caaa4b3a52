use Rattle.std.proofs.Common.{ℕ, List, ◌++◌, ap, ◌∙◌}
use Rattle.cov_history.specs.History.{tests_of}
use Rattle.merge_store.specs.Stores.{entries_of}
use Rattle.cov_report.proofs.Mapped.{tests_are, ids_are}
use Rattle.cov_report.proofs.report.append_all_tests.Goals as goal

pub returns-clause-text : goal.returns-clause-text
returns-clause-text c =
    let all = tests_of (entries_of c.args.store.now) in
    c.in_ok-append_tests.ensures ∙ ap (λ (text : List ℕ). c.args.text.now.items ++ text) (tests_are c.as_slice.result.now all (c.as_slice.ensures.value ∙ c.in_ok-tests.ensures))

pub returns-clause-ids : goal.returns-clause-ids
returns-clause-ids c =
    let all = tests_of (entries_of c.args.store.now) in
    c.in_ok-ids.ensures ∙ ids_are c.as_slice-2.result.now all (c.as_slice-2.ensures.value ∙ c.in_ok-tests.ensures)
