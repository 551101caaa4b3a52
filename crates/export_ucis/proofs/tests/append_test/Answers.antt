use Rattle.std.proofs.Common.{◌≡◌, ℕ, List, ◌++◌, ◌∙◌, OnOk, ap, subst, codes}
use Rattle.markup.specs.Trees.{markup_text}
use Rattle.ucis_elements.specs.Words.{user_attr}
use Rattle.export_ucis.specs.Tests.{test_node}
use Rattle.export_ucis.proofs.Chains.{enclosed}
use Rattle.export_ucis.proofs.tests.append_test.Goals as goal

pub returns : goal.returns
unfolding test_node
returns c =
    let status = ap (λ (word : List ℕ). markup_text (user_attr (codes "status") word)) (c.as_bytes.ensures.value ∙ c.status_word.ensures) in
    subst (λ (bytes : List ℕ). OnOk c.end_line.result (c.end_line.new.text.items ≡ bytes))
    (enclosed c.args.text.now.items _ _ _ _ _ _ _ c.in_ok-begin_test.ensures
    (c.in_ok-append_user_attr.ensures ∙ ap (λ (bytes : List ℕ). c.begin_test.new.text.items ++ bytes) status) c.in_ok-close.ensures)
    c.end_line.ensures
