use Rattle.std.proofs.Common.{◌≡◌, ℕ, List, ◌++◌, ◌∙◌, OnOk, ap, subst, codes, Bool}
use Rattle.markup.specs.Trees.{attribute, attribute_text, truth}
use Rattle.export_ucis.proofs.Attributes.{four_all}
use Rattle.export_ucis.specs.Tests.{run_attributes}
use Rattle.export_ucis.proofs.tests.append_run.Goals as goal

pub returns : goal.returns
unfolding run_attributes
returns c =
    let passed = ap (λ (passed : Bool). attribute_text (truth (codes "testStatus") passed)) c.has_passed.ensures in
    let user = ap (λ (user : List ℕ). attribute_text (attribute (codes "userName") user)) c.as_slice.ensures in
    subst (λ (bytes : List ℕ). OnOk c.value.result (c.value.new.text.items ≡ bytes))
    (four_all c.args.text.now.items _ _ _ _ _ _ _ (c.in_ok-truth.ensures ∙ ap (λ (bytes : List ℕ). c.args.text.now.items ++ bytes) passed) c.in_ok-number.ensures c.in_ok-number-2.ensures)
    (subst (λ (piece : List ℕ). OnOk c.value.result (c.value.new.text.items ≡ c.number-2.new.text.items ++ piece)) user c.value.ensures)
