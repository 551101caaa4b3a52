use Rattle.std.proofs.Common.{◌≡◌, ℕ, List, ◌++◌, ◌∙◌, OnOk, ap, subst, codes}
use Rattle.markup.specs.Trees.{attribute, attribute_text}
use Rattle.export_ucis.proofs.Attributes.{four_all}
use Rattle.export_ucis.specs.Tests.{test_id}
use Rattle.export_ucis.proofs.tests.append_test_id.Goals as goal

pub returns : goal.returns
unfolding test_id
returns c =
    let name = ap (λ (name : List ℕ). attribute_text (attribute (codes "logicalName") name)) c.as_slice.ensures in
    subst (λ (bytes : List ℕ). OnOk c.value-2.result (c.value-2.new.text.items ≡ bytes))
    (four_all c.args.text.now.items _ _ _ _ _ _ _ c.in_ok-number.ensures c.in_ok-number-2.ensures (c.in_ok-value.ensures ∙ ap (λ (bytes : List ℕ). c.number-2.new.text.items ++ bytes) name))
    c.value-2.ensures
