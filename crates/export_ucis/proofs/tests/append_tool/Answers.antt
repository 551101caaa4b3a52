use Rattle.std.proofs.Common.{◌≡◌, ℕ, List, ◌++◌, ◌∙◌, OnOk, ap, subst, codes}
use Rattle.markup.specs.Trees.{attribute, attribute_text}
use Rattle.export_ucis.specs.Tests.{tool_attributes}
use Rattle.export_ucis.proofs.Chains.{three}
use Rattle.export_ucis.proofs.tests.append_tool.Goals as goal

pub returns : goal.returns
unfolding tool_attributes
returns c =
    subst (λ (bytes : List ℕ). OnOk c.append_versions.result (c.append_versions.new.text.items ≡ bytes))
    (three c.args.text.now.items _ _ _ _ _ c.in_ok-append_time.ensures (c.in_ok-value.ensures ∙ ap (λ (bytes : List ℕ). c.append_time.new.text.items ++ attribute_text (attribute (codes "toolCategory") bytes)) c.as_bytes.ensures.value))
    c.append_versions.ensures
