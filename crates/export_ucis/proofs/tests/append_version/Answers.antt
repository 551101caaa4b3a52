use Rattle.std.proofs.Common.{◌≡◌, ℕ, List, ◌++◌, OnOk, codes, subst}
use Rattle.markup.specs.Trees.{attribute, attribute_text}
use Rattle.export_ucis.proofs.tests.append_version.Goals as goal

pub returns : goal.returns
returns c =
    subst (λ (bytes : List ℕ). OnOk c.value.result (c.value.new.text.items ≡ c.args.text.now.items ++ attribute_text (attribute (codes "vendorToolVersion") bytes)))
    c.as_bytes.ensures.value c.value.ensures
