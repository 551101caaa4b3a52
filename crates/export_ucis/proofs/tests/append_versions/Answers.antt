use Rattle.std.proofs.Common.{◌≡◌, ℕ, List, OnOk, subst}
use Rattle.export_ucis.proofs.Attributes.{four_all}
use Rattle.export_ucis.specs.Tests.{tool_versions}
use Rattle.export_ucis.proofs.tests.append_versions.Goals as goal

pub returns : goal.returns
unfolding tool_versions
returns c =
    subst (λ (bytes : List ℕ). OnOk c.append_version.result (c.append_version.new.text.items ≡ bytes))
    (four_all c.args.text.now.items _ _ _ _ _ _ _ c.in_ok-append_format_version.ensures c.in_ok-value.ensures c.in_ok-value-2.ensures)
    c.append_version.ensures
