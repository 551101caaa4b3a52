use Rattle.std.proofs.Common.{◌≡◌, ℕ, List, OnOk, subst}
use Rattle.export_ucis.proofs.Attributes.{four_all}
use Rattle.export_ucis.specs.Tests.{merge_id}
use Rattle.export_ucis.proofs.tests.append_merge_id.Goals as goal

pub returns : goal.returns
unfolding merge_id
returns c =
    subst (λ (bytes : List ℕ). OnOk c.truth.result (c.truth.new.text.items ≡ bytes))
    (four_all c.args.text.now.items _ _ _ _ _ _ _ c.in_ok-number.ensures c.in_ok-value.ensures c.in_ok-value-2.ensures)
    c.truth.ensures
