use Rattle.std.proofs.Common.{◌≡◌, ℕ, List, OnOk, subst}
use Rattle.export_ucis.specs.Export.{history_part}
use Rattle.export_ucis.proofs.Chains.{three}
use Rattle.export_ucis.proofs.export.append_history.Goals as goal

pub returns : goal.returns
unfolding history_part
returns c =
    subst (λ (bytes : List ℕ). OnOk c.append_tests.result (c.append_tests.new.text.items ≡ bytes))
    (three c.args.text.now.items _ _ _ _ _ c.in_ok-append_source.ensures c.in_ok-append_merge.ensures)
    c.append_tests.ensures
