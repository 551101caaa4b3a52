use Rattle.std.proofs.Common.{◌≡◌, ℕ, List, OnOk, subst}
use Rattle.export_ucis.proofs.Attributes.{three_attributes}
use Rattle.export_ucis.proofs.export.begin_coverage.Goals as goal

pub returns : goal.returns
returns c =
    subst (λ (bytes : List ℕ). OnOk c.end_tag.result (c.end_tag.new.text.items ≡ bytes))
    (three_attributes c.args.text.now.items _ _ _ _ _ _ _ _ _ c.in_ok-begin_tag.ensures c.in_ok-value.ensures c.in_ok-number.ensures c.in_ok-value-2.ensures)
    c.end_tag.ensures
