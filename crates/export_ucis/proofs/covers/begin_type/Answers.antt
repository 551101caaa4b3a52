use Rattle.std.proofs.Common.{◌≡◌, ℕ, List, OnOk, subst}
use Rattle.export_ucis.proofs.Attributes.{one_attribute}
use Rattle.export_ucis.proofs.covers.begin_type.Goals as goal

pub returns : goal.returns
returns c =
    subst (λ (bytes : List ℕ). OnOk c.end_tag.result (c.end_tag.new.text.items ≡ bytes))
    (one_attribute c.args.text.now.items _ _ _ _ _ c.in_ok-begin_tag.ensures c.in_ok-number.ensures)
    c.end_tag.ensures
