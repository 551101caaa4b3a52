use Rattle.std.proofs.Common.{◌≡◌, ℕ, List, OnOk, subst}
use Rattle.export_ucis.specs.Export.{source_file}
use Rattle.export_ucis.proofs.Attributes.{two_attributes}
use Rattle.export_ucis.proofs.export.append_source.Goals as goal

pub returns : goal.returns
unfolding source_file
returns c =
    subst (λ (bytes : List ℕ). OnOk c.end_line.result (c.end_line.new.text.items ≡ bytes))
    (two_attributes c.args.text.now.items _ _ _ _ _ _ _ _ _ c.in_ok-begin_tag.ensures c.in_ok-value.ensures c.in_ok-number.ensures c.in_ok-end_empty.ensures)
    c.end_line.ensures
