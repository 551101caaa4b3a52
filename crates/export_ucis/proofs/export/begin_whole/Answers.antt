use Rattle.std.proofs.Common.{◌≡◌, ℕ, List, OnOk, subst}
use Rattle.export_ucis.specs.Export.{head_attributes}
use Rattle.export_ucis.proofs.Attributes.{three_attributes}
use Rattle.export_ucis.proofs.export.begin_whole.Goals as goal

pub returns : goal.returns
unfolding head_attributes
returns c =
    subst (λ (bytes : List ℕ). OnOk c.end_tag.result (c.end_tag.new.text.items ≡ bytes))
    (three_attributes c.args.text.now.items _ _ _ _ _ _ _ _ _ c.in_ok-begin_tag.ensures c.in_ok-append_format_version.ensures c.in_ok-append_writer.ensures c.in_ok-append_time.ensures)
    c.end_tag.ensures
