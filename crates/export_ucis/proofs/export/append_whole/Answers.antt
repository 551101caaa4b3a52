use Rattle.std.proofs.Common.{◌≡◌, ℕ, List, OnOk, subst}
use Rattle.export_ucis.specs.Export.{whole}
use Rattle.export_ucis.proofs.Chains.{one_more, closed}
use Rattle.export_ucis.proofs.export.append_whole.Goals as goal

pub returns : goal.returns
unfolding whole
returns c =
    subst (λ (bytes : List ℕ). OnOk c.end_line-2.result (c.end_line-2.new.text.items ≡ bytes))
    (closed c.args.text.now.items _ _ _ _ _ _ _ _
    (one_more c.args.text.now.items _ _ c.begin_whole.new.text.items c.end_line.new.text.items c.in_ok-begin_whole.ensures c.in_ok-end_line.ensures)
    (one_more c.end_line.new.text.items _ _ c.append_history.new.text.items c.append_coverage.new.text.items c.in_ok-append_history.ensures c.in_ok-append_coverage.ensures)
    c.in_ok-close.ensures)
    c.end_line-2.ensures
