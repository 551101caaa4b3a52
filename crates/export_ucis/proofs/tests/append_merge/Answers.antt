use Rattle.std.proofs.Common.{◌≡◌, ℕ, List, OnOk, subst, codes}
use Rattle.export_ucis.specs.Tests.{merge_id, tool_attributes, merge_node}
use Rattle.export_ucis.proofs.Attributes.{two_lists}
use Rattle.export_ucis.proofs.tests.append_merge.Goals as goal

pub returns : goal.returns
unfolding merge_node
returns c =
    subst (λ (bytes : List ℕ). OnOk c.end_line.result (c.end_line.new.text.items ≡ bytes))
    (two_lists c.args.text.now.items _ merge_id (tool_attributes (codes "UCIS:Merge")) _ _ _ _ _ _ c.in_ok-begin_tag.ensures c.in_ok-append_merge_id.ensures c.in_ok-append_tool.ensures c.in_ok-end_empty.ensures)
    c.end_line.ensures
