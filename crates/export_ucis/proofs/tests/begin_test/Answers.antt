use Rattle.std.proofs.Common.{◌≡◌, ℕ, List, OnOk, subst, codes}
use Rattle.export_ucis.specs.Tests.{test_id, run_attributes, tool_attributes}
use Rattle.export_ucis.proofs.Attributes.{three_lists}
use Rattle.export_ucis.proofs.tests.begin_test.Goals as goal

pub returns : goal.returns
returns c =
    subst (λ (bytes : List ℕ). OnOk c.end_tag.result (c.end_tag.new.text.items ≡ bytes))
    (three_lists c.args.text.now.items _ (test_id c.args.id c.args.test.now) (run_attributes c.args.test.now) (tool_attributes (codes "UCIS:Simulator")) _ _ _ _ _
    c.in_ok-begin_tag.ensures c.in_ok-append_test_id.ensures c.in_ok-append_run.ensures c.in_ok-append_tool.ensures)
    c.end_tag.ensures
