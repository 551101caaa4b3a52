use Rattle.json_text.proofs.Parts.{object_written}
use Rattle.export_json.specs.Export.{test_members, test_value}
use Rattle.export_json.proofs.tests.write_test.Goals as goal

pub returns : goal.returns
unfolding test_value
returns c = object_written (test_members c.args.test.now) _ _ _ _ c.in_ok-begin_object.ensures c.in_ok-write_members.ensures c.in_ok-end_object.ensures
