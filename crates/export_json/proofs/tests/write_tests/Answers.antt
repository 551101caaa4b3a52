use Rattle.std.proofs.Common.{arith}
use Rattle.json_text.proofs.Parts.{array_written}
use Rattle.export_json.specs.Export.{test_value, tests_value}
use Rattle.export_json.proofs.tests.write_tests.Goals as goal

pub returns : goal.returns
unfolding tests_value
returns c =
    let end = c.loop-test-test.false in
    array_written test_value c.args.tests.now _ _ _ _ c.loop-test.test-index (omega (arith, end)) c.in_ok-begin_array.ensures c.loop-test.invariant c.in_ok-end_array.ensures
