use Rattle.std.proofs.Common.{refl, sym}
use Rattle.store_parts.proofs.Setting.{same_tests, set_there}
use Rattle.store_parts.proofs.remaking.set_tally.Goals as goal

pub returns-in-Some-clause-tests : goal.returns-in-Some-clause-tests
returns-in-Some-clause-tests c = same_tests c.args.tests.now.entries c.args.place c.in-Some.test.now _ (sym c.in-Some.ensures.value) refl

pub returns-in-Some-clause-tallies : goal.returns-in-Some-clause-tallies
returns-in-Some-clause-tallies c = set_there c.args.tests.now.entries c.args.place _
