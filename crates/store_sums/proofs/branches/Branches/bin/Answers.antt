use Rattle.store_sums.proofs.Children.{some_inside}
use Rattle.store_sums.proofs.branches.Branches.bin.Goals as goal

pub returns-clause-inside : goal.returns-clause-inside
returns-clause-inside c = some_inside c.args.self.now c.args.number c.bin_at.result c.bin_at.ensures
