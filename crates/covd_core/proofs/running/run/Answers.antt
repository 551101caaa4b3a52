use Rattle.covd_core.proofs.OneDesign.{has_one_design}
use Rattle.covd_core.proofs.running.run.Goals as goal

pub returns-in-Some-clause-one_design : goal.returns-in-Some-clause-one_design
returns-in-Some-clause-one_design g c = has_one_design (g.F.Shelf.files c.args.shelf.now) (g.F.Shelf.faults c.args.shelf.now) (g.F.Shelf.faults c.serve.new.shelf)

pub returns-in-None-clause-one_design : goal.returns-in-None-clause-one_design
returns-in-None-clause-one_design g c = has_one_design (g.F.Shelf.files c.args.shelf.now) (g.F.Shelf.faults c.args.shelf.now) (g.F.Shelf.faults c.print.new.shelf)
