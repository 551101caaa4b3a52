use Rattle.waivers.specs.Pieces.{parts_of}
use Rattle.waivers.proofs.Meaning.{decides}
use Rattle.waivers.proofs.patterns.Pattern.matches.Goals as goal

pub returns-clause-meant : goal.returns-clause-meant
returns-clause-meant c = rw (← c.self.view_is) (decides (parts_of c.self.inside.pieces.items) c.args.path.now c.in_ok-is.is' (rw c.as_slice.ensures.value at c.in_ok-is.ensures))
