use Rattle.waivers.proofs.Told.{lines_say_nothing}
use Rattle.waivers.proofs.laws.lines_say_nothing.Goals as goal

pub returns : goal.returns
returns c = lines_say_nothing
