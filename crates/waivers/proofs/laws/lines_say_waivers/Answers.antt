use Rattle.waivers.proofs.Told.{lines_say_waivers}
use Rattle.waivers.proofs.laws.lines_say_waivers.Goals as goal

pub returns : goal.returns
returns c = lines_say_waivers
