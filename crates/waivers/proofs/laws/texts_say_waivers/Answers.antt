use Rattle.waivers.proofs.Told.{texts_say_waivers}
use Rattle.waivers.proofs.laws.texts_say_waivers.Goals as goal

pub returns : goal.returns
returns c = texts_say_waivers
