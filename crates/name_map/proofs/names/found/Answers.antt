use Rattle.name_map.specs.Names.{meaning_of}
use Rattle.name_map.proofs.names.found.Goals as goal

pub returns : goal.returns
unfolding meaning_of
returns g c = c.get.ensures.value
