use Rattle.journal_file.proofs.Told.{sums_tell_damage}
use Rattle.journal_file.proofs.laws.sums_tell_damage.Goals as goal

pub returns : goal.returns
returns c = sums_tell_damage
