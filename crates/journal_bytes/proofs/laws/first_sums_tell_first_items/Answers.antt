use Rattle.journal_bytes.proofs.Telling.{first_sums_tell}
use Rattle.journal_bytes.proofs.laws.first_sums_tell_first_items.Goals as goal

pub returns : goal.returns
returns c = first_sums_tell
