use Rattle.journal_bytes.proofs.Telling.{sums_tell}
use Rattle.journal_bytes.proofs.laws.sums_tell_items.Goals as goal

pub returns : goal.returns
returns c = sums_tell
