use Rattle.journal_bytes.proofs.Heads.{one_journal}
use Rattle.journal_bytes.proofs.laws.a_file_has_one_journal.Goals as goal

pub returns : goal.returns
returns c = one_journal
