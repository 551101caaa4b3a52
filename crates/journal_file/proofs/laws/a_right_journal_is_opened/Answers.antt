use Rattle.journal_file.proofs.Right.{right_is_opened}
use Rattle.journal_file.proofs.laws.a_right_journal_is_opened.Goals as goal

pub returns : goal.returns
returns c = right_is_opened
