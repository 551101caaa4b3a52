use Rattle.grammar_laws.proofs.Meanings.{literal_known}
use Rattle.grammar_laws.proofs.laws.literals_have_meanings.Goals as goal

pub returns : goal.returns
returns c = literal_known
