use Rattle.trans_seq.proofs.WordLemmas as lemmas
use Rattle.trans_seq.proofs.laws.one_list.Goals as goal

pub returns : goal.returns
returns c = lemmas.one_list
