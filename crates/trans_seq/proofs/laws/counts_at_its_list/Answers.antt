use Rattle.trans_seq.proofs.WordLemmas as lemmas
use Rattle.trans_seq.proofs.laws.counts_at_its_list.Goals as goal

pub returns : goal.returns
returns c = lemmas.counts_word
