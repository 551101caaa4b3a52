use Rattle.cov_serve.proofs.Reading.{all_within}
use Rattle.cov_serve.proofs.words.serve_words.Goals as goal

pub returns-clause-within : goal.returns-clause-within
returns-clause-within c = all_within c.args.words.now c.said.result c.said.ensures.words
