use Rattle.std.proofs.Common.{rules}
use Rattle.std.proofs.lemmas.List.Sorted.{answers_always}
use Rattle.word_table.proofs.Sorting.{by_word, by_word_ranks, sorted_words}
use Rattle.word_table.proofs.placed.sort.Goals as goal

pub returns-clause-sorted : goal.returns-clause-sorted
returns-clause-sorted c = sorted_words c.sort_unstable_by.new.self.items (c.sort_unstable_by.ensures.sorted by_word by_word_ranks (answers_always _ _ _ (λ f a r g called. search rules)))
