use Rattle.std.proofs.Common.{sym, ◌∙◌}
use Rattle.vcd_dump.specs.Words.{is_blank}
use Rattle.vcd_dump.proofs.Found.{ends_within, no_words}
use Rattle.vcd_dump.proofs.words.next_word.Goals as goal

pub split_at-requires : goal.split_at-requires
split_at-requires c = rw c.word_end.ensures (ends_within is_blank c.loop-byte.rest.now)

pub returns-clause-word : goal.returns-clause-word
returns-clause-word c = sym c.loop-byte.invariant.same ∙ no_words c.loop-byte.rest.now c.in_default.ensures.cases
