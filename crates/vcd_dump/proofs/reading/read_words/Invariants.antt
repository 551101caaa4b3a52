use Rattle.std.proofs.Common.{length}
use Rattle.vcd_dump.specs.Words.{words}
use Rattle.vcd_dump.specs.Reading.{read_words}
use Rattle.vcd_dump.proofs.Loops.{Left}
use Rattle.vcd_dump.proofs.reading.read_words.Given as goal

abbrev pub invariant-loop-text : goal.invariant-loop-text
invariant-loop-text l = Left (words l.rest) l.all (read_words (words l.bytes) l.initial.all)

abbrev pub decreases-loop-text : goal.decreases-loop-text
decreases-loop-text l = length l.rest
