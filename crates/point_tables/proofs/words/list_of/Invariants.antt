use Rattle.std.proofs.Common.{◌≡◌, Some, take}
use Rattle.trans_seq.specs.Words.{word_of}
use Rattle.point_tables.proofs.words.list_of.Given as goal

abbrev pub invariant-loop-item : goal.invariant-loop-item
invariant-loop-item l = word_of (take l.item-index l.items) ≡ Some l.values.items
