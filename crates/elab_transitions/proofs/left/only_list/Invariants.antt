use Rattle.std.proofs.Common.{◌≡◌, drop}
use Rattle.trans_seq.specs.Words.{word_of}
use Rattle.elab_transitions.proofs.OnlyLists.{ahead}
use Rattle.elab_transitions.proofs.left.only_list.Given as goal

abbrev pub invariant-loop-item : goal.invariant-loop-item
invariant-loop-item l = word_of l.items ≡ ahead l.list.items (word_of (drop l.item-index l.items))
