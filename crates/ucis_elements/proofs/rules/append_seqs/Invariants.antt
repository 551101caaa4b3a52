use Rattle.std.proofs.Common.{◌≡◌, ◌++◌, take, drop, ◌<◌, ◌^◌, ℕ}
use Rattle.markup.specs.Trees.{each, markup_text}
use Rattle.ucis_elements.specs.Bins.{range_element, pattern_element, pattern_attr, item_element, seq_element, index_element}
use Rattle.ucis_elements.proofs.rules.append_seqs.Given as goal

abbrev pub invariant-loop-seq : goal.invariant-loop-seq
invariant-loop-seq l = l.text.items ++ markup_text (each (seq_element l.count) (drop l.seq-index l.seqs)) ≡ l.fn.text.items ++ markup_text (each (seq_element l.count) l.seqs)
