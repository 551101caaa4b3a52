use Rattle.std.proofs.Common.{◌≡◌, ◌++◌, take, drop, ◌<◌, ◌^◌, ℕ}
use Rattle.markup.specs.Trees.{each, markup_text}
use Rattle.ucis_elements.specs.Bins.{range_element, pattern_element, pattern_attr, item_element, seq_element, index_element}
use Rattle.ucis_elements.proofs.rules.append_ranges.Given as goal

abbrev pub invariant-loop-low : goal.invariant-loop-low
invariant-loop-low l = l.text.items ++ markup_text (each (range_element l.count) (drop l.low-index l.intervals)) ≡ l.fn.text.items ++ markup_text (each (range_element l.count) l.intervals)
