use Rattle.std.proofs.Common.{◌≡◌, ◌++◌, take, drop, ◌<◌, ◌^◌, ℕ}
use Rattle.markup.specs.Trees.{each, markup_text}
use Rattle.ucis_elements.specs.Bins.{range_element, pattern_element, pattern_attr, item_element, seq_element, index_element}
use Rattle.ucis_elements.proofs.rules.append_spans.Given as goal

abbrev pub invariant-loop-pattern : goal.invariant-loop-pattern
invariant-loop-pattern l = l.text.items ++ markup_text (each (pattern_element l.count) (drop l.pattern-index l.patterns)) ≡ l.fn.text.items ++ markup_text (each (pattern_element l.count) l.patterns)
