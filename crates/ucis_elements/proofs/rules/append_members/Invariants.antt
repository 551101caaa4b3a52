use Rattle.std.proofs.Common.{◌≡◌, ◌++◌, take, drop, ◌<◌, ◌^◌, ℕ}
use Rattle.markup.specs.Trees.{each, markup_text}
use Rattle.ucis_elements.specs.Bins.{range_element, pattern_element, pattern_attr, item_element, seq_element, index_element}
use Rattle.ucis_elements.proofs.rules.append_members.Given as goal

abbrev pub invariant-loop-index : goal.invariant-loop-index
invariant-loop-index l = l.text.items ++ markup_text (each index_element (drop l.index-index l.members)) ≡ l.fn.text.items ++ markup_text (each index_element l.members)
