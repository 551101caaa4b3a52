use Rattle.std.proofs.Common.{◌≡◌, ◌++◌, take, drop, ◌<◌, ◌^◌, ℕ}
use Rattle.markup.specs.Trees.{each, markup_text}
use Rattle.ucis_elements.specs.Bins.{range_element, pattern_element, pattern_attr, item_element, seq_element, index_element}
use Rattle.ucis_elements.proofs.rules.append_items.Given as goal

abbrev pub invariant-loop-item : goal.invariant-loop-item
invariant-loop-item l = l.text.items ++ markup_text (each item_element (drop l.item-index l.items)) ≡ l.fn.text.items ++ markup_text (each item_element l.items)
