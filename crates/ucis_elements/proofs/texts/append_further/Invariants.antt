use Rattle.std.proofs.Common.{◌≡◌, ◌++◌, take, drop, ◌<◌, ◌^◌, ℕ}
use Rattle.std.specs.List.{flat_map}
use Rattle.ucis_elements.specs.Numbers.{further_text}
use Rattle.ucis_elements.proofs.texts.append_further.Given as goal

abbrev pub invariant-loop-low : goal.invariant-loop-low
invariant-loop-low l = l.text.items ≡ l.fn.text.items ++ flat_map further_text (take l.low-index l.intervals)
