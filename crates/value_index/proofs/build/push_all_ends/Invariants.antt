use Rattle.std.proofs.Common.{◌≡◌, ◌++◌, take}
use Rattle.std.specs.List.{flat_map}
use Rattle.value_index.specs.Sizes.{ends_of}
use Rattle.value_index.proofs.build.push_all_ends.Given as goal

abbrev pub invariant-loop-span : goal.invariant-loop-span
invariant-loop-span l = l.cuts.items ≡ l.initial.cuts.items ++ flat_map ends_of (take l.span-index l.spans)
