use Rattle.std.proofs.Common.{◌≡◌, ◌++◌, take}
use Rattle.point_tables.specs.Tables.{places_from, has_value}
use Rattle.point_tables.proofs.values.walk_values.Given as goal

abbrev pub invariant-loop-place : goal.invariant-loop-place
invariant-loop-place l = l.met.items ≡ l.initial.met.items ++ places_from (λ bin. has_value l.item.bins l.value bin.rule) 0 (take l.place l.item.bins)
