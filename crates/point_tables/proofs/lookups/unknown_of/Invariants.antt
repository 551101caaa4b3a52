use Rattle.std.proofs.Common.{◌≡◌, take, None}
use Rattle.point_tables.specs.Tables.{places_from, has_value}
use Rattle.point_tables.proofs.lookups.unknown_of.Given as goal

abbrev pub invariant-loop-place : goal.invariant-loop-place
invariant-loop-place l = l.places.items ≡ places_from (λ bin. has_value l.bins None bin.rule) 0 (take l.place l.bins)
