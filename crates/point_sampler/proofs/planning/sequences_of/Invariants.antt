use Rattle.std.proofs.Common.{◌≡◌, take}
use Rattle.point_tables.specs.Tables.{places_from}
use Rattle.point_sampler.specs.Plans.{is_default_sequence}
use Rattle.point_sampler.proofs.planning.sequences_of.Given as goal

abbrev pub invariant-loop-place : goal.invariant-loop-place
invariant-loop-place l = l.places.items ≡ places_from (λ bin. is_default_sequence bin.rule) 0 (take l.place l.bins)
