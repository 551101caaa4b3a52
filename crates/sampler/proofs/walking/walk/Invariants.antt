use Rattle.std.proofs.Common.{◌≡◌, List, length, drop}
use Rattle.record_codec.specs.declared.record.Event.{Event}
use Rattle.sampler.specs.Values.{places}
use Rattle.sampler.specs.Walking.{AllInstFit, WalkAt}
use Rattle.sampler.proofs.walking.walk.Given as goal

abbrev pub invariant-loop-event : goal.invariant-loop-event
invariant-loop-event l = record {
  values_len : length l.values ≡ places;
  counts_len : length l.counts ≡ length l.initial.counts;
  fits : AllInstFit l.instances l.plans l.share l.kept.items;
  before : List Event;
  so_far : length before ≡ l.event-index;
  at : WalkAt l.rec l.instances l.plans l.share before (drop l.event-index l.rec.events) l.values l.initial.counts l.kept.items l.counts;
}
