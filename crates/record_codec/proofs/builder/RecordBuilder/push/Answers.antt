use Rattle.std.proofs.Common.{subst}
use Rattle.record_codec.specs.declared.record.Start.{Start}
use Rattle.record_codec.specs.Limits.{IsEvent}
use Rattle.record_codec.proofs.LimitTests.{few_args}
use Rattle.record_codec.proofs.Pushing.{sound_more, holds_more}
use Rattle.record_codec.proofs.builder.RecordBuilder.push.Goals as goal

pub event_size-requires : goal.event_size-requires
event_size-requires c =
    let s = c.args.self.now.start in
    let is : IsEvent s.signals s.instances c.args.event = rw (c.as_slice-signals.ensures, c.as_slice.ensures) at c.is_event.ensures.0 c.if-not-is_event.false in
    few_args s.version s.signals s.instances c.args.event c.args.self.now.sound.start.instances is

pub invariant_of-self-2 : goal.invariant_of-self-2
invariant_of-self-2 c =
    let s = c.args.self.now.start in
    let is : IsEvent s.signals s.instances c.args.event = rw (c.as_slice-signals.ensures, c.as_slice.ensures) at c.is_event.ensures.0 c.if-not-is_event.false in
    let long = rw c.event_size.ensures at c.saturating_add-size.ensures in
    record { sound = sound_more s c.args.event (record { many = c.saturating_add-count.ensures; long = long }) c.args.self.now.kept.items c.keep.new.kept.items c.is_within.result c.args.self.now.sound is c.is_within.ensures c.in_ok-keep.ensures.kept }

pub returns : goal.returns
returns c =
    let s = c.args.self.now.start in
    let is : IsEvent s.signals s.instances c.args.event = rw (c.as_slice-signals.ensures, c.as_slice.ensures) at c.is_event.ensures.0 c.if-not-is_event.false in
    let long = rw c.event_size.ensures at c.saturating_add-size.ensures in
    λ start events h.
    let more = holds_more start c.args.event (record { many = c.saturating_add-count.ensures; long = long }) events c.args.self.now.kept.items c.keep.new.kept.items c.is_within.result c.is_within.ensures c.in_ok-keep.ensures.kept (record { many = h.count; long = h.size; same = h.kept }) in
    (subst (λ (b : Start). IsEvent b.signals b.instances c.args.event) h.begun is, record { begun = h.begun; count = more.many; size = more.long; kept = more.same })
