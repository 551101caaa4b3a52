use Rattle.std.proofs.Common.{◌≡◌, true, ◌∙◌, sym, length, arith}
use Rattle.record_codec.specs.Reading.{counted, event_at}
use Rattle.record_codec.specs.Under.{event_under, plain_event_under, are_without_args}
use Rattle.record_codec.proofs.Under.{events_same, plain_events_same, all_empty}
use Rattle.record_codec.proofs.events.counted_events.Goals as goal

pub returns-then-have_no_args : goal.returns-then-have_no_args
returns-then-have_no_args c =
    let signals = c.args.signals.now in
    let instances = c.args.instances.now in
    let empty : are_without_args instances ≡ true = sym c.have_no_args.ensures ∙ c.if-have_no_args.true in
    let same : counted (plain_event_under c.deref.result.now (length instances)) c.args.count c.args.bytes.now ≡ counted (event_at signals instances) c.args.count c.args.bytes.now =
    rw (c.deref.ensures.value, c.in_ok-limits.ensures) (plain_events_same signals instances c.args.count c.args.bytes.now (all_empty instances empty) (λ i. omega (arith, c.type_inv.bytes i))) in
    rw (← same) c.counted.ensures

pub returns : goal.returns
returns c =
    let signals = c.args.signals.now in
    let instances = c.args.instances.now in
    let same : counted (event_under c.deref-2.result.now instances) c.args.count c.args.bytes.now ≡ counted (event_at signals instances) c.args.count c.args.bytes.now =
    rw (c.deref-2.ensures.value, c.in_ok-limits.ensures) (events_same signals instances c.args.count c.args.bytes.now (λ i. omega (arith, c.type_inv.bytes i))) in
    rw (← same) c.counted-2.ensures
