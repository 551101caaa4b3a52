-- A record within its limits, or above one of them.
use Rattle.std.proofs.Common.{◌≡◌, ℕ, ◌≤◌, ◌<◌, List, length, true, false, Ok, Err, refl, sym, ap, subst, ◌∙◌, arith}
use Rattle.std.specs.Prelude.{nat_lt}
use Rattle.std.proofs.lemmas.Bool.Decides.{nat_tests}
use Rattle.cov_ground.specs.Limits.{longest_record, most_events}
use Rattle.record_codec.specs.declared.record.Event.{Event}
use Rattle.record_codec.specs.declared.record.Fields.{Fields}
use Rattle.record_codec.specs.declared.record.Record.{Record}
use Rattle.record_codec.specs.declared.record.Start.{Start}
use Rattle.record_codec.specs.declared.making.MakeFault.{MakeFault}
use Rattle.record_codec.specs.declared.making.MakeFault.TheVariants as faults
use Rattle.record_codec.specs.Bytes.{bytes_of}
use Rattle.record_codec.specs.Spelling.{fields_of}
use Rattle.record_codec.specs.Starts.{with_events, size_with}
use Rattle.record_codec.specs.Builders.{Finishes}
use Rattle.vcd_reader.specs.Refusals.{Fails}
use Rattle.vcd_reader.specs.Starting.{limited, refused}

not_above : (n most : ℕ) → n ≤ most → nat_lt most n ≡ false
not_above n most h = grind (arith, nat_tests)

is_above : (n most : ℕ) → most < n → nat_lt most n ≡ true
is_above n most h = grind (arith, nat_tests)

within : (f : Fields) (size : ℕ) → length f.events ≤ most_events → size ≤ longest_record → limited f size ≡ Ok f
unfolding limited
within f size many long = let a = not_above (length f.events) most_events many in let b = not_above size longest_record long in rw (a, b) refl

pub made_is : (r : Record) (start : Start) (events : List Event) → fields_of r ≡ with_events start events → limited (with_events start events) (size_with start events) ≡ Ok (fields_of r)
made_is r start events e =
    let many : length events ≤ most_events = subst (λ (f : Fields). length f.events ≤ most_events) e r.within.event_count in
    let long : size_with start events ≤ longest_record = subst (λ (f : Fields). length (bytes_of f) ≤ longest_record) e r.within.short in
    within (with_events start events) (size_with start events) many long ∙ ap (λ (f : Fields). Ok f) (sym e)

pub refused_is : (fault : MakeFault) (start : Start) (events : List Event) → Finishes start events (Err fault) → Fails (refused fault) (limited (with_events start events) (size_with start events))
unfolding limited
refused_is (faults.TooManyEvents n) start events h = let a = is_above (length events) most_events h.0 in let e = h.1 in rw (a, e) refl
refused_is (faults.TooLong n) start events h =
    let a = not_above (length events) most_events h.0 in
    let b = is_above (size_with start events) longest_record h.1 in
    let e = h.2 in
    rw (a, b, e) refl
refused_is faults.Memory start events h = tt
