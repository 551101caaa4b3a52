-- One more event of a record.
use Rattle.std.proofs.Common.{◌≡◌, ◌↔◌, ℕ, ◌+◌, ◌-◌, ◌^◌, ◌≤◌, min, Bool, true, false, cond, List, [], ◌∷◌, ◌++◌, length, refl, ap, sym, subst, ◌∙◌, arith, length-append, append-nil}
use Rattle.std.proofs.lemmas.Bool.{false≢true}
use Rattle.std.specs.Int.{w32, to_be_bytes}
use Rattle.std.specs.List.{flat_map}
use Rattle.std.proofs.lemmas.Grind.{flat_map-append}
use Rattle.cov_ground.specs.Limits.{longest_record, most_events}
use Rattle.record_codec.specs.declared.record.Start.{Start}
use Rattle.record_codec.specs.declared.record.Event.{Event}
use Rattle.record_codec.specs.Bytes.{event, front, signal_table, instance_table, event_list, tables}
use Rattle.record_codec.specs.Limits.{IsEvent}
use Rattle.record_codec.specs.Starts.{with_events, size_with, IsSound}
use Rattle.record_codec.specs.Builders.{told}
use Rattle.record_codec.proofs.Appended.{in_parts}
use Rattle.record_codec.proofs.Answering.{all_snoc}

-- ---- sizes

abbrev before_events : Start → ℕ
before_events s = length (front s.version s.id s.status s.seed s.time s.user) + (length (signal_table s.signals) + length (instance_table s.version s.instances))

size_is : (s : Start) (events : List Event) → size_with s events ≡ before_events s + (4 + length (flat_map event events))
size_is s events =
    let whole = ap length (in_parts (with_events s events)) in
    let a = length-append (front s.version s.id s.status s.seed s.time s.user) (tables s.version s.signals s.instances events) in
    let b = length-append (signal_table s.signals) (instance_table s.version s.instances ++ event_list events) in
    let c = length-append (instance_table s.version s.instances) (event_list events) in
    let d = length-append (to_be_bytes w32 (length events)) (flat_map event events) in
    let four : length (to_be_bytes w32 (length events)) ≡ 4 = refl in
    omega (arith, whole, a, b, c, d, four)

pub size_more : (s : Start) (events : List Event) (e : Event) → size_with s (events ++ e ∷ []) ≡ size_with s events + length (event e)
size_more s events e =
    let all : length (flat_map event (events ++ e ∷ [])) ≡ length (flat_map event events) + length (event e) =
    ap length (flat_map-append event events (e ∷ [])) ∙ length-append (flat_map event events) (flat_map event (e ∷ [])) ∙ ap (λ (l : List ℕ). length (flat_map event events) + length l) (append-nil (event e)) in
    omega (arith, size_is s (events ++ e ∷ []), size_is s events, all)

-- ---- an event that is one of the tables

-- a count and a size of one event more
pub record OneMore (e : Event) (n z count size : ℕ) : Type 0 where
  pub many : count ≡ min (n + 1) (2 ^ 64 - 1)
  pub long : size ≡ min (z + length (event e)) (2 ^ 64 - 1)

-- whether the event is kept
abbrev pub IsKept : (count size : ℕ) → Bool → Type 0
IsKept count size w = (w ≡ true) ↔ ((count ≤ most_events) × (size ≤ longest_record))

module _ (s : Start) (e : Event) {n z count size : ℕ} (more : OneMore e n z count size) where
  within : count ≤ most_events → size ≤ longest_record → (count ≡ n + 1) × (size ≡ z + length (event e)) × (n ≤ most_events) × (z ≤ longest_record)
  within c z =
      let many = more.many in
      let long = more.long in
      (omega (arith, many, c), omega (arith, long, z), omega (arith, many, c), omega (arith, long, z))

  sound_by : (old : List Event) (w : Bool) → IsSound s old n z → IsEvent s.signals s.instances e → IsKept count size w → IsSound s (cond w (old ++ e ∷ []) old) count size
  sound_by old true h is kept =
      let fits = kept.0 refl in
      let f = within fits.0 fits.1 in
      let many = h.many f.2 f.3 in
      let long = h.long f.2 f.3 in
      record {
        start = h.start;
        events = all_snoc (IsEvent s.signals s.instances) old e h.events is;
        many = λ _ _. omega (arith, length-append old (e ∷ []), many, f.0);
        long = λ _ _. omega (arith, size_more s old e, long, f.1);
      }
  sound_by old false h is kept = record {
    start = h.start;
    events = h.events;
    many = λ c z. absurd (false≢true (kept.1 (c, z)));
    long = λ c z. absurd (false≢true (kept.1 (c, z)));
  }

  pub sound_more : (old new : List Event) (w : Bool) → IsSound s old n z → IsEvent s.signals s.instances e → IsKept count size w → new ≡ cond w (old ++ e ∷ []) old → IsSound s new count size
  sound_more old new w h is kept at = subst (λ (l : List Event). IsSound s l count size) (sym at) (sound_by old w h is kept)

-- what a builder holds of the events that were pushed
pub record Holds (s : Start) (events kept : List Event) (n z : ℕ) : Type 0 where
  pub many : n ≡ told (length events)
  pub long : z ≡ told (size_with s events)
  pub same : length events ≤ most_events → size_with s events ≤ longest_record → kept ≡ events

module _ (s : Start) (e : Event) {n z count size : ℕ} (more : OneMore e n z count size) where
  pub holds_more : (events old new : List Event) (w : Bool) → IsKept count size w → new ≡ cond w (old ++ e ∷ []) old → Holds s events old n z → Holds s (events ++ e ∷ []) new count size
  holds_more events old new w kept at h =
      let len = length-append events (e ∷ []) in
      let long = size_more s events e in
      let hm = h.many in
      let hz = h.long in
      let mm = more.many in
      let mz = more.long in
      let count_is : count ≡ told (length (events ++ e ∷ [])) = omega (arith, len, hm, mm) in
      let size_is : size ≡ told (size_with s (events ++ e ∷ [])) = omega (arith, long, hz, mz) in
      record {
        many = count_is;
        long = size_is;
        same = λ c b.
            let wanted : w ≡ true = kept.1 (omega (arith, count_is, c), omega (arith, size_is, b)) in
            let before : old ≡ events = h.same (omega (arith, len, c)) (omega (arith, long, b)) in
            at ∙ ap (λ (v : Bool). cond v (old ++ e ∷ []) old) wanted ∙ ap (λ (l : List Event). l ++ e ∷ []) before;
      }
