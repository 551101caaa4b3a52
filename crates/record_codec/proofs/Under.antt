-- An event by the greatest values of its signals is the event by their widths.
use Rattle.std.proofs.Common.{◌≡◌, ℕ, ◌-◌, ◌^◌, ◌<◌, ◌≤◌, Bool, true, false, cond, eqb, ltb, leb, zero, suc, List, [], ◌∷◌, length, take, drop, Option, Some, None, Result, Ok, Err, refl, sym, ap, subst, ◌∙◌, arith, ◌⊎◌, inl, inr}
use Rattle.std.specs.Prelude.{slice_get, ok_or, if◌then◌else◌}
use mathlib.Core.Bool.{◌&&◌}
use Rattle.std.specs.Option.{option_map}
use Rattle.std.specs.Int.{Width, w8, w16, w64, from_be_bytes}
use Rattle.std.proofs.Math.Nat.{pow-le-pow_right}
use Rattle.std.proofs.lemmas.Bool.{leb-true, le-leb, lt-ltb, le-ltb, eqb-true}
use Rattle.std.proofs.lemmas.List.{nil_from_length}
use Rattle.std.proofs.lemmas.Option.{slice_get-map}
use Rattle.record_codec.specs.declared.fault.Fault.{Fault}
use Rattle.record_codec.specs.declared.fault.Fault.TheVariants.{Short, BadField}
use Rattle.record_codec.specs.declared.record.SignalRow.{SignalRow}
use Rattle.record_codec.specs.declared.record.ArgRow.{ArgRow}
use Rattle.record_codec.specs.declared.record.InstRow.{InstRow}
use Rattle.record_codec.specs.declared.record.Event.{Event}
use Rattle.record_codec.specs.declared.record.Event.TheVariants.{Set, Sample}
use Rattle.record_codec.specs.Reading.{◌>>=◌, number_at, number_within, counted, known_at, value_at, values_at, set_at, sample_at, event_at}
use Rattle.record_codec.specs.Under.{greatest, limits_of, known_under, value_under, set_under, plain_sample_at, plain_event_under, event_under, are_without_args, HaveNoArgs}
use Rattle.record_codec.proofs.EventLaws.{chosen}
use Rattle.record_codec.proofs.Readers.{IsBytes, IsBytes-take, bind_ok, let_pass, ok_is}
use Rattle.record_codec.proofs.Numbers.{IsWide, wide8, wide16, wide64, number_field, within_field}

-- two ways to go on that agree at what was read
bind_same : {A B : Type 0} (r : Result A Fault) (f g : A → Result B Fault) → ((x : A) → r ≡ Ok x → f x ≡ g x) → (r >>= f) ≡ (r >>= g)
bind_same (Ok x) f g same = same x refl
bind_same (Err e) f g same = refl

-- ---- the test of a value

pub below_same : (width n : ℕ) → n < 2 ^ 64 → leb n (greatest width) ≡ leb n (2 ^ width - 1)
below_same width n lt = by_width (leb 64 width) refl
  where
    wide : 64 ≤ width → 2 ^ 64 ≤ 2 ^ width
    wide le = pow-le-pow_right (omega arith) le

    by_width : (b : Bool) → leb 64 width ≡ b → leb n (if b then 2 ^ 64 - 1 else 2 ^ width - 1) ≡ leb n (2 ^ width - 1)
    by_width true e = let w = wide (leb-true 64 width e) in le-leb n (2 ^ 64 - 1) (omega arith) ∙ sym (le-leb n (2 ^ width - 1) (omega arith))
    by_width false e = refl

range_same : (width : ℕ) (bytes : List ℕ) → IsBytes bytes → number_within w64 0 (greatest width) bytes ≡ number_within w64 0 (2 ^ width - 1) bytes
unfolding number_within
range_same width bytes fits = by_length (ltb (length bytes) 8)
  where
    n : ℕ
    n = from_be_bytes w64 (take 8 bytes)

    by_length : (b : Bool) → (cond b (Err (Short (length bytes))) (Ok (n, drop 8 bytes)) >>= λ (x : ℕ × List ℕ). cond (leb 0 x.0 && leb x.0 (greatest width)) (Ok x) (Err (BadField (length bytes))))
        ≡ (cond b (Err (Short (length bytes))) (Ok (n, drop 8 bytes)) >>= λ (x : ℕ × List ℕ). cond (leb 0 x.0 && leb x.0 (2 ^ width - 1)) (Ok x) (Err (BadField (length bytes))))
    by_length true = refl
    by_length false = ap (λ (t : Bool). cond (leb 0 n && t) (Ok (n, drop 8 bytes)) (Err (BadField (length bytes)))) (below_same width n (wide64.below (take 8 bytes) (IsBytes-take 8 bytes fits)))

-- ---- the parts of an event

known_same : (width : ℕ) (bytes : List ℕ) → IsBytes bytes → known_under (greatest width) bytes ≡ known_at width bytes
unfolding known_under known_at
known_same width bytes fits = ap (λ (r : Result (ℕ × List ℕ) Fault). r >>= λ (bits : ℕ × List ℕ). Ok (Some bits.0, bits.1)) (range_same width bytes fits)

pub value_same : (width : ℕ) (bytes : List ℕ) → IsBytes bytes → value_under (greatest width) bytes ≡ value_at width bytes
unfolding value_under value_at
value_same width bytes fits = bind_same (number_within w8 0 1 bytes) _ _ (λ known e.
    let found = (within_field wide8 0 1 (omega arith)).takes bytes known fits e in
    ap (λ (r : Result (Option ℕ × List ℕ) Fault). cond (eqb known.0 0) (Ok (None, known.1)) r) (known_same width known.1 found.takes.rest_fits))

abbrev set_of : ℕ → Option ℕ × List ℕ → Result (Event × List ℕ) Fault
set_of signal value = Ok (Set signal value.0, value.1)

rest_of : (signal : ℕ) (row : Option SignalRow) (bytes rest : List ℕ) → IsBytes rest
    → (ok_or (option_map (λ (row : SignalRow). greatest row.width) row) (BadField (length bytes)) >>= λ (most : ℕ). value_under most rest >>= set_of signal)
    ≡ (ok_or row (BadField (length bytes)) >>= λ (row : SignalRow). value_at row.width rest >>= set_of signal)
rest_of signal None bytes rest fits = refl
rest_of signal (Some row) bytes rest fits = ap (λ (r : Result (Option ℕ × List ℕ) Fault). r >>= set_of signal) (value_same row.width rest fits)

set_same : (signals : List SignalRow) (bytes : List ℕ) → IsBytes bytes → set_under (limits_of signals) bytes ≡ set_at signals bytes
unfolding set_under set_at
set_same signals bytes fits = bind_same (number_at w16 bytes) _ _ (λ signal e.
    let found = (number_field wide16).takes bytes signal fits e in
    rw (slice_get-map (λ (row : SignalRow). greatest row.width) signals signal.0) (rest_of signal.0 (slice_get signals signal.0) bytes signal.1 found.takes.rest_fits))

pub event_same : (signals : List SignalRow) (instances : List InstRow) (bytes : List ℕ) → IsBytes bytes → event_under (limits_of signals) instances bytes ≡ event_at signals instances bytes
unfolding event_under event_at
event_same signals instances bytes fits = bind_same (number_within w8 1 2 bytes) _ _ (λ tag e.
    let found = (within_field wide8 1 2 (omega arith)).takes bytes tag fits e in
    ap (λ (r : Result (Event × List ℕ) Fault). cond (eqb tag.0 1) r (sample_at instances tag.1)) (set_same signals tag.1 found.takes.rest_fits))

-- ---- the bytes behind an event are bytes

within_rest : {w : Width} {spelled : ℕ → List ℕ} {limit : ℕ} → IsWide w spelled limit → (least most : ℕ) (bytes : List ℕ) (x : ℕ × List ℕ) → IsBytes bytes → number_within w least most bytes ≡ Ok x → IsBytes x.1
unfolding number_within
within_rest {w = w} wide least most bytes x fits e =
    let b = bind_ok (number_at w bytes) _ x e in
    let g = let_pass (leb least b.0.0 && leb b.0.0 most) (BadField (length bytes)) (Ok b.0) x b.2 in
    subst (λ (y : ℕ × List ℕ). IsBytes y.1) (ok_is b.0 x g.1) ((number_field wide).takes bytes b.0 fits b.1).takes.rest_fits

known_rest : (most : ℕ) (bytes : List ℕ) (x : Option ℕ × List ℕ) → IsBytes bytes → known_under most bytes ≡ Ok x → IsBytes x.1
unfolding known_under
known_rest most bytes x fits e =
    let a = bind_ok (number_within w64 0 most bytes) _ x e in
    subst (λ (y : Option ℕ × List ℕ). IsBytes y.1) {x = (Some a.0.0, a.0.1)} (ok_is (Some a.0.0, a.0.1) x a.2) (within_rest wide64 0 most bytes a.0 fits a.1)

pub value_rest : (most : ℕ) (bytes : List ℕ) (x : Option ℕ × List ℕ) → IsBytes bytes → value_under most bytes ≡ Ok x → IsBytes x.1
unfolding value_under
value_rest most bytes x fits e =
    let a = bind_ok (number_within w8 0 1 bytes) _ x e in
    let left = within_rest wide8 0 1 bytes a.0 fits a.1 in
    elim (chosen (eqb a.0.0 0) (Ok (None, a.0.1)) (known_under most a.0.1) (Ok x) a.2) [
      | inl h ↦ subst (λ (y : Option ℕ × List ℕ). IsBytes y.1) {x = (None, a.0.1)} (ok_is (None, a.0.1) x h.1) left
      | inr h ↦ known_rest most a.0.1 x left h.1
    ]

set_rest : (limits : List ℕ) (bytes : List ℕ) (x : Event × List ℕ) → IsBytes bytes → set_under limits bytes ≡ Ok x → IsBytes x.1
unfolding set_under
set_rest limits bytes x fits e =
    let a = bind_ok (number_at w16 bytes) _ x e in
    let b = bind_ok (ok_or (slice_get limits a.0.0) (BadField (length bytes))) _ x a.2 in
    let v = bind_ok (value_under b.0 a.0.1) (set_of a.0.0) x b.2 in
    let left = value_rest b.0 a.0.1 v.0 ((number_field wide16).takes bytes a.0 fits a.1).takes.rest_fits v.1 in
    subst (λ (y : Event × List ℕ). IsBytes y.1) {x = (Set a.0.0 v.0.0, v.0.1)} (ok_is (Set a.0.0 v.0.0, v.0.1) x v.2) left

values_rest : (rows : List ArgRow) (bytes : List ℕ) (x : List (Option ℕ) × List ℕ) → IsBytes bytes → values_at rows bytes ≡ Ok x → IsBytes x.1
unfolding values_at
values_rest [] bytes x fits e = subst (λ (y : List (Option ℕ) × List ℕ). IsBytes y.1) {x = ([], bytes)} (ok_is ([], bytes) x e) fits
values_rest (row ∷ rows) bytes x fits e =
    let a = bind_ok (value_at row.width bytes) _ x e in
    let b = bind_ok (values_at rows a.0.1) _ x a.2 in
    let left = values_rest rows a.0.1 b.0 (value_rest (greatest row.width) bytes a.0 fits (value_same row.width bytes fits ∙ a.1)) b.1 in
    subst (λ (y : List (Option ℕ) × List ℕ). IsBytes y.1) {x = (a.0.0 ∷ b.0.0, b.0.1)} (ok_is (a.0.0 ∷ b.0.0, b.0.1) x b.2) left

sample_rest : (instances : List InstRow) (bytes : List ℕ) (x : Event × List ℕ) → IsBytes bytes → sample_at instances bytes ≡ Ok x → IsBytes x.1
unfolding sample_at
sample_rest instances bytes x fits e =
    let a = bind_ok (number_at w16 bytes) _ x e in
    let b = bind_ok (ok_or (slice_get instances a.0.0) (BadField (length bytes))) _ x a.2 in
    let c = bind_ok (values_at b.0.args a.0.1) _ x b.2 in
    let left = values_rest b.0.args a.0.1 c.0 ((number_field wide16).takes bytes a.0 fits a.1).takes.rest_fits c.1 in
    subst (λ (y : Event × List ℕ). IsBytes y.1) {x = (Sample a.0.0 c.0.0, c.0.1)} (ok_is (Sample a.0.0 c.0.0, c.0.1) x c.2) left

pub event_rest : (limits : List ℕ) (instances : List InstRow) (bytes : List ℕ) (x : Event × List ℕ) → IsBytes bytes → event_under limits instances bytes ≡ Ok x → IsBytes x.1
unfolding event_under
event_rest limits instances bytes x fits e =
    let a = bind_ok (number_within w8 1 2 bytes) _ x e in
    let left = within_rest wide8 1 2 bytes a.0 fits a.1 in
    elim (chosen (eqb a.0.0 1) (set_under limits a.0.1) (sample_at instances a.0.1) (Ok x) a.2) [
      | inl h ↦ set_rest limits a.0.1 x left h.1
      | inr h ↦ sample_rest instances a.0.1 x left h.1
    ]

-- ---- so many events

pub events_same : (signals : List SignalRow) (instances : List InstRow) (count : ℕ) (bytes : List ℕ) → IsBytes bytes → counted (event_under (limits_of signals) instances) count bytes ≡ counted (event_at signals instances) count bytes
unfolding counted
events_same signals instances zero bytes fits = refl
events_same signals instances (suc n) bytes fits =
    ap (λ (r : Result (Event × List ℕ) Fault). r >>= λ (first : Event × List ℕ). counted (event_under (limits_of signals) instances) n first.1 >>= λ (others : List Event × List ℕ). Ok (first.0 ∷ others.0, others.1)) (event_same signals instances bytes fits)
    ∙ bind_same (event_at signals instances bytes) _ _ (λ first e.
    let left = event_rest (limits_of signals) instances bytes first fits (event_same signals instances bytes fits ∙ e) in
    ap (λ (r : Result (List Event × List ℕ) Fault). r >>= λ (others : List Event × List ℕ). Ok (first.0 ∷ others.0, others.1)) (events_same signals instances n first.1 left))

-- ---- instances without arguments

split_and : (a b : Bool) → (a && b) ≡ true → (a ≡ true) × (b ≡ true)
split_and true b e = (refl, e)
split_and false b e = absurd cc

pub all_empty : (instances : List InstRow) → are_without_args instances ≡ true → HaveNoArgs instances
all_empty [] e = tt
all_empty (row ∷ rows) e =
    let h = split_and (eqb (length row.args) 0) (are_without_args rows) e in
    (nil_from_length row.args (eqb-true _ _ h.0), all_empty rows h.1)

-- what stands at a place of the rows, none of which has arguments
at_place : (instances : List InstRow) (n : ℕ) → HaveNoArgs instances → ((slice_get instances n ≡ None) × (length instances ≤ n)) ⊎ ((row : InstRow) × (slice_get instances n ≡ Some row) × (row.args ≡ []) × (n < length instances))
at_place [] n none = inl (refl, omega arith)
at_place (row ∷ rows) zero none = inr (row, refl, none.0, omega arith)
at_place (row ∷ rows) (suc n) none = elim (at_place rows n none.1) [
  | inl h ↦ inl (h.0, omega (arith, h.1))
  | inr h ↦ inr (h.0, h.1, h.2, omega (arith, h.3))
]

abbrev sample_of : ℕ → List (Option ℕ) × List ℕ → Result (Event × List ℕ) Fault
sample_of instance args = Ok (Sample instance args.0, args.1)

plain_behind : (instances : List InstRow) → HaveNoArgs instances → (d : Fault) (n : ℕ × List ℕ)
    → cond (ltb n.0 (length instances)) (Ok (Sample n.0 [], n.1)) (Err d) ≡ (ok_or (slice_get instances n.0) d >>= λ (row : InstRow). values_at row.args n.1 >>= sample_of n.0)
unfolding values_at
plain_behind instances none d n =
    elim (at_place instances n.0 none) [
      | inl h ↦ rw (h.0, le-ltb n.0 (length instances) h.1) refl
      | inr h ↦ rw (h.1, h.2, lt-ltb n.0 (length instances) h.3) refl
    ]

plain_by : (instances : List InstRow) → HaveNoArgs instances → (d : Fault) (r : Result (ℕ × List ℕ) Fault)
    → (r >>= λ (n : ℕ × List ℕ). cond (ltb n.0 (length instances)) (Ok (Sample n.0 [], n.1)) (Err d))
    ≡ (r >>= λ (n : ℕ × List ℕ). ok_or (slice_get instances n.0) d >>= λ (row : InstRow). values_at row.args n.1 >>= sample_of n.0)
plain_by instances none d (Ok n) = plain_behind instances none d n
plain_by instances none d (Err f) = refl

plain_sample_same : (instances : List InstRow) → HaveNoArgs instances → (bytes : List ℕ) → plain_sample_at (length instances) bytes ≡ sample_at instances bytes
unfolding plain_sample_at sample_at
plain_sample_same instances none bytes = plain_by instances none (BadField (length bytes)) (number_at w16 bytes)

plain_event_same : (limits : List ℕ) (instances : List InstRow) → HaveNoArgs instances → (bytes : List ℕ) → plain_event_under limits (length instances) bytes ≡ event_under limits instances bytes
unfolding plain_event_under event_under
plain_event_same limits instances none bytes = bind_same (number_within w8 1 2 bytes) _ _ (λ tag e.
    ap (λ (r : Result (Event × List ℕ) Fault). cond (eqb tag.0 1) (set_under limits tag.1) r) (plain_sample_same instances none tag.1))

pub plain_events_same : (signals : List SignalRow) (instances : List InstRow) (count : ℕ) (bytes : List ℕ) → HaveNoArgs instances → IsBytes bytes
    → counted (plain_event_under (limits_of signals) (length instances)) count bytes ≡ counted (event_at signals instances) count bytes
plain_events_same signals instances count bytes none fits =
    ap (λ (read : List ℕ → Result (Event × List ℕ) Fault). counted read count bytes) (λ i b. plain_event_same (limits_of signals) instances none b i)
    ∙ events_same signals instances count bytes fits
