-- Events, over the rows whose numbers they name.
use Rattle.std.proofs.Common.{◌≡◌, ℕ, zero, suc, ◌-◌, ◌^◌, ◌<◌, ◌≤◌, Bool, true, false, cond, eqb, ltb, List, [], ◌∷◌, ◌++◌, length, Option, Some, None, Ok, refl, sym, ap, subst, ◌∙◌, append_assoc, arith, inl, inr, ◌⊎◌}
use Rattle.std.specs.Prelude.{slice_get, ok_or, IsSomeAnd}
use Rattle.std.specs.List.{flat_map, AllByRecursion}
use Rattle.std.proofs.lemmas.List.Concat.{flat_map-cons}
use Rattle.std.specs.Int.{w8, w16, w32, w64, to_be_bytes}
use Rattle.std.proofs.Math.Nat.{pow-le-pow_right}
use Rattle.std.proofs.lemmas.Bool.{eqb-true, ltb-false, le-ltb}
use Rattle.std.proofs.lemmas.Option.{slice_get_within}
use Rattle.record_codec.specs.declared.fault.Fault.{Fault}
use Rattle.record_codec.specs.declared.fault.Fault.TheVariants.{BadField, TooManyEvents}
use Rattle.record_codec.specs.declared.record.SignalRow.{SignalRow}
use Rattle.record_codec.specs.declared.record.ArgRow.{ArgRow}
use Rattle.record_codec.specs.declared.record.InstRow.{InstRow}
use Rattle.record_codec.specs.declared.record.Event.{Event}
use Rattle.record_codec.specs.declared.record.Event.TheVariants.{Set, Sample}
use Rattle.record_codec.specs.Limits.{IsArgRow, IsSignalRow, IsInstRow, IsBits, AreArgs, IsEvent}
use Rattle.record_codec.specs.Bytes.{set_value, event, event_list}
use Rattle.record_codec.specs.Reading.{number_at, number_within, counted, known_at, value_at, values_at, set_at, sample_at, event_at, events_at}
use Rattle.record_codec.proofs.Readers.{IsBytes, bind_ok, not_refused, ok_is, Takes, Takes-then, Read, IsField, step, last}
use Rattle.record_codec.proofs.Numbers.{one_byte, wide8, wide16, wide32, wide64, number_field, within_field}
use Rattle.record_codec.proofs.Counts.{counted_takes, counted_again}
use Rattle.record_codec.proofs.TableLaws.{AreRows}

-- which way a test went
pub chosen : {A : Type 0} (b : Bool) (x y z : A) → cond b x y ≡ z → ((b ≡ true) × (x ≡ z)) ⊎ ((b ≡ false) × (y ≡ z))
chosen true x y z e = inl (refl, e)
chosen false x y z e = inr (refl, e)

-- ---- values

powers : (width : ℕ) → width ≤ 64 → 2 ^ width - 1 < 2 ^ 64
powers width le = let power : 2 ^ width ≤ 2 ^ 64 = pow-le-pow_right (omega arith) le in omega (arith, power)

pub below_power : (width n : ℕ) → n ≤ 2 ^ width - 1 → n < 2 ^ width
below_power width n le =
    let base : 1 ≤ 2 = omega arith in
    let low : 0 ≤ width = omega arith in
    let some : 2 ^ 0 ≤ 2 ^ width = pow-le-pow_right base low in
    omega (arith, some, le)

known_takes : (width : ℕ) → width ≤ 64 → (bytes : List ℕ) (x : Option ℕ × List ℕ) → IsBytes bytes → known_at width bytes ≡ Ok x → Takes (1 ∷ bytes) (set_value x.0) x.1 × IsBits width x.0
unfolding known_at
known_takes width le bytes x fits e =
    let a = bind_ok (number_within w64 0 (2 ^ width - 1) bytes) _ x e in
    let bits = (within_field wide64 0 (2 ^ width - 1) (powers width le)).takes bytes a.0 fits a.1 in
    subst (λ (y : Option ℕ × List ℕ). Takes (1 ∷ bytes) (set_value y.0) y.1 × IsBits width y.0) {x = (Some a.0.0, a.0.1)} (ok_is (Some a.0.0, a.0.1) x a.2) (record { parts = ap (λ (l : List ℕ). 1 ∷ l) bits.takes.parts; rest_fits = bits.takes.rest_fits }, below_power width a.0.0 bits.fits.high)

one_is : (n : ℕ) → n ≤ 1 → eqb n 0 ≡ false → n ≡ 1
one_is zero le e = absurd cc
one_is (suc zero) le e = refl
one_is (suc (suc n)) le e = absurd (omega arith)

value_takes : (width : ℕ) → width ≤ 64 → (bytes : List ℕ) (x : Option ℕ × List ℕ) → IsBytes bytes → value_at width bytes ≡ Ok x → Read set_value (IsBits width) bytes x
unfolding value_at
value_takes width le bytes x fits e =
    let a = bind_ok (number_within w8 0 1 bytes) _ x e in
    let known = (within_field wide8 0 1 (omega arith)).takes bytes a.0 fits a.1 in
    elim (chosen (eqb a.0.0 0) (Ok (None, a.0.1)) (known_at width a.0.1) (Ok x) a.2) [
      | inl h ↦
          let same : a.0.0 ≡ 0 = eqb-true _ _ h.0 in
          let here : Takes bytes (0 ∷ []) a.0.1 = subst (λ (n : ℕ). Takes bytes (n ∷ []) a.0.1) same known.takes in
          subst (λ (y : Option ℕ × List ℕ). Read set_value (IsBits width) bytes y) {x = (None, a.0.1)} (ok_is (None, a.0.1) x h.1) (record { takes = here; fits = tt })
      | inr h ↦
          let same : a.0.0 ≡ 1 = one_is a.0.0 known.fits.high h.0 in
          let later = known_takes width le a.0.1 x known.takes.rest_fits h.1 in
          let here : bytes ≡ 1 ∷ a.0.1 = known.takes.parts ∙ ap (λ (n : ℕ). n ∷ a.0.1) same in
          record { takes = record { parts = here ∙ later.0.parts; rest_fits = later.0.rest_fits }; fits = later.1 }
    ]

value_again : (width : ℕ) → width ≤ 64 → (value : Option ℕ) (rest : List ℕ) → IsBits width value → value_at width (set_value value ++ rest) ≡ Ok (value, rest)
unfolding value_at known_at
value_again width le None rest fits = last (within_field wide8 0 1 (omega arith)) 0 rest _ (record { low = omega arith; high = omega arith })
value_again width le (Some bits) rest fits =
    step (within_field wide8 0 1 (omega arith)) 1 (to_be_bytes w64 bits) rest _ (record { low = omega arith; high = omega arith })
    ∙ last (within_field wide64 0 (2 ^ width - 1) (powers width le)) bits rest _ (record { low = omega arith; high = omega (arith, fits) })

pub value_field : (width : ℕ) → width ≤ 64 → IsField (value_at width) set_value (IsBits width)
value_field width le = record { takes = value_takes width le; again = value_again width le }

-- ---- the values of arguments

values_takes : (rows : List ArgRow) → AllByRecursion IsArgRow rows → (bytes : List ℕ) (x : List (Option ℕ) × List ℕ) → IsBytes bytes → values_at rows bytes ≡ Ok x → Read (flat_map set_value) (AreArgs rows) bytes x
unfolding values_at
values_takes [] are bytes x fits e =
    subst (λ (y : List (Option ℕ) × List ℕ). Read (flat_map set_value) (AreArgs []) bytes y) {x = ([], bytes)} (ok_is ([], bytes) x e) (record { takes = record { parts = refl; rest_fits = fits }; fits = tt })
values_takes (row ∷ rows) are bytes x fits e =
    let a = bind_ok (value_at row.width bytes) _ x e in
    let b = bind_ok (values_at rows a.0.1) _ x a.2 in
    let first = value_takes row.width are.0.width bytes a.0 fits a.1 in
    let others = values_takes rows are.1 a.0.1 b.0 first.takes.rest_fits b.1 in
    let both : Takes bytes (set_value a.0.0 ++ flat_map set_value b.0.0) b.0.1 = Takes-then first.takes others.takes in
    let made : List (Option ℕ) × List ℕ = (a.0.0 ∷ b.0.0, b.0.1) in
    subst (λ (y : List (Option ℕ) × List ℕ). Read (flat_map set_value) (AreArgs (row ∷ rows)) bytes y) {x = made} (ok_is made x b.2) (record { takes = rw flat_map-cons both; fits = (first.fits, others.fits) })

values_again : (rows : List ArgRow) → AllByRecursion IsArgRow rows → (args : List (Option ℕ)) (rest : List ℕ) → AreArgs rows args → values_at rows (flat_map set_value args ++ rest) ≡ Ok (args, rest)
unfolding values_at
values_again [] are [] rest fits = refl
values_again [] are (arg ∷ args) rest fits = absurd fits
values_again (row ∷ rows) are [] rest fits = absurd fits
values_again (row ∷ rows) are (arg ∷ args) rest fits =
    let regrouped : flat_map set_value (arg ∷ args) ++ rest ≡ set_value arg ++ (flat_map set_value args ++ rest) = ap (λ (bytes : List ℕ). bytes ++ rest) (flat_map-cons set_value arg args) ∙ append_assoc (set_value arg) (flat_map set_value args) rest in
    ap (values_at (row ∷ rows)) regrouped ∙ rw (value_again row.width are.0.width arg (flat_map set_value args ++ rest) fits.0, values_again rows are.1 args rest fits.1) refl

-- ---- rows by their number

ok_or_ok : {A : Type 0} (o : Option A) (f : Fault) (x : A) → ok_or o f ≡ Ok x → o ≡ Some x
ok_or_ok None f x e = absurd cc
ok_or_ok (Some y) f x e = ap Some (ok_is y x e)

is_some_and : {A : Type 0} (o : Option A) (P : A → Type 0) → IsSomeAnd o P → (x : A) × (o ≡ Some x) × P x
is_some_and None P h = absurd h
is_some_and (Some x) P h = (x, refl, h)

some_is : {A : Type 0} (y x : A) → Some y ≡ Some x → y ≡ x
some_is y x e = cc

some_and : {A : Type 0} (o : Option A) (P : A → Type 0) (x : A) → o ≡ Some x → P x → IsSomeAnd o P
some_and o P x e h = subst (λ (t : Option _). IsSomeAnd t P) (sym e) h

at_number : {A : Type 0} (P : A → Type 0) (xs : List A) (i : ℕ) (x : A) → AllByRecursion P xs → slice_get xs i ≡ Some x → P x
at_number P [] i x all e = absurd cc
at_number P (y ∷ xs) zero x all e = subst P (some_is y x e) all.0
at_number P (y ∷ xs) (suc i) x all e = at_number P xs i x all.1 e

abbrev pub AreSignals : List SignalRow → Type 0
AreSignals signals = AreRows IsSignalRow 4096 signals

width_at : (signals : List SignalRow) (i : ℕ) (row : SignalRow) → AreSignals signals → slice_get signals i ≡ Some row → row.width ≤ 64
width_at signals i row are e = (at_number IsSignalRow signals i row are.all e).width

abbrev pub AreInstances : ℕ → List InstRow → Type 0
AreInstances version instances = AreRows (IsInstRow version) 1024 instances

args_at_number : (version : ℕ) (instances : List InstRow) (i : ℕ) (row : InstRow) → AreInstances version instances → slice_get instances i ≡ Some row → AllByRecursion IsArgRow row.args
args_at_number version instances i row are e = (at_number (IsInstRow version) instances i row are.all e).args

-- ---- one event

-- an event behind its tag
abbrev body : Event → List ℕ
body (Set signal value) = to_be_bytes w16 signal ++ set_value value
body (Sample instance args) = to_be_bytes w16 instance ++ flat_map set_value args

abbrev tag : Event → ℕ
tag (Set signal value) = 1
tag (Sample instance args) = 2

tag_and_body : (e : Event) → tag e ∷ body e ≡ event e
tag_and_body (Set signal value) = refl
tag_and_body (Sample instance args) = refl

pub record IsOf (signals : List SignalRow) (instances : List InstRow) (n : ℕ) (e : Event) : Type 0 where
  pub tagged : tag e ≡ n
  pub fits : IsEvent signals instances e

module _ (signals : List SignalRow) (version : ℕ) (instances : List InstRow) (are : AreSignals signals) (have : AreInstances version instances) where
  set_takes : (bytes : List ℕ) (x : Event × List ℕ) → IsBytes bytes → set_at signals bytes ≡ Ok x → Read body (IsOf signals instances 1) bytes x
  unfolding set_at
  set_takes bytes x fits e =
      let a = bind_ok (number_at w16 bytes) _ x e in
      let b = bind_ok (ok_or (slice_get signals a.0.0) (BadField (length bytes))) _ x a.2 in
      let row = ok_or_ok (slice_get signals a.0.0) _ b.0 b.1 in
      let c = bind_ok (value_at b.0.width a.0.1) _ x b.2 in
      let number = (number_field wide16).takes bytes a.0 fits a.1 in
      let value = value_takes b.0.width (width_at signals a.0.0 b.0 are row) a.0.1 c.0 number.takes.rest_fits c.1 in
      let within : IsEvent signals instances (Set a.0.0 c.0.0) = some_and (slice_get signals a.0.0) (λ (r : SignalRow). IsBits r.width c.0.0) b.0 row value.fits in
      subst (λ (y : Event × List ℕ). Read body (IsOf signals instances 1) bytes y) {x = (Set a.0.0 c.0.0, c.0.1)} (ok_is (Set a.0.0 c.0.0, c.0.1) x c.2) (record { takes = Takes-then number.takes value.takes; fits = record { tagged = refl; fits = within } })

  sample_takes : (bytes : List ℕ) (x : Event × List ℕ) → IsBytes bytes → sample_at instances bytes ≡ Ok x → Read body (IsOf signals instances 2) bytes x
  unfolding sample_at
  sample_takes bytes x fits e =
      let a = bind_ok (number_at w16 bytes) _ x e in
      let b = bind_ok (ok_or (slice_get instances a.0.0) (BadField (length bytes))) _ x a.2 in
      let row = ok_or_ok (slice_get instances a.0.0) _ b.0 b.1 in
      let c = bind_ok (values_at b.0.args a.0.1) _ x b.2 in
      let number = (number_field wide16).takes bytes a.0 fits a.1 in
      let values = values_takes b.0.args (args_at_number version instances a.0.0 b.0 have row) a.0.1 c.0 number.takes.rest_fits c.1 in
      let within : IsEvent signals instances (Sample a.0.0 c.0.0) = some_and (slice_get instances a.0.0) (λ (r : InstRow). AreArgs r.args c.0.0) b.0 row values.fits in
      subst (λ (y : Event × List ℕ). Read body (IsOf signals instances 2) bytes y) {x = (Sample a.0.0 c.0.0, c.0.1)} (ok_is (Sample a.0.0 c.0.0, c.0.1) x c.2) (record { takes = Takes-then number.takes values.takes; fits = record { tagged = refl; fits = within } })

  tagged : (n : ℕ) (bytes rest : List ℕ) (x : Event × List ℕ) → Takes bytes (one_byte n) rest → Read body (IsOf signals instances n) rest x → Read event (IsEvent signals instances) bytes x
  tagged n bytes rest x first second =
      let all : Takes bytes (n ∷ body x.0) x.1 = Takes-then first second.takes in
      let spelled : n ∷ body x.0 ≡ event x.0 = ap (λ (t : ℕ). t ∷ body x.0) (sym second.fits.tagged) ∙ tag_and_body x.0 in
      record { takes = subst (λ (l : List ℕ). Takes bytes l x.1) spelled all; fits = second.fits.fits }

  two_is : (n : ℕ) → 1 ≤ n → n ≤ 2 → eqb n 1 ≡ false → n ≡ 2
  two_is zero low le e = absurd (omega arith)
  two_is (suc zero) low le e = absurd cc
  two_is (suc (suc zero)) low le e = refl
  two_is (suc (suc (suc n))) low le e = absurd (omega arith)

  event_takes : (bytes : List ℕ) (x : Event × List ℕ) → IsBytes bytes → event_at signals instances bytes ≡ Ok x → Read event (IsEvent signals instances) bytes x
  unfolding event_at
  event_takes bytes x fits e =
      let a = bind_ok (number_within w8 1 2 bytes) _ x e in
      let first = (within_field wide8 1 2 (omega arith)).takes bytes a.0 fits a.1 in
      elim (chosen (eqb a.0.0 1) (set_at signals a.0.1) (sample_at instances a.0.1) (Ok x) a.2) [
        | inl h ↦
            let same : a.0.0 ≡ 1 = eqb-true _ _ h.0 in
            tagged 1 bytes a.0.1 x (subst (λ (n : ℕ). Takes bytes (one_byte n) a.0.1) same first.takes) (set_takes a.0.1 x first.takes.rest_fits h.1)
        | inr h ↦
            let same : a.0.0 ≡ 2 = two_is a.0.0 first.fits.low first.fits.high h.0 in
            tagged 2 bytes a.0.1 x (subst (λ (n : ℕ). Takes bytes (one_byte n) a.0.1) same first.takes) (sample_takes a.0.1 x first.takes.rest_fits h.1)
      ]

  event_again : (e : Event) (rest : List ℕ) → IsEvent signals instances e → event_at signals instances (event e ++ rest) ≡ Ok (e, rest)
  unfolding event_at set_at sample_at
  event_again (Set signal value) rest fits =
      let row = is_some_and (slice_get signals signal) (λ (r : SignalRow). IsBits r.width value) fits in
      let below : signal < 2 ^ 16 = omega (arith, slice_get_within signals signal row.0 row.1, are.count) in
      step (within_field wide8 1 2 (omega arith)) 1 (to_be_bytes w16 signal ++ set_value value) rest _ (record { low = omega arith; high = omega arith })
      ∙ step (number_field wide16) signal (set_value value) rest _ below
      ∙ rw (row.1, value_again row.0.width (width_at signals signal row.0 are row.1) value rest row.2) refl
  event_again (Sample instance args) rest fits =
      let row = is_some_and (slice_get instances instance) (λ (r : InstRow). AreArgs r.args args) fits in
      let below : instance < 2 ^ 16 = omega (arith, slice_get_within instances instance row.0 row.1, have.count) in
      step (within_field wide8 1 2 (omega arith)) 2 (to_be_bytes w16 instance ++ flat_map set_value args) rest _ (record { low = omega arith; high = omega arith })
      ∙ step (number_field wide16) instance (flat_map set_value args) rest _ below
      ∙ rw (row.1, values_again row.0.args (args_at_number version instances instance row.0 have row.1) args rest row.2) refl

  event_field : IsField (event_at signals instances) event (IsEvent signals instances)
  event_field = record { takes = event_takes; again = event_again }

  -- ---- all of them

  events_takes : (bytes : List ℕ) (x : List Event × List ℕ) → IsBytes bytes → events_at signals instances bytes ≡ Ok x → Read event_list (AreRows (IsEvent signals instances) 1048576) bytes x
  unfolding events_at
  events_takes bytes x fits e =
      let a = bind_ok (number_at w32 bytes) _ x e in
      let g = not_refused (ltb 1048576 a.0.0) (TooManyEvents a.0.0) (counted (event_at signals instances) a.0.0 a.0.1) x a.2 in
      let few : a.0.0 ≤ 1048576 = ltb-false _ _ g.0 in
      let count = (number_field wide32).takes bytes a.0 fits a.1 in
      let rows = counted_takes event_field a.0.0 a.0.1 x count.takes.rest_fits g.1 in
      let all : Takes bytes (to_be_bytes w32 a.0.0 ++ flat_map event x.0) x.1 = Takes-then count.takes rows.takes in
      record {
        takes = subst (λ (n : ℕ). Takes bytes (to_be_bytes w32 n ++ flat_map event x.0) x.1) (sym rows.many) all;
        fits = record { count = omega (arith, rows.many); all = rows.fits };
      }

  events_again : (events : List Event) (rest : List ℕ) → AreRows (IsEvent signals instances) 1048576 events → events_at signals instances (event_list events ++ rest) ≡ Ok (events, rest)
  unfolding events_at
  events_again events rest fits =
      let few : ltb 1048576 (length events) ≡ false = le-ltb _ _ fits.count in
      step (number_field wide32) (length events) (flat_map event events) rest _ (omega (arith, fits.count))
      ∙ rw few (counted_again event_field events rest fits.all)

  pub events_field : IsField (events_at signals instances) event_list (AreRows (IsEvent signals instances) 1048576)
  events_field = record { takes = events_takes; again = events_again }
