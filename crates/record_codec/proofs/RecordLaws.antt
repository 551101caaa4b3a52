-- The whole record: what is read is spelled so and within its limits, and what is spelled so is read.
use Rattle.std.proofs.Common.{true, ◌≡◌, ℕ, ◌^◌, ◌<◌, ◌≤◌, eqb, leb, List, [], ◌++◌, length, Result, Ok, refl, sym, ap, subst, ◌∙◌, append_assoc, arith}
use Rattle.std.specs.Int.{w8, w16, w32, w64, to_be_bytes}
use Rattle.std.specs.List.{AllByRecursion}
use mathlib.Core.Bool.{◌&&◌}
use Rattle.std.proofs.lemmas.Bool.{eqb-true, leb-true, le-leb}
use Rattle.std.proofs.lemmas.List.{append-nil, nil_from_length}
use mathlib.Core.HLevel.{is_prop→PathP}
use Rattle.record_codec.specs.declared.fault.Fault.{Fault}
use Rattle.record_codec.specs.declared.fault.Fault.TheVariants.{BadMagic, BadVersion, Trailing}
use Rattle.record_codec.specs.declared.fault.RecordFault.{RecordFault}
use Rattle.record_codec.specs.declared.record.Record.{Record}
use Rattle.record_codec.specs.declared.record.Fields.{Fields}
use Rattle.record_codec.specs.declared.record.TestRow.{TestRow}
use Rattle.record_codec.specs.declared.record.SignalRow.{SignalRow}
use Rattle.record_codec.specs.declared.record.InstRow.{InstRow}
use Rattle.record_codec.specs.declared.record.Event.{Event}
use Rattle.record_codec.specs.Limits.{IsText, IsSignalRow, IsInstRow, IsEvent, IsStart, IsWithinLimits, IsWithinLimits-prop}
use Rattle.record_codec.specs.Bytes.{text, head, signal_table, instance_table, event_list, bytes_of}
use Rattle.record_codec.specs.Spelling.{spelling, fields_of, Encodes}
use Rattle.record_codec.specs.Reading.{number_at, number_within, text_at, version_at, head_at, test_at, signals_at, instances_at, events_at, record_at, whole, from_front, reading, HasFault}
use Rattle.record_codec.proofs.Readers.{IsBytes, bind_ok, let_pass, ok_is, Takes, Takes-then, Read, last}
use Rattle.record_codec.proofs.Numbers.{IsWithin, both, one_byte, wide8, wide16, wide32, wide64, number_field, within_field}
use Rattle.record_codec.proofs.Texts.{text_field}
use Rattle.record_codec.proofs.TableLaws.{AreRows, signals_field, instances_field}
use Rattle.record_codec.proofs.EventLaws.{events_field}

-- ---- the letters and the version

version_takes : (bytes : List ℕ) (x : ℕ × List ℕ) → IsBytes bytes → version_at bytes ≡ Ok x → Read (to_be_bytes w16) (IsWithin 1 2) bytes x
unfolding version_at
version_takes bytes x fits e =
    let a = bind_ok (number_at w16 bytes) _ x e in
    let g = let_pass (leb 1 a.0.0 && leb a.0.0 2) (BadVersion a.0.0) (Ok a.0) x a.2 in
    let t = both _ _ g.0 in
    let found = (number_field wide16).takes bytes a.0 fits a.1 in
    subst (λ (y : ℕ × List ℕ). Read (to_be_bytes w16) (IsWithin 1 2) bytes y) (ok_is a.0 x g.1) (record { takes = found.takes; fits = record { low = leb-true _ _ t.0; high = leb-true _ _ t.1 } })

head_takes : (bytes : List ℕ) (x : ℕ × List ℕ) → IsBytes bytes → head_at bytes ≡ Ok x → Read head (IsWithin 1 2) bytes x
unfolding head_at
head_takes bytes x fits e =
    let a = bind_ok (number_at w32 bytes) _ x e in
    let g = let_pass (eqb a.0.0 0x43565243) BadMagic (version_at a.0.1) x a.2 in
    let same : a.0.0 ≡ 0x43565243 = eqb-true _ _ g.0 in
    let found = (number_field wide32).takes bytes a.0 fits a.1 in
    let letters = subst (λ (n : ℕ). Takes bytes (to_be_bytes w32 n) a.0.1) same found.takes in
    let version = version_takes a.0.1 x found.takes.rest_fits g.1 in
    record { takes = Takes-then letters version.takes; fits = version.fits }

version_again : (version : ℕ) (rest : List ℕ) → IsWithin 1 2 version → version_at (to_be_bytes w16 version ++ rest) ≡ Ok (version, rest)
unfolding version_at
version_again version rest within =
    let low : leb 1 version ≡ true = le-leb _ _ within.low in
    let high : leb version 2 ≡ true = le-leb _ _ within.high in
    last (number_field wide16) version rest _ (omega (arith, within.high)) ∙ rw (low, high) refl

head_again : (version : ℕ) (rest : List ℕ) → IsWithin 1 2 version → head_at (head version ++ rest) ≡ Ok (version, rest)
unfolding head_at
head_again version rest within = last (number_field wide32) 0x43565243 (to_be_bytes w16 version ++ rest) _ (omega arith) ∙ version_again version rest within

-- ---- the test

abbrev test_row : TestRow → List ℕ
test_row t = text t.id ++ (one_byte t.status ++ (to_be_bytes w64 t.seed ++ (to_be_bytes w64 t.time ++ text t.user)))

-- the same, with what follows
abbrev test_and : TestRow → List ℕ → List ℕ
test_and t rest = text t.id ++ (one_byte t.status ++ (to_be_bytes w64 t.seed ++ (to_be_bytes w64 t.time ++ (text t.user ++ rest))))

flat : (a b c d e rest : List ℕ) → (a ++ (b ++ (c ++ (d ++ e)))) ++ rest ≡ a ++ (b ++ (c ++ (d ++ (e ++ rest))))
flat a b c d e rest = simp append_assoc

pub record IsTestRow (t : TestRow) : Type 0 where
  pub id : IsText 1 255 33 t.id
  pub status : t.status < 4
  pub seed : t.seed < 2 ^ 64
  pub time : t.time < 2 ^ 64
  pub user : IsText 0 255 32 t.user

test_made : (bytes id user a b c d e : List ℕ) (status seed time : ℕ)
    → Read text (IsText 1 255 33) bytes (id, a) → Read one_byte (IsWithin 0 3) a (status, b)
    → Read (to_be_bytes w64) (λ n. n < 2 ^ 64) b (seed, c) → Read (to_be_bytes w64) (λ n. n < 2 ^ 64) c (time, d) → Read text (IsText 0 255 32) d (user, e)
    → Read test_row IsTestRow bytes (record { id = id; status = status; seed = seed; time = time; user = user }, e)
test_made bytes id user a b c d e status seed time i s n t u = record {
  takes = Takes-then i.takes (Takes-then s.takes (Takes-then n.takes (Takes-then t.takes u.takes)));
  fits = record { id = i.fits; status = omega (arith, s.fits.high); seed = n.fits; time = t.fits; user = u.fits };
}

test_takes : (bytes : List ℕ) (x : TestRow × List ℕ) → IsBytes bytes → test_at bytes ≡ Ok x → Read test_row IsTestRow bytes x
unfolding test_at
test_takes bytes x fits e =
    let a = bind_ok (text_at 1 255 33 bytes) _ x e in
    let b = bind_ok (number_within w8 0 3 a.0.1) _ x a.2 in
    let c = bind_ok (number_at w64 b.0.1) _ x b.2 in
    let d = bind_ok (number_at w64 c.0.1) _ x c.2 in
    let f = bind_ok (text_at 0 255 32 d.0.1) _ x d.2 in
    let id = (text_field 1 255 33 (omega arith)).takes bytes a.0 fits a.1 in
    let status = (within_field wide8 0 3 (omega arith)).takes a.0.1 b.0 id.takes.rest_fits b.1 in
    let seed = (number_field wide64).takes b.0.1 c.0 status.takes.rest_fits c.1 in
    let time = (number_field wide64).takes c.0.1 d.0 seed.takes.rest_fits d.1 in
    let user = (text_field 0 255 32 (omega arith)).takes d.0.1 f.0 time.takes.rest_fits f.1 in
    let t : TestRow = record { id = a.0.0; status = b.0.0; seed = c.0.0; time = d.0.0; user = f.0.0 } in
    subst (λ (y : TestRow × List ℕ). Read test_row IsTestRow bytes y) {x = (t, f.0.1)} (ok_is (t, f.0.1) x f.2)
    (test_made bytes a.0.0 f.0.0 a.0.1 b.0.1 c.0.1 d.0.1 f.0.1 b.0.0 c.0.0 d.0.0 id status seed time user)

test_again : (t : TestRow) (rest : List ℕ) → IsTestRow t → test_at (test_and t rest) ≡ Ok (t, rest)
unfolding test_at
test_again t rest fits =
    last (text_field 1 255 33 (omega arith)) t.id (one_byte t.status ++ (to_be_bytes w64 t.seed ++ (to_be_bytes w64 t.time ++ (text t.user ++ rest)))) _ fits.id
    ∙ last (within_field wide8 0 3 (omega arith)) t.status (to_be_bytes w64 t.seed ++ (to_be_bytes w64 t.time ++ (text t.user ++ rest))) _ (record { low = omega arith; high = omega (arith, fits.status) })
    ∙ last (number_field wide64) t.seed (to_be_bytes w64 t.time ++ (text t.user ++ rest)) _ fits.seed
    ∙ last (number_field wide64) t.time (text t.user ++ rest) _ fits.time
    ∙ last (text_field 0 255 32 (omega arith)) t.user rest _ fits.user

-- ---- the record

abbrev test_of : Fields → TestRow
test_of r = record { id = r.id; status = r.status; seed = r.seed; time = r.time; user = r.user }

-- the spelling of the fields, with what follows
abbrev pub record_and : Fields → List ℕ → List ℕ
record_and r rest = head r.version ++ test_and (test_of r) (signal_table r.signals ++ (instance_table r.version r.instances ++ (event_list r.events ++ rest)))

nine : (a b c d e f g h i more : List ℕ) → (a ++ (b ++ (c ++ (d ++ (e ++ (f ++ (g ++ (h ++ i)))))))) ++ more ≡ a ++ (b ++ (c ++ (d ++ (e ++ (f ++ (g ++ (h ++ (i ++ more))))))))
nine a b c d e f g h i more = simp append_assoc

pub followed : (r : Fields) (more : List ℕ) → bytes_of r ++ more ≡ record_and r more
unfolding bytes_of
followed r more = nine (head r.version) (text r.id) (one_byte r.status) (to_be_bytes w64 r.seed) (to_be_bytes w64 r.time) (text r.user) (signal_table r.signals) (instance_table r.version r.instances) (event_list r.events) more

pub alone : (r : Fields) → record_and r [] ≡ bytes_of r
alone r = sym (followed r []) ∙ append-nil (bytes_of r)

-- within its limits, however many its bytes are
pub record IsOfAnyLength (r : Fields) : Type 0 where
  pub start : IsStart r
  pub event_count : length r.events ≤ 1048576
  pub events : AllByRecursion (IsEvent r.signals r.instances) r.events

pub of_any_length : (r : Fields) → IsWithinLimits r → IsOfAnyLength r
of_any_length r within = record { start = within.start; event_count = within.event_count; events = within.events }

pub record Found (bytes : List ℕ) (x : Fields × List ℕ) : Type 0 where
  pub parts : bytes ≡ record_and x.0 x.1
  pub within : IsOfAnyLength x.0

record_made : (bytes a b c d e : List ℕ) (version : ℕ) (t : TestRow) (signals : List SignalRow) (instances : List InstRow) (events : List Event)
    → Read head (IsWithin 1 2) bytes (version, a) → Read test_row IsTestRow a (t, b) → Read signal_table (AreRows IsSignalRow 4096) b (signals, c)
    → Read (instance_table version) (AreRows (IsInstRow version) 1024) c (instances, d) → Read event_list (AreRows (IsEvent signals instances) 1048576) d (events, e)
    → Found bytes (record { version = version; id = t.id; status = t.status; seed = t.seed; time = t.time; user = t.user; signals = signals; instances = instances; events = events }, e)
record_made bytes a b c d e version t signals instances events letters test s i v =
    let tables : b ≡ signal_table signals ++ (instance_table version instances ++ (event_list events ++ e)) =
    s.takes.parts ∙ ap (λ (l : List ℕ). signal_table signals ++ l) (i.takes.parts ∙ ap (λ (l : List ℕ). instance_table version instances ++ l) v.takes.parts) in
    let behind : a ≡ test_and t b = test.takes.parts ∙ flat (text t.id) (one_byte t.status) (to_be_bytes w64 t.seed) (to_be_bytes w64 t.time) (text t.user) b in
    record {
      parts = letters.takes.parts ∙ ap (λ (l : List ℕ). head version ++ l) (behind ∙ ap (test_and t) tables);
      within = record {
        start = record {
          some = letters.fits.low;
          version = omega (arith, letters.fits.high);
          id = test.fits.id;
          status = test.fits.status;
          seed = test.fits.seed;
          time = test.fits.time;
          user = test.fits.user;
          signal_count = s.fits.count;
          signals = s.fits.all;
          instance_count = i.fits.count;
          instances = i.fits.all;
        };
        event_count = v.fits.count;
        events = v.fits.all;
      };
    }

record_takes : (bytes : List ℕ) (x : Fields × List ℕ) → IsBytes bytes → record_at bytes ≡ Ok x → Found bytes x
unfolding record_at
record_takes bytes x fits e =
    let a = bind_ok (head_at bytes) _ x e in
    let b = bind_ok (test_at a.0.1) _ x a.2 in
    let c = bind_ok (signals_at b.0.1) _ x b.2 in
    let d = bind_ok (instances_at a.0.0 c.0.1) _ x c.2 in
    let f = bind_ok (events_at c.0.0 d.0.0 d.0.1) _ x d.2 in
    let letters = head_takes bytes a.0 fits a.1 in
    let test = test_takes a.0.1 b.0 letters.takes.rest_fits b.1 in
    let signals = signals_field.takes b.0.1 c.0 test.takes.rest_fits c.1 in
    let instances = (instances_field a.0.0).takes c.0.1 d.0 signals.takes.rest_fits d.1 in
    let events = (events_field c.0.0 a.0.0 d.0.0 signals.fits instances.fits).takes d.0.1 f.0 instances.takes.rest_fits f.1 in
    let r : Fields = record { version = a.0.0; id = b.0.0.id; status = b.0.0.status; seed = b.0.0.seed; time = b.0.0.time; user = b.0.0.user; signals = c.0.0; instances = d.0.0; events = f.0.0 } in
    subst (λ (y : Fields × List ℕ). Found bytes y) {x = (r, f.0.1)} (ok_is (r, f.0.1) x f.2)
    (record_made bytes a.0.1 b.0.1 c.0.1 d.0.1 f.0.1 a.0.0 b.0.0 c.0.0 d.0.0 f.0.0 letters test signals instances events)

record_again : (r : Fields) (rest : List ℕ) → IsOfAnyLength r → record_at (record_and r rest) ≡ Ok (r, rest)
unfolding record_at
record_again r rest within =
    let start = within.start in
    let signals : AreRows IsSignalRow 4096 r.signals = record { count = start.signal_count; all = start.signals } in
    let instances : AreRows (IsInstRow r.version) 1024 r.instances = record { count = start.instance_count; all = start.instances } in
    let events : AreRows (IsEvent r.signals r.instances) 1048576 r.events = record { count = within.event_count; all = within.events } in
    let from_instances : List ℕ = instance_table r.version r.instances ++ (event_list r.events ++ rest) in
    let from_signals : List ℕ = signal_table r.signals ++ from_instances in
    let test : IsTestRow (test_of r) = record { id = start.id; status = start.status; seed = start.seed; time = start.time; user = start.user } in
    rw (head_again r.version (test_and (test_of r) from_signals) (record { low = start.some; high = omega (arith, start.version) }), test_again (test_of r) from_signals test)
    (last signals_field r.signals from_instances _ signals
    ∙ last (instances_field r.version) r.instances (event_list r.events ++ rest) _ instances
    ∙ last (events_field r.signals r.version r.instances signals instances) r.events rest _ events)

-- ---- all of the bytes

pub record HasFields (bytes : List ℕ) (r : Fields) : Type 0 where
  pub parts : bytes ≡ bytes_of r
  pub within : IsOfAnyLength r

pub whole_takes : (bytes : List ℕ) (r : Fields) → IsBytes bytes → whole bytes ≡ Ok r → HasFields bytes r
unfolding whole
whole_takes bytes r fits e =
    let a = bind_ok (record_at bytes) _ r e in
    let g = let_pass (eqb (length a.0.1) 0) (Trailing (length a.0.1)) (Ok a.0.0) r a.2 in
    let nothing : a.0.1 ≡ [] = nil_from_length a.0.1 (eqb-true _ _ g.0) in
    let found = record_takes bytes a.0 fits a.1 in
    subst (λ (x : Fields). HasFields bytes x) {x = a.0.0} (ok_is a.0.0 r g.1) (record { parts = found.parts ∙ ap (record_and a.0.0) nothing ∙ alone a.0.0; within = found.within })

pub is_within : (bytes : List ℕ) (r : Fields) → HasFields bytes r → length bytes ≤ 8388608 → IsWithinLimits r
is_within bytes r has le = record { start = has.within.start; event_count = has.within.event_count; events = has.within.events; short = omega (arith, ap length has.parts) }

-- the fields and what follows
pub front_again : (r : Fields) (more : List ℕ) → IsOfAnyLength r → record_at (bytes_of r ++ more) ≡ Ok (r, more)
front_again r more within = ap record_at (followed r more) ∙ record_again r more within

pub whole_again : (r : Record) → whole (spelling r) ≡ Ok (fields_of r)
unfolding whole
whole_again r = rw (← alone (fields_of r), record_again (fields_of r) [] (of_any_length (fields_of r) r.within)) refl

-- two records of the same fields are equal
pub same_record : (r q : Record) → fields_of r ≡ fields_of q → r ≡ q
same_record r q e = λ i. record {
  version = (e i).version;
  id = (e i).id;
  status = (e i).status;
  seed = (e i).seed;
  time = (e i).time;
  user = (e i).user;
  signals = (e i).signals;
  instances = (e i).instances;
  events = (e i).events;
  within = is_prop→PathP (λ j. IsWithinLimits (e j)) (λ j. IsWithinLimits-prop (e j)) r.within q.within i;
}

pub read_again : (r : Record) → reading (spelling r) ≡ Ok (fields_of r)
unfolding reading
read_again r = ap (from_front (length (spelling r))) (whole_again r)

ok_fields : (x y : Fields) → ◌≡◌ {A = Result Fields RecordFault} (Ok x) (Ok y) → x ≡ y
ok_fields x y e = cc

-- bytes spell one record at most
pub one_record : (bytes : List ℕ) (r q : Record) → Encodes r bytes → Encodes q bytes → r ≡ q
one_record bytes r q h k = same_record r q (ok_fields _ _ (sym (read_again r) ∙ ap reading (sym h.spelled ∙ k.spelled) ∙ read_again q))

-- and none where there is a fault
pub no_fault : (bytes : List ℕ) (r : Record) (fault : RecordFault) → Encodes r bytes → HasFault bytes fault → ⊥
no_fault bytes r fault h e = let f : reading bytes ≡ Ok (fields_of r) = ap reading h.spelled ∙ read_again r in cc

pub one_fault : (bytes : List ℕ) (fault other : RecordFault) → HasFault bytes fault → HasFault bytes other → fault ≡ other
one_fault bytes fault other e f = cc

-- ---- fronts

ok_pair : (x y : Fields × List ℕ) → ◌≡◌ {A = Result (Fields × List ℕ) Fault} (Ok x) (Ok y) → x ≡ y
ok_pair x y e = cc

-- no record's bytes are the front of another's
pub no_front : (r q : Record) (more : List ℕ) → spelling r ++ more ≡ spelling q → (r ≡ q) × (more ≡ [])
no_front r q more e =
    let one : record_at (spelling r ++ more) ≡ Ok (fields_of r, more) = front_again (fields_of r) more (of_any_length (fields_of r) r.within) in
    let other : record_at (spelling q ++ []) ≡ Ok (fields_of q, []) = front_again (fields_of q) [] (of_any_length (fields_of q) q.within) in
    let same = ok_pair (fields_of r, more) (fields_of q, []) (sym one ∙ ap record_at (e ∙ sym (append-nil (spelling q))) ∙ other) in
    (same_record r q (ap (λ (x : Fields × List ℕ). x.0) same), ap (λ (x : Fields × List ℕ). x.1) same)
