-- No field of a record depends on the bytes behind it.
use Rattle.std.proofs.Common.{◌≡◌, ◌^◌, ℕ, ◌+◌, ◌-◌, ◌<◌, ◌≤◌, Bool, true, false, cond, eqb, ltb, leb, List, [], ◌∷◌, ◌++◌, length, take, drop, Option, Some, None, Result, Ok, Err, refl, sym, ap, subst, ◌∙◌, append_assoc, arith, length-append}
use Rattle.std.specs.Prelude.{slice_get}
use Rattle.std.specs.Int.{w8, w16, w32, w64}
use Rattle.std.specs.List.{position, position_or_len}
use mathlib.Core.Bool.{◌&&◌}
use Rattle.std.proofs.lemmas.Bool.{ltb-false, ltb-true, leb-true, le-ltb}
use Rattle.std.proofs.lemmas.List.{take_at, drop_at, take-append-drop, length-take}
use Rattle.record_codec.specs.declared.fault.Fault.{Fault}
use Rattle.record_codec.specs.declared.fault.Fault.TheVariants.{Short, BadMagic, BadVersion, BadField, TooManyEvents}
use Rattle.record_codec.specs.declared.record.SignalRow.{SignalRow}
use Rattle.record_codec.specs.declared.record.ArgRow.{ArgRow}
use Rattle.record_codec.specs.declared.record.InstRow.{InstRow}
use Rattle.record_codec.specs.declared.record.Event.TheVariants.{Set, Sample}
use Rattle.record_codec.specs.Reading.{◌>>=◌, number_at, number_within, is_bad, unless_bad, text_at, version_at, head_at, test_at, arg_at, signal_at, signals_at, listed_args_at, args_at, instance_at, instances_at, known_at, value_at, values_at, set_at, sample_at, event_at, events_at, record_at}
use Rattle.record_codec.proofs.Readers.{bind_ok, not_refused, let_pass, ok_is}
use Rattle.record_codec.proofs.Numbers.{both}
use Rattle.record_codec.proofs.Texts.{unless_ok}
use Rattle.record_codec.proofs.Local.{IsMended, Took, Refused, IsLocal, first, later, bind_err, then_local, pure_local, fail_local, cond_local, counted_local, number_local, judged_then_local, within_local}

one8 : (least most : ℕ) → IsLocal (number_within w8 least most)
one8 = within_local w8 (omega arith) (omega arith)

one16 : (least most : ℕ) → IsLocal (number_within w16 least most)
one16 = within_local w16 (omega arith) (omega arith)

-- ---- texts

text_same : (least most low : ℕ) (bytes t more : List ℕ) (n : ℕ) → length t ≡ n → number_within w16 least most bytes ≡ Ok (n, t ++ more) → text_at least most low bytes ≡ unless_bad (position (is_bad low) t) n (t ++ more)
unfolding text_at
text_same least most low bytes t more n len e =
    let long : ltb (length (t ++ more)) n ≡ false = le-ltb _ _ (omega (arith, length-append t more, len)) in
    rw (e, long, take_at t more n len) refl

pub good_same : (t more : List ℕ) (n : ℕ) → length t ≡ n → unless_bad None n (t ++ more) ≡ Ok (t, more)
good_same t more n len = rw (take_at t more n len, drop_at t more n len) refl

some_below : (b : Bool) (i bad n : ℕ) → cond b (Some i) None ≡ Some bad → (b ≡ true → i < n) → bad < n
some_below true i bad n e h = let same : i ≡ bad = cc in subst (λ (k : ℕ). k < n) same (h refl)
some_below false i bad n e h = absurd cc

bad_within : (low bad : ℕ) (t : List ℕ) → position (is_bad low) t ≡ Some bad → bad < length t
bad_within low bad t e = some_below (ltb (position_or_len (is_bad low) t) (length t)) (position_or_len (is_bad low) t) bad (length t) e (λ h. ltb-true _ _ h)

bad_is : (o : Option ℕ) (n : ℕ) (rest : List ℕ) (f : Fault) → unless_bad o n rest ≡ Err f → (bad : ℕ) × (o ≡ Some bad) × (f ≡ BadField (length rest - bad))
bad_is None n rest f e = absurd cc
bad_is (Some bad) n rest f e = (bad, refl, cc)

-- a text that is there
text_there : (b : Bool) (d f : Fault) (r : Result (List ℕ × List ℕ) Fault) → cond b (Err d) r ≡ Err f → (IsMended f → ⊥) → IsMended d → (b ≡ false) × (r ≡ Err f)
text_there true d f r e lasts mended = let same : d ≡ f = cc in absurd (lasts (subst IsMended same mended))
text_there false d f r e lasts mended = (refl, e)

most_is : (least most : ℕ) (bytes : List ℕ) (n : ℕ × List ℕ) → number_within w16 least most bytes ≡ Ok n → n.0 ≤ most
unfolding number_within
most_is least most bytes n e =
    let b = bind_ok (number_at w16 bytes) _ n e in
    let g = let_pass (leb least b.0.0 && leb b.0.0 most) (BadField (length bytes)) (Ok b.0) n b.2 in
    let t = both (leb least b.0.0) (leb b.0.0 most) g.0 in
    let less : b.0.0 ≤ most = leb-true b.0.0 most t.1 in
    let same : b.0.0 ≡ n.0 = ap (λ (x : ℕ × List ℕ). x.0) (ok_is b.0 n g.1) in
    omega (arith, less, same)

module _ (least most low : ℕ) (few : most ≤ 1024) where
  text_took : (bytes : List ℕ) (x : List ℕ × List ℕ) → text_at least most low bytes ≡ Ok x → Took (text_at least most low) bytes x
  unfolding text_at
  text_took bytes x e =
      let a = bind_ok (number_within w16 least most bytes) (λ n. cond (ltb (length n.1) n.0) (Err (Short (length bytes))) (unless_bad (position (is_bad low) (take n.0 n.1)) n.0 n.1)) x e in
      let n = a.0 in
      let p = (one16 least most).took bytes n a.1 in
      let g = not_refused (ltb (length n.1) n.0) (Short (length bytes)) (unless_bad (position (is_bad low) (take n.0 n.1)) n.0 n.1) x a.2 in
      let u = unless_ok (position (is_bad low) (take n.0 n.1)) n.0 n.1 x g.1 in
      let t : List ℕ = take n.0 n.1 in
      let len : length t ≡ n.0 = omega (arith, length-take n.0 n.1, ltb-false _ _ g.0) in
      let found : Took (text_at least most low) bytes (t, drop n.0 n.1) = record {
        front = p.front ++ t;
        parts = p.parts ∙ ap (λ (l : List ℕ). p.front ++ l) (sym (take-append-drop n.0 n.1)) ∙ sym (append_assoc p.front t (drop n.0 n.1));
        same = λ more.
            let read : number_within w16 least most ((p.front ++ t) ++ more) ≡ Ok (n.0, t ++ more) = ap (number_within w16 least most) (append_assoc p.front t more) ∙ p.same (t ++ more) in
            text_same least most low ((p.front ++ t) ++ more) t more n.0 len read ∙ ap (λ (o : Option ℕ). unless_bad o n.0 (t ++ more)) u.0 ∙ good_same t more n.0 len;
      } in
      subst (λ (y : List ℕ × List ℕ). Took (text_at least most low) bytes y) u.1 found

  text_refused : (bytes : List ℕ) (f : Fault) → text_at least most low bytes ≡ Err f → (IsMended f → ⊥) → Refused (text_at least most low) bytes f
  unfolding text_at
  text_refused bytes f e lasts = elim (bind_err (number_within w16 least most bytes) (λ n. cond (ltb (length n.1) n.0) (Err (Short (length bytes))) (unless_bad (position (is_bad low) (take n.0 n.1)) n.0 n.1)) f e) [
    | first h ↦
        let p = (one16 least most).refused bytes f h lasts in
        record {
          front = p.front;
          behind = p.behind;
          parts = p.parts;
          fault = p.fault;
          is = p.is;
          lasting = p.lasting;
          same = λ more. ap (λ (r : Result (ℕ × List ℕ) Fault). r >>= λ n. cond (ltb (length n.1) n.0) (Err (Short (length (p.front ++ more)))) (unless_bad (position (is_bad low) (take n.0 n.1)) n.0 n.1)) (p.same more);
        }
    | later n h k ↦
        let p = (one16 least most).took bytes n h in
        let g = text_there (ltb (length n.1) n.0) (Short (length bytes)) f (unless_bad (position (is_bad low) (take n.0 n.1)) n.0 n.1) k lasts tt in
        let bad = bad_is (position (is_bad low) (take n.0 n.1)) n.0 n.1 f g.1 in
        let t : List ℕ = take n.0 n.1 in
        let behind : List ℕ = drop n.0 n.1 in
        let long : n.0 ≤ length n.1 = ltb-false _ _ g.0 in
        let len : length t ≡ n.0 = omega (arith, length-take n.0 n.1, long) in
        let within : bad.0 < n.0 = omega (arith, bad_within low bad.0 t bad.1, len) in
        let total : length n.1 ≡ n.0 + length behind = omega (arith, ap length (take-append-drop n.0 n.1), length-append t behind, len) in
        let less : n.0 ≤ most = most_is least most bytes n h in
        record {
          front = p.front ++ t;
          behind = behind;
          parts = p.parts ∙ ap (λ (l : List ℕ). p.front ++ l) (sym (take-append-drop n.0 n.1)) ∙ sym (append_assoc p.front t behind);
          fault = BadField (n.0 - bad.0);
          is = bad.2 ∙ ap BadField (let e : length n.1 - bad.0 ≡ n.0 - bad.0 + length behind = omega (arith, total, within) in e);
          lasting = (omega (arith, within), omega (arith, less, few), omega (arith, length-append p.front t, len));
          same = λ more.
              let read : number_within w16 least most ((p.front ++ t) ++ more) ≡ Ok (n.0, t ++ more) = ap (number_within w16 least most) (append_assoc p.front t more) ∙ p.same (t ++ more) in
              let place : length (t ++ more) - bad.0 ≡ n.0 - bad.0 + length more = omega (arith, length-append t more, len, within) in
              text_same least most low ((p.front ++ t) ++ more) t more n.0 len read ∙ ap (λ (o : Option ℕ). unless_bad o n.0 (t ++ more)) bad.1 ∙ ap (λ (l : ℕ). Err (BadField l)) place;
        }
  ]

  text_local : IsLocal (text_at least most low)
  text_local = record { took = text_took; refused = text_refused }

-- ---- the other fields

version_local : IsLocal version_at
unfolding version_at
version_local = then_local (number_local w16 (omega arith) (omega arith)) (λ v. cond_local (leb 1 v && leb v 2) (pure_local v) (fail_local (BadVersion v) tt (λ n. refl)))

head_local : IsLocal head_at
unfolding head_at
head_local = then_local (number_local w32 (omega arith) (omega arith)) (λ v. cond_local (eqb v 0x43565243) version_local (fail_local BadMagic tt (λ n. refl)))

test_local : IsLocal test_at
unfolding test_at
test_local =
    then_local (text_local 1 255 33 (omega arith)) (λ id. then_local (one8 0 3) (λ status. then_local (number_local w64 (omega arith) (omega arith)) (λ seed.
    then_local (number_local w64 (omega arith) (omega arith)) (λ time. then_local (text_local 0 255 32 (omega arith)) (λ user.
    pure_local (record { id = id; status = status; seed = seed; time = time; user = user }))))))

arg_local : IsLocal arg_at
unfolding arg_at
arg_local = then_local (one8 1 64) (λ width. then_local (one8 0 1) (λ sign. pure_local (record { width = width; signed = eqb sign 1 })))

signal_local : IsLocal signal_at
unfolding signal_at
signal_local = then_local (text_local 1 1024 33 (omega arith)) (λ name. then_local arg_local (λ form. pure_local (record { name = name; width = form.width; signed = form.signed })))

signals_local : IsLocal signals_at
unfolding signals_at
signals_local = then_local (one16 0 4096) (λ n. counted_local signal_local n)

args_local : (version : ℕ) → IsLocal (args_at version)
unfolding args_at listed_args_at
args_local version = cond_local (eqb version 1) (pure_local []) (then_local (one8 0 16) (λ n. counted_local arg_local n))

instance_local : (version : ℕ) → IsLocal (instance_at version)
unfolding instance_at
instance_local version =
    then_local (text_local 1 1024 33 (omega arith)) (λ name. then_local (text_local 1 1024 33 (omega arith)) (λ group. then_local (args_local version) (λ args. pure_local (record { name = name; group = group; args = args }))))

instances_local : (version : ℕ) → IsLocal (instances_at version)
unfolding instances_at
instances_local version = then_local (one16 0 1024) (λ n. counted_local (instance_local version) n)

value_local : (width : ℕ) → IsLocal (value_at width)
unfolding value_at known_at
value_local width = then_local (one8 0 1) (λ known. cond_local (eqb known 0) (pure_local None) (then_local (within_local w64 (omega arith) (omega arith) 0 (2 ^ width - 1)) (λ bits. pure_local (Some bits))))

values_local : (rows : List ArgRow) → IsLocal (values_at rows)
unfolding values_at
values_local [] = pure_local []
values_local (row ∷ rows) = then_local (value_local row.width) (λ v. then_local (values_local rows) (λ others. pure_local (v ∷ others)))

set_local : (signals : List SignalRow) → IsLocal (set_at signals)
unfolding set_at
set_local signals = judged_then_local w16 (omega arith) (omega arith) (slice_get signals) (λ signal row rest. value_at row.width rest >>= λ value. Ok (Set signal value.0, value.1))
    (λ signal row. then_local (value_local row.width) (λ value. pure_local (Set signal value)))

sample_local : (instances : List InstRow) → IsLocal (sample_at instances)
unfolding sample_at
sample_local instances = judged_then_local w16 (omega arith) (omega arith) (slice_get instances) (λ instance row rest. values_at row.args rest >>= λ args. Ok (Sample instance args.0, args.1))
    (λ instance row. then_local (values_local row.args) (λ args. pure_local (Sample instance args)))

event_local : (signals : List SignalRow) (instances : List InstRow) → IsLocal (event_at signals instances)
unfolding event_at
event_local signals instances = then_local (one8 1 2) (λ tag. cond_local (eqb tag 1) (set_local signals) (sample_local instances))

events_local : (signals : List SignalRow) (instances : List InstRow) → IsLocal (events_at signals instances)
unfolding events_at
events_local signals instances = then_local (number_local w32 (omega arith) (omega arith)) (λ n. cond_local (ltb 1048576 n) (fail_local (TooManyEvents n) tt (λ k. refl)) (counted_local (event_local signals instances) n))

pub record_local : IsLocal record_at
unfolding record_at
record_local =
    then_local head_local (λ version. then_local test_local (λ test. then_local signals_local (λ signals. then_local (instances_local version) (λ instances. then_local (events_local signals instances) (λ events.
    pure_local (record { version = version; id = test.id; status = test.status; seed = test.seed; time = test.time; user = test.user; signals = signals; instances = instances; events = events }))))))
