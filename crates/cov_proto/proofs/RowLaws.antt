-- Rows of replies: what is read is spelled so, and what is spelled so is read again.
use Rattle.std.proofs.Common.{◌≡◌, ℕ, zero, suc, ◌+◌, ◌-◌, ◌^◌, ◌<◌, ◌≤◌, eqb, Bool, true, false, cond, List, [], ◌∷◌, ◌++◌, length, Result, Ok, Err, refl, sym, ap, subst, ◌∙◌, append_assoc, arith, length-append, inl, inr}
use Rattle.std.specs.List.{AllByRecursion, flat_map}
use Rattle.std.specs.Int.{w8, w64, to_be_bytes}
use Rattle.std.proofs.lemmas.Bool.{eqb-true}
use Rattle.std.proofs.lemmas.List.{nil_from_length, append-nil}
use Rattle.tally.specs.declared.ranked.Ranked.{Ranked}
use Rattle.ucis_model.specs.declared.answers.CountRow.{CountRow}
use Rattle.ucis_model.specs.declared.answers.HistoryKind.TheVariants as history
use Rattle.ucis_model.specs.declared.answers.HistoryNode.{HistoryNode}
use Rattle.cov_proto.specs.Laws.{AreBytes}
use Rattle.cov_proto.specs.Limits.{IsTestRow, IsRecordFault, HasCountType, HasCoverType, HasTestType, HasRankType}
use Rattle.cov_proto.specs.Spelled.{one_byte, count_row, cover_row, test_row, rank_row}
use Rattle.request_forms.specs.Reading.{◌>>=◌, Reader, number_within}
use Rattle.cov_proto.specs.Reading.{shaped, rows_in, rows}
use Rattle.cov_proto.specs.Replies.{count_row_at, cover_row_at, test_row_at, rank_row_at, greatest_number, record_fault_at}
use Rattle.request_forms.proofs.Readers.{bind_ok, bind_err, let_pass, no_fault, too_many, ok_is, Takes-then, Read, Begun, IsField, Whole, IsForm, at_front, behind_front, before_more, begun_low, bind_early, then_early, then_low, wide8, wide64, number32, number64, within_first, within_early, within_field, digest_field, pair_field}
use Rattle.request_forms.proofs.Early.{IsEarly, parted}
use Rattle.request_forms.proofs.Texts.{text_field}
use Rattle.cov_proto.proofs.SmallNumbers.{flag_field, kind_field}

-- ---- what is made of a field

pub shaped_field : {A B : Type 0} {read : Reader A} {s : A → List ℕ} {F : A → Type 0} → IsField read s F → (make : A → B) (of : B → A) (t : B → List ℕ) (G : B → Type 0)
    → ((x : A) → F x → (s x ≡ t (make x)) × G (make x)) → ((y : B) → G y → (t y ≡ s (of y)) × F (of y) × (make (of y) ≡ y)) → IsField (shaped make read) t G
shaped_field {A = A} {B = B} {read = read} {s = s} {F = F} f make of t G there back = record { takes = takes; again = again; begun = begun; example = record { value = make f.example.value; fits = (there f.example.value f.example.fits).1 }; early = then_early read f.early (λ x. (make x.0, x.1)) }
  where
    takes : (bytes : List ℕ) (x : B × List ℕ) → AreBytes bytes → shaped make read bytes ≡ Ok x → Read t G bytes x
    takes bytes x fits e =
        let a = bind_ok (read bytes) _ x e in
        let m = f.takes bytes a.0 fits a.1 in
        let h = there a.0.0 m.fits in
        subst (λ (y : B × List ℕ). Read t G bytes y) (ok_is (make a.0.0, a.0.1) x a.2) (record { takes = record { parts = m.takes.parts ∙ ap (λ (l : List ℕ). l ++ a.0.1) h.0; rest_fits = m.takes.rest_fits }; fits = h.1 })

    again : (y : B) (rest : List ℕ) → G y → shaped make read (t y ++ rest) ≡ Ok (y, rest)
    again y rest fits = let h = back y fits in rw (h.0, f.again (of y) rest h.1) (ap (λ (z : B). Ok (z, rest)) h.2)

    begun : (bytes : List ℕ) (left : ℕ) → AreBytes bytes → shaped make read bytes ≡ Err left → Begun t G bytes left
    begun bytes left fits e = elim (bind_err (read bytes) _ left e) [
      | inl h ↦ before_more [] make (λ x fit. let k = there x fit in (sym k.0 ∙ sym (append-nil (s x)), k.1)) (f.begun bytes left fits h)
      | inr h ↦ absurd (no_fault (make h.0.0, h.0.1) left h.2)
    ]

-- ---- fields of one row

pub count_row_field : IsField count_row_at count_row HasCountType
unfolding count_row
count_row_field = shaped_field (pair_field number32 (pair_field kind_field (pair_field flag_field number64)))
    (λ x. record { bin = x.0; kind = x.1.0; excluded = x.1.1.0; count = x.1.1.1 }) (λ r. (r.bin, (r.kind, (r.excluded, r.count)))) count_row HasCountType
    (λ x f. (refl, record { bin = f.0; count = f.1.1.1 })) (λ r g. (refl, (g.bin, (tt, (tt, g.count))), refl))

pub cover_row_field : IsField cover_row_at cover_row HasCoverType
cover_row_field = shaped_field (pair_field number32 (pair_field flag_field (pair_field flag_field (pair_field number32 number32))))
    (λ x. record { millionths = x.0; met = x.1.0; excluded = x.1.1.0; covered = x.1.1.1.0; bins = x.1.1.1.1 }) (λ r. (r.millionths, (r.met, (r.excluded, (r.covered, r.bins))))) cover_row HasCoverType
    (λ x f. (refl, record { millionths = f.0; covered = f.1.1.1.0; bins = f.1.1.1.1 })) (λ r g. (refl, (g.millionths, (tt, (tt, (g.covered, g.bins)))), refl))

pub rank_row_field : IsField rank_row_at rank_row HasRankType
unfolding rank_row
rank_row_field = shaped_field (pair_field number32 number64)
    (λ x. record { test = x.0; gain = x.1 }) (λ r. (r.test, r.gain)) rank_row HasRankType
    (λ x f. (refl, record { test = f.0; gain = f.1 })) (λ r g. (refl, (g.test, g.gain), refl))

pub record IsTest (row : HistoryNode) : Type 0 where
  pub limits : IsTestRow row
  pub typed : HasTestType row

pub test_row_field : IsField test_row_at test_row IsTest
unfolding test_row
test_row_field = shaped_field
    (pair_field number64 (pair_field (within_field wide8 (omega arith) 0 3 (omega arith) (omega arith)) (pair_field number64 (pair_field number64 (pair_field digest_field (pair_field (text_field 1 33 (omega arith) (omega arith)) (text_field 0 32 (omega arith) (omega arith))))))))
    (λ x. record { kind = history.Test; point = x.0; status = x.1.0; seed = x.1.1.0; time = x.1.1.1.0; digest = x.1.1.1.1.0; id = x.1.1.1.1.1.0; user = x.1.1.1.1.1.1 })
    (λ r. (r.point, (r.status, (r.seed, (r.time, (r.digest, (r.id, r.user))))))) test_row IsTest
    (λ x f. (
      refl,
      record {
        limits = record { kind = refl; status = omega (arith, f.1.0.high); id = f.1.1.1.1.1.0; user = f.1.1.1.1.1.1 };
        typed = record { point = f.0; seed = f.1.1.0; time = f.1.1.1.0; digest = f.1.1.1.1.0 };
      },
    ))
    (λ r g. (
      refl,
      (g.typed.point, (record { low = omega arith; high = omega (arith, g.limits.status) }, (g.typed.seed, (g.typed.time, (g.typed.digest, (g.limits.id, g.limits.user)))))),
      ap (λ k. record { kind = k; point = r.point; status = r.status; seed = r.seed; time = r.time; digest = r.digest; id = r.id; user = r.user }) (sym g.limits.kind),
    ))

-- ---- rows until the bytes end

nil_if : (bytes : List ℕ) → eqb (length bytes) 0 ≡ true → bytes ≡ []
nil_if bytes e = nil_from_length bytes (eqb-true _ _ e)

nil_takes : {A : Type 0} (s : A → List ℕ) (F : A → Type 0) (bytes : List ℕ) (xs : List A) → eqb (length bytes) 0 ≡ true → [] ≡ xs → Whole (flat_map s) (AllByRecursion F) bytes xs
nil_takes s F bytes xs e same = subst (λ l. Whole (flat_map s) (AllByRecursion F) bytes l) same (record { parts = nil_if bytes e; fits = tt })

rows_takes : {A : Type 0} {read : Reader A} {s : A → List ℕ} {F : A → Type 0} → IsField read s F → (n : ℕ) (bytes : List ℕ) (xs : List A) → AreBytes bytes → rows_in read n bytes ≡ Ok xs → Whole (flat_map s) (AllByRecursion F) bytes xs
unfolding rows_in
rows_takes {s = s} {F = F} f zero bytes xs fits e =
    let g = let_pass (eqb (length bytes) 0) (length bytes) (Ok []) xs e in
    nil_takes s F bytes xs g.0 (ok_is [] xs g.1)
rows_takes {A = A} {read = read} {s = s} {F = F} f (suc n) bytes xs fits e = by (λ rest ys h k. rows_takes f n rest ys h k) (eqb (length bytes) 0) refl e
  where
    more : Result (List A) ℕ
    more = read bytes >>= (λ first. rows_in read n first.1 >>= (λ others. Ok (first.0 ∷ others)))

    by : ((rest : List ℕ) (ys : List A) → AreBytes rest → rows_in read n rest ≡ Ok ys → Whole (flat_map s) (AllByRecursion F) rest ys) → (b : Bool) → eqb (length bytes) 0 ≡ b → cond b (Ok []) more ≡ Ok xs → Whole (flat_map s) (AllByRecursion F) bytes xs
    by below true t h = nil_takes s F bytes xs t (ok_is [] xs h)
    by below false t h =
        let a = bind_ok (read bytes) _ xs h in
        let b = bind_ok (rows_in read n a.0.1) _ xs a.2 in
        let m = f.takes bytes a.0 fits a.1 in
        let w = below a.0.1 b.0 m.takes.rest_fits b.1 in
        subst (λ l. Whole (flat_map s) (AllByRecursion F) bytes l) {x = a.0.0 ∷ b.0} (ok_is (a.0.0 ∷ b.0) xs b.2) (record { parts = m.takes.parts ∙ ap (λ (l : List ℕ). s a.0.0 ++ l) w.parts; fits = (m.fits, w.fits) })

not_none : (n : ℕ) → 0 < n → eqb n 0 ≡ false
not_none n lt = grind arith

rows_again : {A : Type 0} {read : Reader A} {s : A → List ℕ} {F : A → Type 0} → IsField read s F → ((x : A) → 1 ≤ length (s x)) → (n : ℕ) (xs : List A) → length (flat_map s xs) ≤ n → AllByRecursion F xs → rows_in read n (flat_map s xs) ≡ Ok xs
unfolding rows_in
rows_again f some zero [] le fits = refl
rows_again f some (suc n) [] le fits = refl
rows_again {s = s} f some zero (x ∷ xs) le fits = absurd (omega (arith, some x, length-append (s x) (flat_map s xs)))
rows_again {s = s} f some (suc n) (x ∷ xs) le fits =
    let filled : eqb (length (s x ++ flat_map s xs)) 0 ≡ false = not_none _ (omega (arith, some x, length-append (s x) (flat_map s xs))) in
    rw (filled, f.again x (flat_map s xs) fits.0, rows_again f some n xs (omega (arith, some x, length-append (s x) (flat_map s xs))) fits.1) refl

rows_begun : {A : Type 0} {read : Reader A} {s : A → List ℕ} {F : A → Type 0} → IsField read s F → (n : ℕ) (bytes : List ℕ) (left : ℕ) → AreBytes bytes → rows_in read n bytes ≡ Err left → Begun (flat_map s) (AllByRecursion F) bytes left
unfolding rows_in
rows_begun f zero bytes left fits e = at_front (record { value = []; fits = tt }) (too_many [] bytes left e)
rows_begun {A = A} {read = read} {s = s} {F = F} f (suc n) bytes left fits e = by (λ rest h k. rows_begun f n rest left h k) (eqb (length bytes) 0) e
  where
    more : Result (List A) ℕ
    more = read bytes >>= (λ first. rows_in read n first.1 >>= (λ others. Ok (first.0 ∷ others)))

    by : ((rest : List ℕ) → AreBytes rest → rows_in read n rest ≡ Err left → Begun (flat_map s) (AllByRecursion F) rest left) → (b : Bool) → cond b (Ok []) more ≡ Err left → Begun (flat_map s) (AllByRecursion F) bytes left
    by below true h = absurd cc
    by below false h = elim (bind_err (read bytes) _ left h) [
      | inl k ↦ before_more [] (λ x. x ∷ []) (λ x fit. (refl, (fit, tt))) (f.begun bytes left fits k)
      | inr k ↦
          let m = f.takes bytes k.0 fits k.1 in
          elim (bind_err (rows_in read n k.0.1) _ left k.2) [
            | inl j ↦ behind_front (s k.0.0) bytes (λ xs. k.0.0 ∷ xs) m.takes.parts (λ xs fit. (refl, (m.fits, fit))) (below k.0.1 m.takes.rest_fits j)
            | inr j ↦ absurd (no_fault (k.0.0 ∷ j.0) left j.2)
          ]
    ]

rows_early : {A : Type 0} {read : Reader A} {s : A → List ℕ} {F : A → Type 0} → IsField read s F → ((x : A) → 1 ≤ length (s x)) → (n m : ℕ) (front more other : List ℕ) (l : ℕ) → length (front ++ more) ≤ n → length (front ++ other) ≤ m → AreBytes (front ++ more)
    → rows_in read n (front ++ more) ≡ Err (l + length more) → 255 ≤ l → rows_in read m (front ++ other) ≡ Err (l + length other)
unfolding rows_in
rows_early f some zero m front more other l few less fits e big = let low = begun_low (rows_begun f zero (front ++ more) (l + length more) fits e) in absurd (omega (arith, low, few, big))
rows_early f some (suc n) zero front more other l few less fits e big =
    let low = begun_low (rows_begun f (suc n) (front ++ more) (l + length more) fits e) in absurd (omega (arith, low, less, big, length-append front more, length-append front other))
rows_early {A = A} {read = read} {s = s} {F = F} f some (suc n) (suc m) front more other l few less fits e big =
    let low = begun_low (rows_begun f (suc n) (front ++ more) (l + length more) fits e) in
    let filled : eqb (length (front ++ more)) 0 ≡ false = not_none _ (omega (arith, low, big)) in
    let filled' : eqb (length (front ++ other)) 0 ≡ false = not_none _ (omega (arith, low, big, length-append front more, length-append front other)) in
    let fails : read (front ++ more) >>= (λ first. rows_in read n first.1 >>= (λ others. Ok (first.0 ∷ others))) ≡ Err (l + length more) = rw filled at e in
    elim (bind_err (read (front ++ more)) (λ first. rows_in read n first.1 >>= (λ others. Ok (first.0 ∷ others))) (l + length more) fails) [
      | inl h ↦ rw (filled', f.early front more other l fits h big) refl
      | inr h ↦
          let t = f.takes (front ++ more) h.0 fits h.1 in
          elim (bind_err (rows_in read n h.0.1) (λ others. Ok (h.0.0 ∷ others)) (l + length more) h.2) [
            | inl k ↦
                let under : l + length more ≤ length h.0.1 = begun_low (rows_begun f n h.0.1 (l + length more) t.takes.rest_fits k) in
                let p = parted front more (s h.0.0) h.0.1 t.takes.parts (omega (arith, under)) in
                let size : length front ≡ length (s h.0.0) + length p.mid = ap length p.front_is ∙ length-append (s h.0.0) p.mid in
                let fit : AreBytes (p.mid ++ more) = subst AreBytes p.rest_is t.takes.rest_fits in
                let inner : rows_in read n (p.mid ++ more) ≡ Err (l + length more) = subst (λ (rest : List ℕ). rows_in read n rest ≡ Err (l + length more)) p.rest_is k in
                let found : read (front ++ other) ≡ Ok (h.0.0, p.mid ++ other) = ap (λ (g : List ℕ). read (g ++ other)) p.front_is ∙ ap read (append_assoc (s h.0.0) p.mid other) ∙ f.again h.0.0 (p.mid ++ other) t.fits in
                let below : rows_in read m (p.mid ++ other) ≡ Err (l + length other) =
                rows_early f some n m p.mid more other l (omega (arith, some h.0.0, size, few, length-append front more, length-append p.mid more)) (omega (arith, some h.0.0, size, less, length-append front other, length-append p.mid other)) fit inner big in
                rw (filled', found, below) refl
            | inr k ↦ absurd (no_fault (h.0.0 ∷ k.0) (l + length more) k.2)
          ]
    ]

pub rows_form : {A : Type 0} {read : Reader A} {s : A → List ℕ} {F : A → Type 0} → IsField read s F → ((x : A) → 1 ≤ length (s x)) → IsForm (rows read) (flat_map s) (AllByRecursion F)
rows_form {s = s} f some = record {
  takes = λ bytes xs fits e. rows_takes f (length bytes) bytes xs fits e;
  again = λ xs fits. rows_again f some (length (flat_map s xs)) xs (omega arith) fits;
  begun = λ bytes left fits e. rows_begun f (length bytes) bytes left fits e;
  example = record { value = []; fits = tt };
  early = λ front more other l fits e big. rows_early f some (length (front ++ more)) (length (front ++ other)) front more other l (omega arith) (omega arith) fits e big;
}

pub some_count : (r : CountRow) → 1 ≤ length (count_row r)
unfolding count_row
some_count r = omega arith

pub some_rank : (r : Ranked) → 1 ≤ length (rank_row r)
unfolding rank_row
some_rank r = omega arith

pub some_test : (r : HistoryNode) → 1 ≤ length (test_row r)
unfolding test_row
some_test r = omega arith

pub count_rows_form : IsForm (rows count_row_at) (flat_map count_row) (AllByRecursion HasCountType)
count_rows_form = rows_form count_row_field some_count

pub rank_rows_form : IsForm (rows rank_row_at) (flat_map rank_row) (AllByRecursion HasRankType)
rank_rows_form = rows_form rank_row_field some_rank

pub test_rows_form : IsForm (rows test_row_at) (flat_map test_row) (AllByRecursion IsTest)
test_rows_form = rows_form test_row_field some_test

-- ---- a fault of a record

abbrev pub fault_bytes : ℕ × ℕ → List ℕ
fault_bytes x = one_byte x.0 ++ to_be_bytes w64 x.1

pub record IsFault (x : ℕ × ℕ) : Type 0 where
  pub fault : IsRecordFault x.0 x.1
  pub typed : x.1 < 2 ^ 64

low_limit : (b : Bool) → cond b 0 (2 ^ 64 - 1) < 2 ^ 64
low_limit true = omega arith
low_limit false = omega arith

magic_zero : (code number : ℕ) → number ≤ greatest_number code → code ≡ 2 → number ≡ 0
magic_zero code number le e =
    let small : number ≤ 0 = subst (λ (c : ℕ). number ≤ greatest_number c) e le in
    omega arith

within_limit : (code number : ℕ) (b : Bool) → eqb code 2 ≡ b → (code ≡ 2 → number ≡ 0) → number < 2 ^ 64 → number ≤ cond b 0 (2 ^ 64 - 1)
within_limit code number true e none lt = omega (arith, none (eqb-true _ _ e))
within_limit code number false e none lt = omega (arith, lt)

fault_takes : (bytes : List ℕ) (x : (ℕ × ℕ) × List ℕ) → AreBytes bytes → record_fault_at bytes ≡ Ok x → Read fault_bytes IsFault bytes x
unfolding record_fault_at
fault_takes bytes x fits e =
    let a = bind_ok (number_within w8 1 6 bytes) (λ code. number_within w64 0 (greatest_number code.0) code.1 >>= (λ number. Ok ((code.0, number.0), number.1))) x e in
    let b = bind_ok (number_within w64 0 (greatest_number a.0.0) a.0.1) (λ number. Ok ((a.0.0, number.0), number.1)) x a.2 in
    let m = (within_field wide8 (omega arith) 1 6 (omega arith) (omega arith)).takes bytes a.0 fits a.1 in
    let n = (within_field wide64 (omega arith) 0 (greatest_number a.0.0) (low_limit (eqb a.0.0 2)) (omega arith)).takes a.0.1 b.0 m.takes.rest_fits b.1 in
    subst (λ (y : (ℕ × ℕ) × List ℕ). Read fault_bytes IsFault bytes y) {x = ((a.0.0, b.0.0), b.0.1)} (ok_is ((a.0.0, b.0.0), b.0.1) x b.2) (record {
      takes = Takes-then m.takes n.takes;
      fits = record { fault = record { some = m.fits.low; known = omega (arith, m.fits.high); magic = magic_zero a.0.0 b.0.0 n.fits.high }; typed = omega (arith, n.fits.high, low_limit (eqb a.0.0 2)) };
    })

fault_again : (x : ℕ × ℕ) (rest : List ℕ) → IsFault x → record_fault_at (fault_bytes x ++ rest) ≡ Ok (x, rest)
unfolding record_fault_at
fault_again x rest fits =
    rw (
      (within_field wide8 (omega arith) 1 6 (omega arith) (omega arith)).again x.0 (to_be_bytes w64 x.1 ++ rest) (record { low = fits.fault.some; high = omega (arith, fits.fault.known) }),
      (within_field wide64 (omega arith) 0 (greatest_number x.0) (low_limit (eqb x.0 2)) (omega arith)).again x.1 rest (record { low = omega arith; high = within_limit x.0 x.1 (eqb x.0 2) refl fits.fault.magic fits.typed }),
    ) refl

fault_begun : (bytes : List ℕ) (left : ℕ) → AreBytes bytes → record_fault_at bytes ≡ Err left → Begun fault_bytes IsFault bytes left
unfolding record_fault_at
fault_begun bytes left fits e =
    elim (bind_err (number_within w8 1 6 bytes) (λ code. number_within w64 0 (greatest_number code.0) code.1 >>= (λ number. Ok ((code.0, number.0), number.1))) left e) [
      | inl h ↦ at_front (record { value = (1, 0); fits = record { fault = record { some = omega arith; known = omega arith; magic = λ e. refl }; typed = omega arith } }) (within_first w8 1 6 bytes left h)
      | inr h ↦
          let m = (within_field wide8 (omega arith) 1 6 (omega arith) (omega arith)).takes bytes h.0 fits h.1 in
          elim (bind_err (number_within w64 0 (greatest_number h.0.0) h.0.1) (λ number. Ok ((h.0.0, number.0), number.1)) left h.2) [
            | inl k ↦ record {
              front = one_byte h.0.0;
              behind = h.0.1;
              parts = m.takes.parts;
              long = within_first w64 0 (greatest_number h.0.0) h.0.1 left k;
              value = (h.0.0, 0);
              fits = record { fault = record { some = m.fits.low; known = omega (arith, m.fits.high); magic = λ e. refl }; typed = omega arith };
              more = to_be_bytes w64 0;
              starts = refl;
            }
            | inr k ↦ absurd (no_fault ((h.0.0, k.0.0), k.0.1) left k.2)
          ]
    ]

fault_early : IsEarly record_fault_at
unfolding record_fault_at
fault_early =
    let f = within_field wide8 (omega arith) 1 6 (omega arith) (omega arith) in
    bind_early f.takes f.again f.early (λ code. number_within w64 0 (greatest_number code.0) code.1 >>= (λ number. Ok ((code.0, number.0), number.1))) (record {
      low = λ x rest left fx fits e. then_low (number_within w64 0 (greatest_number x)) (λ bytes left fits e. first_low x bytes left e) (λ number. ((x, number.0), number.1)) rest left fits e;
      early = λ x fx. then_early (number_within w64 0 (greatest_number x)) (within_early w64 (omega arith) 0 (greatest_number x)) (λ number. ((x, number.0), number.1));
    })
  where
    first_low : (x : ℕ) (bytes : List ℕ) (left : ℕ) → number_within w64 0 (greatest_number x) bytes ≡ Err left → left ≤ length bytes
    first_low x bytes left e = let h = within_first w64 0 (greatest_number x) bytes left e in omega (arith, h)

pub fault_field : IsField record_fault_at fault_bytes IsFault
fault_field = record { takes = fault_takes; again = fault_again; begun = fault_begun; example = record { value = (1, 0); fits = record { fault = record { some = omega arith; known = omega arith; magic = λ e. refl }; typed = omega arith } }; early = fault_early }
