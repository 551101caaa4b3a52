-- Small numbers that stand for something else.
use Rattle.std.proofs.Common.{◌≡◌, ℕ, zero, suc, ◌≤◌, Bool, true, false, eqb, List, ◌++◌, length, Ok, Err, refl, ap, subst, ◌∙◌, arith, inl, inr}
use Rattle.std.specs.Int.{w8}
use Rattle.design_data.specs.declared.infos.BinKind.{BinKind}
use Rattle.design_data.specs.declared.infos.BinKind.TheVariants.{CvgBin, IllegalBin, IgnoreBin, DefaultBin}
use Rattle.ucis_model.specs.declared.answers.Which.{Which}
use Rattle.ucis_model.specs.declared.answers.Which.TheVariants as which
use Rattle.request_forms.specs.Reading.{number_within, flag_at, kind_of, kind_at}
use Rattle.request_forms.proofs.Readers.{bind_ok, bind_err, no_fault, ok_is, Read, IsField, at_front, then_early, wide8, within_first, within_early, within_field}
use Rattle.request_forms.proofs.Early.{IsEarly}
use Rattle.cov_proto.specs.Laws.{AreBytes}
use Rattle.cov_proto.specs.Reading.{limit_of, limit_at}
use Rattle.cov_proto.specs.Spelled.{one_byte, flag, kind, limit}

abbrev Any : {A : Type 0} → A → Type 0
Any x = Unit {0}

flag_back : (n : ℕ) → n ≤ 1 → one_byte n ≡ flag (eqb n 1)
flag_back zero le = refl
flag_back (suc zero) le = refl
flag_back (suc (suc n)) le = absurd (omega arith)

flag_takes : (bytes : List ℕ) (x : Bool × List ℕ) → AreBytes bytes → flag_at bytes ≡ Ok x → Read flag Any bytes x
unfolding flag_at
flag_takes bytes x fits e =
    let a = bind_ok (number_within w8 0 1 bytes) (λ n. Ok (eqb n.0 1, n.1)) x e in
    let m = (within_field wide8 (omega arith) 0 1 (omega arith) (omega arith)).takes bytes a.0 fits a.1 in
    subst (λ (y : Bool × List ℕ). Read flag Any bytes y) {x = (eqb a.0.0 1, a.0.1)} (ok_is (eqb a.0.0 1, a.0.1) x a.2)
    (record { takes = record { parts = m.takes.parts ∙ ap (λ (l : List ℕ). l ++ a.0.1) (flag_back a.0.0 m.fits.high); rest_fits = m.takes.rest_fits }; fits = tt })

flag_again : (x : Bool) (rest : List ℕ) → Unit {0} → flag_at (flag x ++ rest) ≡ Ok (x, rest)
unfolding flag_at
flag_again false rest fits = rw ((within_field wide8 (omega arith) 0 1 (omega arith) (omega arith)).again 0 rest (record { low = omega arith; high = omega arith })) refl
flag_again true rest fits = rw ((within_field wide8 (omega arith) 0 1 (omega arith) (omega arith)).again 1 rest (record { low = omega arith; high = omega arith })) refl

flag_first : (bytes : List ℕ) (left : ℕ) → flag_at bytes ≡ Err left → length bytes ≡ left
unfolding flag_at
flag_first bytes left e = elim (bind_err (number_within w8 0 1 bytes) (λ n. Ok (eqb n.0 1, n.1)) left e) [
  | inl h ↦ within_first w8 0 1 bytes left h
  | inr h ↦ absurd (no_fault (eqb h.0.0 1, h.0.1) left h.2)
]

flag_early : IsEarly flag_at
unfolding flag_at
flag_early = then_early (number_within w8 0 1) (within_early w8 (omega arith) 0 1) (λ n. (eqb n.0 1, n.1))

pub flag_field : IsField flag_at flag Any
flag_field = record { takes = flag_takes; again = flag_again; begun = λ bytes left fits e. at_front (record { value = false; fits = tt }) (flag_first bytes left e); example = record { value = false; fits = tt }; early = flag_early }

kind_back : (n : ℕ) → n ≤ 3 → one_byte n ≡ kind (kind_of n)
kind_back zero le = refl
kind_back (suc zero) le = refl
kind_back (suc (suc zero)) le = refl
kind_back (suc (suc (suc zero))) le = refl
kind_back (suc (suc (suc (suc n)))) le = absurd (omega arith)

kind_takes : (bytes : List ℕ) (x : BinKind × List ℕ) → AreBytes bytes → kind_at bytes ≡ Ok x → Read kind Any bytes x
unfolding kind_at
kind_takes bytes x fits e =
    let a = bind_ok (number_within w8 0 3 bytes) (λ n. Ok (kind_of n.0, n.1)) x e in
    let m = (within_field wide8 (omega arith) 0 3 (omega arith) (omega arith)).takes bytes a.0 fits a.1 in
    subst (λ (y : BinKind × List ℕ). Read kind Any bytes y) {x = (kind_of a.0.0, a.0.1)} (ok_is (kind_of a.0.0, a.0.1) x a.2)
    (record { takes = record { parts = m.takes.parts ∙ ap (λ (l : List ℕ). l ++ a.0.1) (kind_back a.0.0 m.fits.high); rest_fits = m.takes.rest_fits }; fits = tt })

four : (n : ℕ) (rest : List ℕ) → n ≤ 3 → number_within w8 0 3 (one_byte n ++ rest) ≡ Ok (n, rest)
four n rest le = (within_field wide8 (omega arith) 0 3 (omega arith) (omega arith)).again n rest (record { low = omega arith; high = le })

kind_again : (x : BinKind) (rest : List ℕ) → Unit {0} → kind_at (kind x ++ rest) ≡ Ok (x, rest)
unfolding kind_at
kind_again CvgBin rest fits = rw (four 0 rest (omega arith)) refl
kind_again IllegalBin rest fits = rw (four 1 rest (omega arith)) refl
kind_again IgnoreBin rest fits = rw (four 2 rest (omega arith)) refl
kind_again DefaultBin rest fits = rw (four 3 rest (omega arith)) refl

kind_first : (bytes : List ℕ) (left : ℕ) → kind_at bytes ≡ Err left → length bytes ≡ left
unfolding kind_at
kind_first bytes left e = elim (bind_err (number_within w8 0 3 bytes) (λ n. Ok (kind_of n.0, n.1)) left e) [
  | inl h ↦ within_first w8 0 3 bytes left h
  | inr h ↦ absurd (no_fault (kind_of h.0.0, h.0.1) left h.2)
]

kind_early : IsEarly kind_at
unfolding kind_at
kind_early = then_early (number_within w8 0 3) (within_early w8 (omega arith) 0 3) (λ n. (kind_of n.0, n.1))

pub kind_field : IsField kind_at kind Any
kind_field = record { takes = kind_takes; again = kind_again; begun = λ bytes left fits e. at_front (record { value = CvgBin; fits = tt }) (kind_first bytes left e); example = record { value = CvgBin; fits = tt }; early = kind_early }

limit_back : (n : ℕ) → n ≤ 3 → one_byte n ≡ limit (limit_of n)
limit_back zero le = refl
limit_back (suc zero) le = refl
limit_back (suc (suc zero)) le = refl
limit_back (suc (suc (suc zero))) le = refl
limit_back (suc (suc (suc (suc n)))) le = absurd (omega arith)

limit_takes : (bytes : List ℕ) (x : Which × List ℕ) → AreBytes bytes → limit_at bytes ≡ Ok x → Read limit Any bytes x
unfolding limit_at
limit_takes bytes x fits e =
    let a = bind_ok (number_within w8 0 3 bytes) (λ n. Ok (limit_of n.0, n.1)) x e in
    let m = (within_field wide8 (omega arith) 0 3 (omega arith) (omega arith)).takes bytes a.0 fits a.1 in
    subst (λ (y : Which × List ℕ). Read limit Any bytes y) {x = (limit_of a.0.0, a.0.1)} (ok_is (limit_of a.0.0, a.0.1) x a.2)
    (record { takes = record { parts = m.takes.parts ∙ ap (λ (l : List ℕ). l ++ a.0.1) (limit_back a.0.0 m.fits.high); rest_fits = m.takes.rest_fits }; fits = tt })

limit_again : (x : Which) (rest : List ℕ) → Unit {0} → limit_at (limit x ++ rest) ≡ Ok (x, rest)
unfolding limit_at
limit_again which.Tests rest fits = rw (four 0 rest (omega arith)) refl
limit_again which.Bytes rest fits = rw (four 1 rest (omega arith)) refl
limit_again which.Entries rest fits = rw (four 2 rest (omega arith)) refl
limit_again which.History rest fits = rw (four 3 rest (omega arith)) refl

limit_first : (bytes : List ℕ) (left : ℕ) → limit_at bytes ≡ Err left → length bytes ≡ left
unfolding limit_at
limit_first bytes left e = elim (bind_err (number_within w8 0 3 bytes) (λ n. Ok (limit_of n.0, n.1)) left e) [
  | inl h ↦ within_first w8 0 3 bytes left h
  | inr h ↦ absurd (no_fault (limit_of h.0.0, h.0.1) left h.2)
]

limit_early : IsEarly limit_at
unfolding limit_at
limit_early = then_early (number_within w8 0 3) (within_early w8 (omega arith) 0 3) (λ n. (limit_of n.0, n.1))

pub limit_field : IsField limit_at limit Any
limit_field = record { takes = limit_takes; again = limit_again; begun = λ bytes left fits e. at_front (record { value = which.Tests; fits = tt }) (limit_first bytes left e); example = record { value = which.Tests; fits = tt }; early = limit_early }
