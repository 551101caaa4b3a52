-- What a reader owes: what it reads is spelled so and within its limits, what is spelled so is read, and what stands before a fault
-- begins the spelling of some value.
use Rattle.std.proofs.Common.{◌≡◌, ◌⊎◌, ℕ, ◌+◌, ◌^◌, ◌<◌, ◌≤◌, eqb, ltb, leb, Bool, true, false, cond, List, [], ◌++◌, length, take, drop, Result, Ok, Err, refl, sym, ap, subst, ◌∙◌, append_assoc, arith, inl, inr, length-append}
use mathlib.Core.Bool.{◌&&◌}
use Rattle.std.specs.Prelude.{replicate}
use Rattle.std.specs.Int.{Width, w32, w64, byte_len, from_be_bytes, to_be_bytes}
use Rattle.std.proofs.lemmas.Bool.{eqb-true, ltb-false, ltb-true, leb-true, le-ltb, le-leb, ne_eqb}
use Rattle.std.proofs.lemmas.List.{append-nil, nil_from_length, take_at, drop_at, take-append-drop, length-take}
use Rattle.request_forms.specs.Reading.{◌>>=◌, Reader, Form, number_at, number_within, digest_at, ended, nothing, only, before, pair, any_bytes}
use Rattle.record_codec.specs.Reading.{AreBytes}
use Rattle.request_forms.proofs.Early.{IsEarly, all_left, take_front, parted, refused_by, passed_by}
pub use Rattle.record_codec.proofs.Readers.{IsBytes-drop, IsBytes-take, Takes, Takes-then, Read}
pub use Rattle.record_codec.proofs.Numbers.{IsWide, wide8, wide32, wide64, IsWithin, both}

-- the value of a step that did not fail
pub bind_ok : {A B : Type 0} (r : Result A ℕ) (f : A → Result B ℕ) (y : B) → (r >>= f) ≡ Ok y → (x : A) × (r ≡ Ok x) × (f x ≡ Ok y)
bind_ok (Ok x) f y e = (x, refl, e)
bind_ok (Err d) f y e = absurd cc

-- a test that did not refuse
pub not_refused : {A : Type 0} (b : Bool) (d : ℕ) (r : Result A ℕ) (y : A) → cond b (Err d) r ≡ Ok y → (b ≡ false) × (r ≡ Ok y)
not_refused true d r y e = absurd cc
not_refused false d r y e = (refl, e)

pub let_pass : {A : Type 0} (b : Bool) (d : ℕ) (r : Result A ℕ) (y : A) → cond b r (Err d) ≡ Ok y → (b ≡ true) × (r ≡ Ok y)
let_pass true d r y e = (refl, e)
let_pass false d r y e = absurd cc

abbrev done : {A : Type 0} → A → Result A ℕ
done x = Ok x

abbrev pub failed : {A : Type 0} → ℕ → Result A ℕ
failed d = Err d

pub ok_is : {A : Type 0} (x y : A) → done x ≡ done y → x ≡ y
ok_is x y e = cc

-- a fault where so many bytes are left: those before it begin the spelling of a value within its limits
pub record Begun {A : Type 0} (spelled : A → List ℕ) (Fits : A → Type 0) (bytes : List ℕ) (left : ℕ) : Type 0 where
  pub front : List ℕ
  pub behind : List ℕ
  pub parts : bytes ≡ front ++ behind
  pub long : length behind ≡ left
  pub value : A
  pub fits : Fits value
  pub more : List ℕ
  pub starts : spelled value ≡ front ++ more

-- a value within its limits
pub record IsMet {A : Type 0} (Fits : A → Type 0) : Type 0 where
  pub value : A
  pub fits : Fits value

pub record IsField {A : Type 0} (read : Reader A) (spelled : A → List ℕ) (Fits : A → Type 0) : Type 0 where
  pub takes : (bytes : List ℕ) (x : A × List ℕ) → AreBytes bytes → read bytes ≡ Ok x → Read spelled Fits bytes x
  pub again : (x : A) (rest : List ℕ) → Fits x → read (spelled x ++ rest) ≡ Ok (x, rest)
  pub begun : (bytes : List ℕ) (left : ℕ) → AreBytes bytes → read bytes ≡ Err left → Begun spelled Fits bytes left
  pub example : IsMet Fits
  pub early : IsEarly read

-- what is all of the bytes
pub record Whole {A : Type 0} (spelled : A → List ℕ) (Fits : A → Type 0) (bytes : List ℕ) (x : A) : Type 0 where
  pub parts : bytes ≡ spelled x
  pub fits : Fits x

pub record IsForm {A : Type 0} (form : Form A) (spelled : A → List ℕ) (Fits : A → Type 0) : Type 0 where
  pub takes : (bytes : List ℕ) (x : A) → AreBytes bytes → form bytes ≡ Ok x → Whole spelled Fits bytes x
  pub again : (x : A) → Fits x → form (spelled x) ≡ Ok x
  pub begun : (bytes : List ℕ) (left : ℕ) → AreBytes bytes → form bytes ≡ Err left → Begun spelled Fits bytes left
  pub example : IsMet Fits
  pub early : IsEarly form

-- ---- faults

-- a step that failed, or the next one
pub bind_err : {A B : Type 0} (r : Result A ℕ) (f : A → Result B ℕ) (left : ℕ) → (r >>= f) ≡ Err left → (r ≡ Err left) ⊎ ((x : A) × (r ≡ Ok x) × (f x ≡ Err left))
bind_err (Ok x) f left e = inr (x, refl, e)
bind_err (Err d) f left e = let same : d ≡ left = cc in inl (ap Err same)

-- a test that refused, or what follows it
pub refused_or : {A : Type 0} (b : Bool) (d left : ℕ) (r : Result A ℕ) → cond b (Err d) r ≡ Err left → (d ≡ left) ⊎ (r ≡ Err left)
refused_or true d left r e = inl cc
refused_or false d left r e = inr e

pub passed_or : {A : Type 0} (b : Bool) (d left : ℕ) (r : Result A ℕ) → cond b r (Err d) ≡ Err left → (d ≡ left) ⊎ (r ≡ Err left)
passed_or true d left r e = inr e
passed_or false d left r e = inl cc

pub no_value : {A : Type 0} (d : ℕ) (x : A) → failed d ≡ Ok x → ⊥
no_value d x e = cc

pub fault_is : {A : Type 0} (d left : ℕ) → failed {A = A} d ≡ Err left → d ≡ left
fault_is d left e = cc

pub no_fault : {A : Type 0} (x : A) (left : ℕ) → done x ≡ Err left → ⊥
no_fault x left e = cc

-- a fault at the first byte: any value begins there
pub at_front : {A : Type 0} {s : A → List ℕ} {F : A → Type 0} {bytes : List ℕ} {left : ℕ} → IsMet F → length bytes ≡ left → Begun s F bytes left
at_front {s = s} {bytes = bytes} m long = record { front = []; behind = bytes; parts = refl; long = long; value = m.value; fits = m.fits; more = s m.value; starts = refl }

-- behind a front that spells nothing else
pub behind_front : {A B : Type 0} {s : A → List ℕ} {F : A → Type 0} {t : B → List ℕ} {G : B → Type 0} {rest : List ℕ} {left : ℕ} (text bytes : List ℕ) (make : A → B) → bytes ≡ text ++ rest
    → ((x : A) → F x → (t (make x) ≡ text ++ s x) × G (make x)) → Begun s F rest left → Begun t G bytes left
behind_front text bytes make parts there b =
    let h = there b.value b.fits in
    record {
      front = text ++ b.front;
      behind = b.behind;
      parts = parts ∙ ap (λ (l : List ℕ). text ++ l) b.parts ∙ sym (append_assoc text b.front b.behind);
      long = b.long;
      value = make b.value;
      fits = h.1;
      more = b.more;
      starts = h.0 ∙ ap (λ (l : List ℕ). text ++ l) b.starts ∙ sym (append_assoc text b.front b.more);
    }

-- the same front, of what is made of the value and has more behind
pub before_more : {A B : Type 0} {s : A → List ℕ} {F : A → Type 0} {t : B → List ℕ} {G : B → Type 0} {bytes : List ℕ} {left : ℕ} (more : List ℕ) (make : A → B)
    → ((x : A) → F x → (t (make x) ≡ s x ++ more) × G (make x)) → Begun s F bytes left → Begun t G bytes left
before_more more make there b =
    let h = there b.value b.fits in
    record {
      front = b.front;
      behind = b.behind;
      parts = b.parts;
      long = b.long;
      value = make b.value;
      fits = h.1;
      more = b.more ++ more;
      starts = h.0 ∙ ap (λ (l : List ℕ). l ++ more) b.starts ∙ append_assoc b.front b.more more;
    }

-- ---- what decides a fault

pub begun_low : {A : Type 0} {s : A → List ℕ} {F : A → Type 0} {bytes : List ℕ} {left : ℕ} → Begun s F bytes left → left ≤ length bytes
begun_low b = omega (arith, ap length b.parts, length-append b.front b.behind, b.long)

-- what follows a field
pub record Follows {A B : Type 0} (F : A → Type 0) (next : A × List ℕ → Result B ℕ) : Type 0 where
  pub low : (x : A) (rest : List ℕ) (left : ℕ) → F x → AreBytes rest → next (x, rest) ≡ Err left → left ≤ length rest
  pub early : (x : A) → F x → IsEarly (λ rest. next (x, rest))

pub bind_early : {A B : Type 0} {read : Reader A} {s : A → List ℕ} {F : A → Type 0} → ((bytes : List ℕ) (x : A × List ℕ) → AreBytes bytes → read bytes ≡ Ok x → Read s F bytes x)
    → ((x : A) (rest : List ℕ) → F x → read (s x ++ rest) ≡ Ok (x, rest)) → IsEarly read → (next : A × List ℕ → Result B ℕ) → Follows F next → IsEarly (λ bytes. read bytes >>= next)
bind_early {read = read} {s = s} takes again early next follows front more other l fits e big = elim (bind_err (read (front ++ more)) next (l + length more) e) [
  | inl h ↦ ap (λ r. r >>= next) (early front more other l fits h big)
  | inr h ↦
      let m = takes (front ++ more) h.0 fits h.1 in
      let low : l + length more ≤ length h.0.1 = follows.low h.0.0 h.0.1 (l + length more) m.fits m.takes.rest_fits h.2 in
      let p = parted front more (s h.0.0) h.0.1 m.takes.parts (omega (arith, low)) in
      let fit : AreBytes (p.mid ++ more) = subst AreBytes p.rest_is m.takes.rest_fits in
      let fails : next (h.0.0, p.mid ++ more) ≡ Err (l + length more) = subst (λ (rest : List ℕ). next (h.0.0, rest) ≡ Err (l + length more)) p.rest_is h.2 in
      let found : read (front ++ other) ≡ Ok (h.0.0, p.mid ++ other) = ap (λ (f : List ℕ). read (f ++ other)) p.front_is ∙ ap read (append_assoc (s h.0.0) p.mid other) ∙ again h.0.0 (p.mid ++ other) m.fits in
      ap (λ r. r >>= next) found ∙ follows.early h.0.0 m.fits p.mid more other l fit fails big
]

pub then_early : {B C : Type 0} (read : List ℕ → Result B ℕ) → IsEarly read → (g : B → C) → IsEarly (λ bytes. read bytes >>= (λ y. done (g y)))
then_early read early g front more other l fits e big = elim (bind_err (read (front ++ more)) (λ y. done (g y)) (l + length more) e) [
  | inl h ↦ ap (λ r. r >>= (λ y. done (g y))) (early front more other l fits h big)
  | inr h ↦ absurd (no_fault (g h.0) (l + length more) h.2)
]

pub then_low : {B C : Type 0} (read : List ℕ → Result B ℕ) → ((bytes : List ℕ) (left : ℕ) → AreBytes bytes → read bytes ≡ Err left → left ≤ length bytes) → (g : B → C) (bytes : List ℕ) (left : ℕ) → AreBytes bytes
    → (read bytes >>= (λ y. done (g y))) ≡ Err left → left ≤ length bytes
then_low read low g bytes left fits e = elim (bind_err (read bytes) (λ y. done (g y)) left e) [
  | inl h ↦ low bytes left fits h
  | inr h ↦ absurd (no_fault (g h.0) left h.2)
]

-- ---- numbers

above_zero : {w : Width} {spelled : ℕ → List ℕ} {limit : ℕ} → IsWide w spelled limit → 0 < limit
above_zero {w = w} {limit = limit} wide = let lt : from_be_bytes w [] < limit = wide.below [] (λ i. omega arith) in omega (arith, lt)

number_takes : {w : Width} {spelled : ℕ → List ℕ} {limit : ℕ} → IsWide w spelled limit → (bytes : List ℕ) (x : ℕ × List ℕ) → AreBytes bytes → number_at w bytes ≡ Ok x → Read spelled (λ n. n < limit) bytes x
number_takes {w = w} {spelled = spelled} {limit = limit} wide bytes x fits e =
    let front : List ℕ = take (byte_len w) bytes in
    let g = not_refused (ltb (length bytes) (byte_len w)) (length bytes) (Ok (from_be_bytes w front, drop (byte_len w) bytes)) x e in
    let long : byte_len w ≤ length bytes = ltb-false _ _ g.0 in
    let same : spelled (from_be_bytes w front) ≡ front = wide.back front (omega (arith, length-take (byte_len w) bytes)) (IsBytes-take (byte_len w) bytes fits) in
    let found : Read spelled (λ n. n < limit) bytes (from_be_bytes w front, drop (byte_len w) bytes) = record {
      takes = record { parts = rw same (sym (take-append-drop (byte_len w) bytes)); rest_fits = IsBytes-drop (byte_len w) bytes fits };
      fits = wide.below front (IsBytes-take (byte_len w) bytes fits);
    } in
    subst (λ (y : ℕ × List ℕ). Read spelled (λ n. n < limit) bytes y) (ok_is _ _ g.1) found

number_again : {w : Width} {spelled : ℕ → List ℕ} {limit : ℕ} → IsWide w spelled limit → (n : ℕ) (rest : List ℕ) → n < limit → number_at w (spelled n ++ rest) ≡ Ok (n, rest)
number_again {w = w} {spelled = spelled} wide n rest lt =
    let len = wide.len n in
    let long : ltb (length (spelled n ++ rest)) (byte_len w) ≡ false = le-ltb _ _ (omega (arith, length-append (spelled n) rest)) in
    rw (long, take_at (spelled n) rest (byte_len w) len, drop_at (spelled n) rest (byte_len w) len, wide.again n lt) refl

-- a number that fails does so at its first byte
pub number_cut : (w : Width) (bytes : List ℕ) (left : ℕ) → number_at w bytes ≡ Err left → length bytes ≡ left
number_cut w bytes left e = elim (refused_or (ltb (length bytes) (byte_len w)) (length bytes) left (done (from_be_bytes w (take (byte_len w) bytes), drop (byte_len w) bytes)) e) [
  | inl h ↦ h
  | inr h ↦ absurd (no_fault (from_be_bytes w (take (byte_len w) bytes), drop (byte_len w) bytes) left h)
]

number_early : (w : Width) → byte_len w ≤ 8 → IsEarly (number_at w)
number_early w few front more other l fits e big =
    let bytes : List ℕ = front ++ more in
    elim (refused_by (ltb (length bytes) (byte_len w)) (length bytes) (l + length more) (done (from_be_bytes w (take (byte_len w) bytes), drop (byte_len w) bytes)) e) [
      | inl h ↦ absurd (omega (arith, ltb-true _ _ h.0, h.1, few, big))
      | inr h ↦ absurd (no_fault (from_be_bytes w (take (byte_len w) bytes), drop (byte_len w) bytes) (l + length more) h.1)
    ]

pub number_field : {w : Width} {spelled : ℕ → List ℕ} {limit : ℕ} → IsWide w spelled limit → byte_len w ≤ 8 → IsField (number_at w) spelled (λ n. n < limit)
number_field {w = w} wide few = record { takes = number_takes wide; again = number_again wide; begun = λ bytes left fits e. at_front (record { value = 0; fits = above_zero wide }) (number_cut w bytes left e); example = record { value = 0; fits = above_zero wide }; early = number_early w few }

within_takes : {w : Width} {spelled : ℕ → List ℕ} {limit : ℕ} → IsWide w spelled limit → (least most : ℕ) (bytes : List ℕ) (x : ℕ × List ℕ) → AreBytes bytes → number_within w least most bytes ≡ Ok x → Read spelled (IsWithin least most) bytes x
unfolding number_within
within_takes {w = w} {spelled = spelled} wide least most bytes x fits e =
    let b = bind_ok (number_at w bytes) _ x e in
    let g = let_pass (leb least b.0.0 && leb b.0.0 most) (length bytes) (Ok b.0) x b.2 in
    let t = both _ _ g.0 in
    let found = number_takes wide bytes b.0 fits b.1 in
    subst (λ (y : ℕ × List ℕ). Read spelled (IsWithin least most) bytes y) (ok_is _ _ g.1) (record { takes = found.takes; fits = record { low = leb-true _ _ t.0; high = leb-true _ _ t.1 } })

within_again : {w : Width} {spelled : ℕ → List ℕ} {limit : ℕ} → IsWide w spelled limit → (least most : ℕ) → most < limit → (n : ℕ) (rest : List ℕ) → IsWithin least most n → number_within w least most (spelled n ++ rest) ≡ Ok (n, rest)
unfolding number_within
within_again wide least most lt n rest within =
    let low : leb least n ≡ true = le-leb _ _ within.low in
    let high : leb n most ≡ true = le-leb _ _ within.high in
    rw (number_again wide n rest (omega (arith, within.high)), low, high) refl

pub within_first : (w : Width) (least most : ℕ) (bytes : List ℕ) (left : ℕ) → number_within w least most bytes ≡ Err left → length bytes ≡ left
unfolding number_within
within_first w least most bytes left e = elim (bind_err (number_at w bytes) _ left e) [
  | inl h ↦ number_cut w bytes left h
  | inr h ↦ elim (passed_or (leb least h.0.0 && leb h.0.0 most) (length bytes) left (done h.0) h.2) [
    | inl k ↦ k
    | inr k ↦ absurd (no_fault h.0 left k)
  ]
]

number_value : (w : Width) (bytes : List ℕ) (x : ℕ × List ℕ) → number_at w bytes ≡ Ok x → from_be_bytes w (take (byte_len w) bytes) ≡ x.0
number_value w bytes x e =
    let g = not_refused (ltb (length bytes) (byte_len w)) (length bytes) (Ok (from_be_bytes w (take (byte_len w) bytes), drop (byte_len w) bytes)) x e in
    ap (λ (y : ℕ × List ℕ). y.0) (ok_is (from_be_bytes w (take (byte_len w) bytes), drop (byte_len w) bytes) x g.1)

number_is : (w : Width) (bytes : List ℕ) → byte_len w ≤ length bytes → number_at w bytes ≡ Ok (from_be_bytes w (take (byte_len w) bytes), drop (byte_len w) bytes)
number_is w bytes le = let long : ltb (length bytes) (byte_len w) ≡ false = le-ltb _ _ le in rw long refl

pub within_early : (w : Width) → byte_len w ≤ 8 → (least most : ℕ) → IsEarly (number_within w least most)
unfolding number_within
within_early w few least most front more other l fits e big = elim (bind_err (number_at w (front ++ more)) _ (l + length more) e) [
  | inl h ↦ rw (number_early w few front more other l fits h big) refl
  | inr h ↦ elim (passed_by (leb least h.0.0 && leb h.0.0 most) (length (front ++ more)) (l + length more) (done h.0) h.2) [
    | inl k ↦
        let a = all_left front more other l k.1 in
        let le : byte_len w ≤ length front = omega (arith, a.0, few, big) in
        let value : from_be_bytes w (take (byte_len w) (front ++ other)) ≡ h.0.0 = ap (from_be_bytes w) (take_front (byte_len w) front other le ∙ sym (take_front (byte_len w) front more le)) ∙ number_value w (front ++ more) h.0 h.1 in
        let test : (leb least (from_be_bytes w (take (byte_len w) (front ++ other))) && leb (from_be_bytes w (take (byte_len w) (front ++ other))) most) ≡ false = ap (λ (n : ℕ). leb least n && leb n most) value ∙ k.0 in
        let found = number_is w (front ++ other) (omega (arith, le, length-append front other)) in
        rw (found, test) (ap Err a.1)
    | inr k ↦ absurd (no_fault h.0 (l + length more) k.1)
  ]
]

pub within_field : {w : Width} {spelled : ℕ → List ℕ} {limit : ℕ} → IsWide w spelled limit → byte_len w ≤ 8 → (least most : ℕ) → most < limit → least ≤ most → IsField (number_within w least most) spelled (IsWithin least most)
within_field {w = w} wide few least most lt le =
    let met : IsMet (IsWithin least most) = record { value = least; fits = record { low = omega arith; high = le } } in
    record { takes = within_takes wide least most; again = within_again wide least most lt; begun = λ bytes left fits e. at_front met (within_first w least most bytes left e); example = met; early = within_early w few least most }

pub number32 : IsField (number_at w32) (to_be_bytes w32) (λ n. n < 2 ^ 32)
number32 = number_field wide32 (omega arith)

pub number64 : IsField (number_at w64) (to_be_bytes w64) (λ n. n < 2 ^ 64)
number64 = number_field wide64 (omega arith)

-- ---- digests

abbrev itself : List ℕ → List ℕ
itself bytes = bytes

digest_takes : (bytes : List ℕ) (x : List ℕ × List ℕ) → AreBytes bytes → digest_at bytes ≡ Ok x → Read itself (λ d. length d ≡ 32) bytes x
digest_takes bytes x fits e =
    let g = not_refused (ltb (length bytes) 32) (length bytes) (Ok (take 32 bytes, drop 32 bytes)) x e in
    let long : 32 ≤ length bytes = ltb-false _ _ g.0 in
    let found : Read itself (λ d. length d ≡ 32) bytes (take 32 bytes, drop 32 bytes) = record {
      takes = record { parts = sym (take-append-drop 32 bytes); rest_fits = IsBytes-drop 32 bytes fits };
      fits = omega (arith, length-take 32 bytes);
    } in
    subst (λ (y : List ℕ × List ℕ). Read itself (λ d. length d ≡ 32) bytes y) (ok_is _ _ g.1) found

digest_again : (x rest : List ℕ) → length x ≡ 32 → digest_at (x ++ rest) ≡ Ok (x, rest)
digest_again x rest len =
    let long : ltb (length (x ++ rest)) 32 ≡ false = le-ltb _ _ (omega (arith, length-append x rest)) in
    rw (long, take_at x rest 32 len, drop_at x rest 32 len) refl

digest_cut : (bytes : List ℕ) (left : ℕ) → digest_at bytes ≡ Err left → length bytes ≡ left
digest_cut bytes left e = elim (refused_or (ltb (length bytes) 32) (length bytes) left (done (take 32 bytes, drop 32 bytes)) e) [
  | inl h ↦ h
  | inr h ↦ absurd (no_fault (take 32 bytes, drop 32 bytes) left h)
]

digest_early : IsEarly digest_at
digest_early front more other l fits e big =
    let bytes : List ℕ = front ++ more in
    elim (refused_by (ltb (length bytes) 32) (length bytes) (l + length more) (done (take 32 bytes, drop 32 bytes)) e) [
      | inl h ↦ absurd (omega (arith, ltb-true _ _ h.0, h.1, big))
      | inr h ↦ absurd (no_fault (take 32 bytes, drop 32 bytes) (l + length more) h.1)
    ]

pub digest_field : IsField digest_at itself (λ d. length d ≡ 32)
digest_field =
    let met : IsMet (λ (d : List ℕ). length d ≡ 32) = record { value = replicate 32 0; fits = refl } in
    record { takes = digest_takes; again = digest_again; begun = λ bytes left fits e. at_front met (digest_cut bytes left e); example = met; early = digest_early }

-- ---- fields one after the other

pub pair_field : {A B : Type 0} {first : Reader A} {second : Reader B} {s : A → List ℕ} {t : B → List ℕ} {F : A → Type 0} {G : B → Type 0}
    → IsField first s F → IsField second t G → IsField (pair first second) (λ x. s x.0 ++ t x.1) (λ x. F x.0 × G x.1)
pair_field {A = A} {B = B} {first = first} {second = second} {s = s} {t = t} {F = F} {G = G} f g = record { takes = takes; again = again; begun = begun; example = record { value = (f.example.value, g.example.value); fits = (f.example.fits, g.example.fits) }; early = bind_early f.takes f.again f.early (λ x. second x.1 >>= (λ y. Ok ((x.0, y.0), y.1))) follows }
  where
    takes : (bytes : List ℕ) (x : (A × B) × List ℕ) → AreBytes bytes → pair first second bytes ≡ Ok x → Read (λ x. s x.0 ++ t x.1) (λ x. F x.0 × G x.1) bytes x
    takes bytes x fits e =
        let a = bind_ok (first bytes) _ x e in
        let b = bind_ok (second a.0.1) _ x a.2 in
        let m = f.takes bytes a.0 fits a.1 in
        let n = g.takes a.0.1 b.0 m.takes.rest_fits b.1 in
        subst (λ (y : (A × B) × List ℕ). Read (λ x. s x.0 ++ t x.1) (λ x. F x.0 × G x.1) bytes y) (ok_is ((a.0.0, b.0.0), b.0.1) x b.2) (record { takes = Takes-then m.takes n.takes; fits = (m.fits, n.fits) })

    again : (x : A × B) (rest : List ℕ) → F x.0 × G x.1 → pair first second ((s x.0 ++ t x.1) ++ rest) ≡ Ok (x, rest)
    again x rest fits = rw (append_assoc (s x.0) (t x.1) rest, f.again x.0 (t x.1 ++ rest) fits.0, g.again x.1 rest fits.1) refl

    begun : (bytes : List ℕ) (left : ℕ) → AreBytes bytes → pair first second bytes ≡ Err left → Begun (λ (x : A × B). s x.0 ++ t x.1) (λ x. F x.0 × G x.1) bytes left
    begun bytes left fits e = elim (bind_err (first bytes) _ left e) [
      | inl h ↦ before_more (t g.example.value) (λ x. (x, g.example.value)) (λ x fit. (refl, (fit, g.example.fits))) (f.begun bytes left fits h)
      | inr h ↦
          let m = f.takes bytes h.0 fits h.1 in
          elim (bind_err (second h.0.1) _ left h.2) [
            | inl k ↦ behind_front (s h.0.0) bytes (λ y. (h.0.0, y)) m.takes.parts (λ y fit. (refl, (m.fits, fit))) (g.begun h.0.1 left m.takes.rest_fits k)
            | inr k ↦ absurd (no_fault ((h.0.0, k.0.0), k.0.1) left k.2)
          ]
    ]

    follows : Follows {B = (A × B) × List ℕ} F (λ x. second x.1 >>= (λ y. done ((x.0, y.0), y.1)))
    follows = record {
      low = λ x rest left fx fits e. then_low second (λ bytes left fits e. begun_low (g.begun bytes left fits e)) (λ y. ((x, y.0), y.1)) rest left fits e;
      early = λ x fx. then_early second g.early (λ y. ((x, y.0), y.1));
    }

-- ---- all of the bytes

nothing_left : (rest : List ℕ) (b : Bool) → eqb (length rest) 0 ≡ b → b ≡ true → rest ≡ []
nothing_left rest b e t = nil_from_length rest (eqb-true _ _ (e ∙ t))

-- a byte too many
pub too_many : {A : Type 0} (x : A) (rest : List ℕ) (left : ℕ) → ended x rest ≡ Err left → length rest ≡ left
too_many x rest left e = elim (passed_or (eqb (length rest) 0) (length rest) left (done x) e) [
  | inl h ↦ h
  | inr h ↦ absurd (no_fault x left h)
]

pub ended_early : {A : Type 0} (x : A) → IsEarly (ended x)
ended_early x front more other l fits e big =
    let a = all_left front more other l (too_many x (front ++ more) (l + length more) e) in
    let some : eqb (length (front ++ other)) 0 ≡ false = ne_eqb (length (front ++ other)) 0 (λ z. absurd (omega (arith, z, a.1, big))) in
    rw some (ap Err a.1)

pub nothing_form : IsForm nothing (λ x. []) (λ x. Unit {0})
nothing_form =
    let met : IsMet (λ (x : Unit {0}). Unit {0}) = record { value = tt; fits = tt } in
    record {
      takes = λ bytes x fits e. record { parts = nothing_left bytes _ refl (let_pass (eqb (length bytes) 0) (length bytes) (Ok tt) x e).0; fits = tt };
      again = λ x fits. refl;
      begun = λ bytes left fits e. at_front met (too_many tt bytes left e);
      example = met;
      early = ended_early tt;
    }

pub only_form : {A : Type 0} {read : Reader A} {s : A → List ℕ} {F : A → Type 0} → IsField read s F → IsForm (only read) s F
only_form {A = A} {read = read} {s = s} {F = F} f = record { takes = takes; again = again; begun = begun; example = f.example; early = bind_early f.takes f.again f.early (λ x. ended x.0 x.1) follows }
  where
    takes : (bytes : List ℕ) (x : A) → AreBytes bytes → only read bytes ≡ Ok x → Whole s F bytes x
    takes bytes x fits e =
        let a = bind_ok (read bytes) _ x e in
        let m = f.takes bytes a.0 fits a.1 in
        let g = let_pass (eqb (length a.0.1) 0) (length a.0.1) (Ok a.0.0) x a.2 in
        let nil : a.0.1 ≡ [] = nothing_left a.0.1 _ refl g.0 in
        subst (λ (y : A). Whole s F bytes y) (ok_is a.0.0 x g.1) (record { parts = m.takes.parts ∙ ap (λ (l : List ℕ). s a.0.0 ++ l) nil ∙ append-nil (s a.0.0); fits = m.fits })

    again : (x : A) → F x → only read (s x) ≡ Ok x
    again x fits = rw (← append-nil (s x), f.again x [] fits) refl

    begun : (bytes : List ℕ) (left : ℕ) → AreBytes bytes → only read bytes ≡ Err left → Begun s F bytes left
    begun bytes left fits e = elim (bind_err (read bytes) _ left e) [
      | inl h ↦ f.begun bytes left fits h
      | inr h ↦
          let m = f.takes bytes h.0 fits h.1 in
          record { front = s h.0.0; behind = h.0.1; parts = m.takes.parts; long = too_many h.0.0 h.0.1 left h.2; value = h.0.0; fits = m.fits; more = []; starts = sym (append-nil (s h.0.0)) }
    ]

    follows : Follows {B = A} F (λ x. ended x.0 x.1)
    follows = record { low = λ x rest left fx fits e. let h = too_many x rest left e in omega (arith, h); early = λ x fx. ended_early x }

pub before_form : {A B : Type 0} {read : Reader A} {form : Form B} {s : A → List ℕ} {t : B → List ℕ} {F : A → Type 0} {G : B → Type 0}
    → IsField read s F → IsForm form t G → IsForm (before read form) (λ x. s x.0 ++ t x.1) (λ x. F x.0 × G x.1)
before_form {A = A} {B = B} {read = read} {form = form} {s = s} {t = t} {F = F} {G = G} f g = record { takes = takes; again = again; begun = begun; example = record { value = (f.example.value, g.example.value); fits = (f.example.fits, g.example.fits) }; early = bind_early f.takes f.again f.early (λ x. form x.1 >>= (λ y. Ok (x.0, y))) follows }
  where
    takes : (bytes : List ℕ) (x : A × B) → AreBytes bytes → before read form bytes ≡ Ok x → Whole (λ x. s x.0 ++ t x.1) (λ x. F x.0 × G x.1) bytes x
    takes bytes x fits e =
        let a = bind_ok (read bytes) _ x e in
        let m = f.takes bytes a.0 fits a.1 in
        let b = bind_ok (form a.0.1) _ x a.2 in
        let n = g.takes a.0.1 b.0 m.takes.rest_fits b.1 in
        subst (λ (y : A × B). Whole (λ x. s x.0 ++ t x.1) (λ x. F x.0 × G x.1) bytes y) (ok_is (a.0.0, b.0) x b.2) (record { parts = m.takes.parts ∙ ap (λ (l : List ℕ). s a.0.0 ++ l) n.parts; fits = (m.fits, n.fits) })

    again : (x : A × B) → F x.0 × G x.1 → before read form (s x.0 ++ t x.1) ≡ Ok x
    again x fits = rw (f.again x.0 (t x.1) fits.0, g.again x.1 fits.1) refl

    begun : (bytes : List ℕ) (left : ℕ) → AreBytes bytes → before read form bytes ≡ Err left → Begun (λ (x : A × B). s x.0 ++ t x.1) (λ x. F x.0 × G x.1) bytes left
    begun bytes left fits e = elim (bind_err (read bytes) _ left e) [
      | inl h ↦ before_more (t g.example.value) (λ x. (x, g.example.value)) (λ x fit. (refl, (fit, g.example.fits))) (f.begun bytes left fits h)
      | inr h ↦
          let m = f.takes bytes h.0 fits h.1 in
          elim (bind_err (form h.0.1) _ left h.2) [
            | inl k ↦ behind_front (s h.0.0) bytes (λ y. (h.0.0, y)) m.takes.parts (λ y fit. (refl, (m.fits, fit))) (g.begun h.0.1 left m.takes.rest_fits k)
            | inr k ↦ absurd (no_fault (h.0.0, k.0) left k.2)
          ]
    ]

    follows : Follows {B = A × B} F (λ x. form x.1 >>= (λ y. done (x.0, y)))
    follows = record {
      low = λ x rest left fx fits e. then_low form (λ bytes left fits e. begun_low (g.begun bytes left fits e)) (λ y. (x, y)) rest left fits e;
      early = λ x fx. then_early form g.early (λ y. (x, y));
    }

pub bytes_form : IsForm any_bytes itself (λ x. Unit {0})
bytes_form = record {
  takes = λ bytes x fits e. record { parts = ok_is bytes x e; fits = tt };
  again = λ x fits. refl;
  begun = λ bytes left fits e. absurd (no_fault bytes left e);
  example = record { value = []; fits = tt };
  early = λ front more other l fits e big. absurd (no_fault (front ++ more) (l + length more) e);
}
