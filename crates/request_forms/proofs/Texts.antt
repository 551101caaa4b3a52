-- Texts and paths.
use Rattle.std.proofs.Common.{◌≡◌, ℕ, zero, suc, ◌+◌, ◌-◌, ◌<◌, ◌≤◌, Bool, true, false, cond, ltb, leb, List, [], ◌∷◌, ◌++◌, length, take, drop, Option, Some, None, Ok, Err, refl, sym, ap, subst, ◌∙◌, append_assoc, arith, inl, inr}
use Rattle.std.specs.List.{position, position_or_len}
use Rattle.std.specs.Int.{w8}
use Rattle.std.specs.Prelude.{◌||◌, replicate}
use Rattle.std.proofs.lemmas.Bool.{ltb-true, ltb-false, leb-false, le-ltb, lt-leb, lt-ltb}
use Rattle.std.proofs.lemmas.List.{take_at, drop_at, take-append-drop, append-nil, length-append, length-drop, length-replicate, length-take}
use Rattle.request_forms.specs.Laws.{AreBytes}
use Rattle.request_forms.specs.Limits.{AreFrom, IsPath, IsText}
use Rattle.request_forms.specs.Spelled.{one_byte, text}
use Rattle.request_forms.specs.Reading.{number_within, is_bad, unless_bad, chars_at, text_at, path}
use Rattle.record_codec.proofs.Texts.{no_bad, good_none}
use Rattle.request_forms.proofs.Readers.{IsBytes-drop, bind_ok, bind_err, refused_or, not_refused, ok_is, Takes, Takes-then, Read, Begun, IsMet, IsField, Whole, IsForm, at_front, behind_front, begun_low, bind_early, wide8, within_first, within_field}
use Rattle.request_forms.proofs.Early.{IsEarly, take_front, refused_by}

abbrev IsGood : ℕ → ℕ → Type 0
IsGood low byte = (low ≤ byte) × (byte < 127)

neither : (a b : Bool) → (a || b) ≡ false → (a ≡ false) × (b ≡ false)
neither true b e = absurd cc
neither false b e = (refl, e)

good : (low byte : ℕ) → is_bad low byte ≡ false → IsGood low byte
good low byte e = let n = neither (ltb byte low) (leb 127 byte) e in (ltb-false _ _ n.0, leb-false _ _ n.1)

pub not_bad : (low byte : ℕ) → IsGood low byte → is_bad low byte ≡ false
not_bad low byte h =
    let l : ltb byte low ≡ false = le-ltb _ _ h.0 in
    let m : leb 127 byte ≡ false = lt-leb _ _ h.1 in
    rw (l, m) refl

unless_ok : {A : Type 0} (bad : Option ℕ) (bytes : List ℕ) (x y : A) → unless_bad bad bytes x ≡ Ok y → (bad ≡ None) × (x ≡ y)
unless_ok None bytes x y e = (refl, ok_is x y e)
unless_ok (Some bad) bytes x y e = absurd cc

-- ---- texts

abbrev itself : List ℕ → List ℕ
itself bytes = bytes

path_takes : (bytes x : List ℕ) → AreBytes bytes → path bytes ≡ Ok x → Whole itself IsPath bytes x
path_takes bytes x fits e =
    let u = unless_ok (position (is_bad 32) bytes) bytes bytes x e in
    record { parts = u.1; fits = subst IsPath u.1 (no_bad 32 bytes u.0) }

unless_err : {A : Type 0} (bad : Option ℕ) (bytes : List ℕ) (x : A) (left : ℕ) → unless_bad bad bytes x ≡ Err left → (k : ℕ) × (bad ≡ Some k) × (length bytes - k ≡ left)
unless_err None bytes x left e = absurd cc
unless_err (Some k) bytes x left e = (k, refl, cc)

some_is : (b : Bool) (n k : ℕ) → cond b (Some n) None ≡ Some k → (b ≡ true) × (n ≡ k)
some_is true n k e = (refl, cc)
some_is false n k e = absurd cc

one_longer : (low k byte : ℕ) (bytes : List ℕ) → AreFrom low (byte ∷ take k bytes) → AreFrom low (take (1 + k) (byte ∷ bytes))
one_longer low k byte bytes h = let e : 1 + k ≡ suc k = omega arith in rw e h

-- the bytes before the first that is bad are good
before_bad : (low : ℕ) (bytes : List ℕ) → AreFrom low (take (position_or_len (is_bad low) bytes) bytes)
before_bad low [] = tt
before_bad low (byte ∷ bytes) =
    let by : (b : Bool) → is_bad low byte ≡ b → AreFrom low (take (position_or_len (is_bad low) (byte ∷ bytes)) (byte ∷ bytes)) = λ b. elim b as (λ v. is_bad low byte ≡ v → AreFrom low (take (position_or_len (is_bad low) (byte ∷ bytes)) (byte ∷ bytes))) [
      | true ↦ λ e. rw e tt
      | false ↦ λ e. rw e (one_longer low (position_or_len (is_bad low) bytes) byte bytes (good low byte e, before_bad low bytes))
    ] in by (is_bad low byte) refl

-- where the first bad byte is
record IsFirstBad (low : ℕ) (bytes : List ℕ) (k : ℕ) : Type 0 where
  at : position_or_len (is_bad low) bytes ≡ k
  within : k < length bytes
  before : AreFrom low (take k bytes)

first_bad : (low : ℕ) (bytes : List ℕ) (k : ℕ) → position (is_bad low) bytes ≡ Some k → IsFirstBad low bytes k
first_bad low bytes k e =
    let found = some_is (ltb (position_or_len (is_bad low) bytes) (length bytes)) (position_or_len (is_bad low) bytes) k e in
    let within : position_or_len (is_bad low) bytes < length bytes = ltb-true _ _ found.0 in
    record { at = found.1; within = omega (arith, found.1); before = subst (λ (n : ℕ). AreFrom low (take n bytes)) found.1 (before_bad low bytes) }

path_begun : (bytes : List ℕ) (left : ℕ) → path bytes ≡ Err left → Begun itself IsPath bytes left
path_begun bytes left e =
    let u = unless_err (position (is_bad 32) bytes) bytes bytes left e in
    let first = first_bad 32 bytes u.0 u.1 in
    record { front = take u.0 bytes; behind = drop u.0 bytes; parts = sym (take-append-drop u.0 bytes); long = length-drop u.0 bytes ∙ u.2; value = take u.0 bytes; fits = first.before; more = []; starts = sym (append-nil (take u.0 bytes)) }

pub position_is : (low : ℕ) (bytes : List ℕ) (k : ℕ) → position_or_len (is_bad low) bytes ≡ k → k < length bytes → position (is_bad low) bytes ≡ Some k
position_is low bytes k at lt =
    let within : ltb (position_or_len (is_bad low) bytes) (length bytes) ≡ true = lt-ltb _ _ (omega (arith, at, lt)) in
    ap (λ (b : Bool). cond b (Some (position_or_len (is_bad low) bytes)) None) within ∙ ap Some at

-- the first bad byte stands where it stands, whatever is behind it
bad_same : (low : ℕ) (front more other : List ℕ) (k : ℕ) → position_or_len (is_bad low) (front ++ more) ≡ k → k < length front → position_or_len (is_bad low) (front ++ other) ≡ k
bad_same low [] more other k e lt = absurd (omega arith)
bad_same low (byte ∷ front) more other k e lt =
    let by : (b : Bool) → is_bad low byte ≡ b → position_or_len (is_bad low) ((byte ∷ front) ++ other) ≡ k = λ b. elim b as (λ v. is_bad low byte ≡ v → position_or_len (is_bad low) ((byte ∷ front) ++ other) ≡ k) [
      | true ↦ λ t. rw t (rw t at e)
      | false ↦ λ t. let f = rw t at e in rw t (omega (arith, f, bad_same low front more other (k - 1) (omega (arith, f)) (omega (arith, f, lt))))
    ] in by (is_bad low byte) refl

path_early : IsEarly path
path_early front more other l fits e big =
    let u = unless_err (position (is_bad 32) (front ++ more)) (front ++ more) (front ++ more) (l + length more) e in
    let first = first_bad 32 (front ++ more) u.0 u.1 in
    let size : length front ≡ u.0 + l = omega (arith, u.2, length-append front more, first.within) in
    let found : position (is_bad 32) (front ++ other) ≡ Some u.0 = position_is 32 (front ++ other) u.0 (bad_same 32 front more other u.0 first.at (omega (arith, size, big))) (omega (arith, size, big, length-append front other)) in
    let left : length (front ++ other) - u.0 ≡ l + length other = omega (arith, size, length-append front other) in
    rw found (ap Err left)

pub path_form : IsForm path itself IsPath
path_form = record { takes = path_takes; again = λ x fits. rw (good_none 32 x fits) refl; begun = λ bytes left fits e. path_begun bytes left e; example = record { value = []; fits = tt }; early = path_early }

text_takes : (least low : ℕ) → least ≤ 255 → (bytes : List ℕ) (x : List ℕ × List ℕ) → AreBytes bytes → text_at least low bytes ≡ Ok x → Read text (IsText least low) bytes x
unfolding text_at chars_at
text_takes least low le bytes x fits e =
    let b = bind_ok (number_within w8 least 255 bytes) (λ n. chars_at low n.0 n.1) x e in
    let n = b.0 in
    let t = (within_field wide8 (omega arith) least 255 (omega arith) le).takes bytes n fits b.1 in
    let g = not_refused (ltb (length n.1) n.0) (length n.1) (unless_bad (position (is_bad low) (take n.0 n.1)) n.1 (take n.0 n.1, drop n.0 n.1)) x b.2 in
    let u = unless_ok (position (is_bad low) (take n.0 n.1)) n.1 (take n.0 n.1, drop n.0 n.1) x g.1 in
    let long : n.0 ≤ length n.1 = ltb-false _ _ g.0 in
    let len : length (take n.0 n.1) ≡ n.0 = omega (arith, length-take n.0 n.1) in
    let second : Takes n.1 (take n.0 n.1) (drop n.0 n.1) = record { parts = sym (take-append-drop n.0 n.1); rest_fits = IsBytes-drop n.0 n.1 t.takes.rest_fits } in
    let whole : Takes bytes (text (take n.0 n.1)) (drop n.0 n.1) = subst (λ (k : ℕ). Takes bytes (one_byte k ++ take n.0 n.1) (drop n.0 n.1)) (sym len) (Takes-then t.takes second) in
    let within : IsText least low (take n.0 n.1) = record { some = omega (arith, t.fits.low); short = omega (arith, t.fits.high); fit = no_bad low (take n.0 n.1) u.0 } in
    subst (λ (y : List ℕ × List ℕ). Read text (IsText least low) bytes y) {x = (take n.0 n.1, drop n.0 n.1)} u.1 (record { takes = whole; fits = within })

text_again : (least low : ℕ) → least ≤ 255 → (x rest : List ℕ) → IsText least low x → text_at least low (text x ++ rest) ≡ Ok (x, rest)
unfolding text_at chars_at
text_again least low le x rest within =
    let long : ltb (length (x ++ rest)) (length x) ≡ false = le-ltb _ _ (omega (arith, length-append x rest)) in
    rw ((within_field wide8 (omega arith) least 255 (omega arith) le).again (length x) (x ++ rest) (record { low = within.some; high = omega (arith, within.short) }), long, take_at x rest (length x) refl, good_none low x within.fit, drop_at x rest (length x) refl) refl

all_low : (low n : ℕ) → low < 127 → AreFrom low (replicate n low)
all_low low zero lt = tt
all_low low (suc n) lt = ((omega arith, lt), all_low low n lt)

from_both : (low : ℕ) (front more : List ℕ) → AreFrom low front → AreFrom low more → AreFrom low (front ++ more)
from_both low [] more a b = b
from_both low (byte ∷ front) more a b = (a.0, from_both low front more a.1 b)

-- so many bytes, all good
record AreChars (low count : ℕ) (bytes : List ℕ) : Type 0 where
  long : length bytes ≡ count
  fit : AreFrom low bytes

chars_begun : (low count : ℕ) → low < 127 → (bytes : List ℕ) (left : ℕ) → chars_at low count bytes ≡ Err left → Begun itself (AreChars low count) bytes left
unfolding chars_at
chars_begun low count lt bytes left e = elim (refused_or (ltb (length bytes) count) (length bytes) left (unless_bad (position (is_bad low) (take count bytes)) bytes (take count bytes, drop count bytes)) e) [
  | inl h ↦ at_front (record { value = replicate count low; fits = record { long = length-replicate count low; fit = all_low low count lt } }) h
  | inr h ↦
      let u = unless_err (position (is_bad low) (take count bytes)) bytes (take count bytes, drop count bytes) left h in
      let first = first_bad low (take count bytes) u.0 u.1 in
      let front : List ℕ = take u.0 (take count bytes) in
      let behind : List ℕ = drop u.0 (take count bytes) ++ drop count bytes in
      let more : List ℕ = replicate (count - u.0) low in
      let inner : front ++ drop u.0 (take count bytes) ≡ take count bytes = take-append-drop u.0 (take count bytes) in
      let whole : front ++ behind ≡ bytes = sym (append_assoc front (drop u.0 (take count bytes)) (drop count bytes)) ∙ ap (λ (l : List ℕ). l ++ drop count bytes) inner ∙ take-append-drop count bytes in
      let short : length (take count bytes) ≤ count = omega (arith, length-take count bytes) in
      let size : length front ≡ u.0 = omega (arith, length-take u.0 (take count bytes), first.within) in
      record {
        front = front;
        behind = behind;
        parts = sym whole;
        long = omega (arith, ap length whole, length-append front behind, size, u.2);
        value = front ++ more;
        fits = record { long = omega (arith, length-append front more, size, length-replicate (count - u.0) low, first.within, short); fit = from_both low front more first.before (all_low low (count - u.0) lt) };
        more = more;
        starts = refl;
      }
]

some_text : (least low : ℕ) → least ≤ 255 → low < 127 → IsMet (IsText least low)
some_text least low le ok = record { value = replicate least low; fits = record { some = omega (arith, length-replicate least low); short = omega (arith, length-replicate least low); fit = all_low low least ok } }

text_begun : (least low : ℕ) → least ≤ 255 → low < 127 → (bytes : List ℕ) (left : ℕ) → AreBytes bytes → text_at least low bytes ≡ Err left → Begun text (IsText least low) bytes left
unfolding text_at
text_begun least low le ok bytes left fits e = elim (bind_err (number_within w8 least 255 bytes) (λ n. chars_at low n.0 n.1) left e) [
  | inl h ↦ at_front (some_text least low le ok) (within_first w8 least 255 bytes left h)
  | inr h ↦
      let m = (within_field wide8 (omega arith) least 255 (omega arith) le).takes bytes h.0 fits h.1 in
      behind_front (one_byte h.0.0) bytes (λ x. x) m.takes.parts
      (λ x fit. (ap (λ (n : ℕ). one_byte n ++ x) fit.long, record { some = omega (arith, fit.long, m.fits.low); short = omega (arith, fit.long, m.fits.high); fit = fit.fit }))
      (chars_begun low h.0.0 ok h.0.1 left h.2)
]

chars_early : (low count : ℕ) → count < 256 → IsEarly (chars_at low count)
unfolding chars_at
chars_early low count small front more other l fits e big =
    elim (refused_by (ltb (length (front ++ more)) count) (length (front ++ more)) (l + length more) (unless_bad (position (is_bad low) (take count (front ++ more))) (front ++ more) (take count (front ++ more), drop count (front ++ more))) e) [
      | inl h ↦ absurd (omega (arith, ltb-true _ _ h.0, h.1, small, big))
      | inr h ↦
          let u = unless_err (position (is_bad low) (take count (front ++ more))) (front ++ more) (take count (front ++ more), drop count (front ++ more)) (l + length more) h.1 in
          let first = first_bad low (take count (front ++ more)) u.0 u.1 in
          let size : length front ≡ u.0 + l = omega (arith, u.2, length-append front more, first.within, length-take count (front ++ more), big) in
          let same : take count (front ++ other) ≡ take count (front ++ more) = take_front count front other (omega (arith, size, big, small)) ∙ sym (take_front count front more (omega (arith, size, big, small))) in
          let found : position (is_bad low) (take count (front ++ other)) ≡ Some u.0 = ap (position (is_bad low)) same ∙ u.1 in
          let long : ltb (length (front ++ other)) count ≡ false = le-ltb _ _ (omega (arith, size, big, small, length-append front other)) in
          let left : length (front ++ other) - u.0 ≡ l + length other = omega (arith, size, length-append front other) in
          rw (long, found) (ap Err left)
    ]

text_early : (least low : ℕ) → least ≤ 255 → low < 127 → IsEarly (text_at least low)
unfolding text_at
text_early least low le ok =
    let f = within_field wide8 (omega arith) least 255 (omega arith) le in
    bind_early f.takes f.again f.early (λ n. chars_at low n.0 n.1) (record {
      low = λ x rest left fx fits e. begun_low (chars_begun low x ok rest left e);
      early = λ x fx. chars_early low x (omega (arith, fx.high));
    })

pub text_field : (least low : ℕ) → least ≤ 255 → low < 127 → IsField (text_at least low) text (IsText least low)
text_field least low le ok = record { takes = text_takes least low le; again = text_again least low le; begun = text_begun least low le ok; example = some_text least low le ok; early = text_early least low le ok }
