-- Numbers of one, two, four and eight bytes.
use Rattle.std.proofs.Common.{◌≡◌, ℕ, ◌^◌, ◌<◌, ◌≤◌, Bool, true, false, ltb, leb, List, [], ◌∷◌, ◌++◌, length, take, drop, Ok, refl, sym, ap, subst, arith}
use mathlib.Core.Bool.{◌&&◌}
use Rattle.std.specs.Int.{Width, w8, w16, w32, w64, byte_len, from_be_bytes, to_be_bytes}
use Rattle.std.proofs.lemmas.Bool.{ltb-false, leb-true, le-ltb, le-leb}
use Rattle.std.proofs.lemmas.List.{take_at, drop_at, take-append-drop, length-append, length-take}
use Rattle.std.proofs.lemmas.Nat.{be_bytes_2, be_bytes_4, be_bytes_8, from_be_bytes-to_be_bytes_2, from_be_bytes-to_be_bytes_4, from_be_bytes-to_be_bytes_8}
use Rattle.record_codec.specs.declared.fault.Fault.TheVariants.{Short, BadField}
use Rattle.record_codec.specs.Reading.{number_at, number_within}
use Rattle.record_codec.proofs.Readers.{IsBytes, IsBytes-drop, IsBytes-take, bind_ok, not_refused, let_pass, ok_is, Read, IsField}

-- numbers of this width, each below the limit, are spelled so
pub record IsWide (w : Width) (spelled : ℕ → List ℕ) (limit : ℕ) : Type 0 where
  pub len : (n : ℕ) → length (spelled n) ≡ byte_len w
  pub back : (bytes : List ℕ) → length bytes ≡ byte_len w → IsBytes bytes → spelled (from_be_bytes w bytes) ≡ bytes
  pub again : (n : ℕ) → n < limit → from_be_bytes w (spelled n) ≡ n
  pub below : (bytes : List ℕ) → IsBytes bytes → from_be_bytes w bytes < limit

abbrev pub one_byte : ℕ → List ℕ
one_byte n = n ∷ []

one_byte_back : (bytes : List ℕ) → length bytes ≡ 1 → one_byte (from_be_bytes w8 bytes) ≡ bytes
one_byte_back [] e = absurd (omega arith)
one_byte_back (b ∷ []) e = ap one_byte (omega arith)
one_byte_back (b ∷ d ∷ bytes) e = absurd (omega arith)

pub wide8 : IsWide w8 one_byte (2 ^ 8)
wide8 = record {
  len = λ n. refl;
  back = λ bytes len fits. one_byte_back bytes len;
  again = λ n lt. omega arith;
  below = λ bytes fits. omega (arith, fits 0);
}

pub wide16 : IsWide w16 (to_be_bytes w16) (2 ^ 16)
wide16 = record {
  len = λ n. refl;
  back = λ bytes len fits. be_bytes_2 bytes _ len fits refl;
  again = λ n lt. from_be_bytes-to_be_bytes_2 n lt;
  below = λ bytes fits. omega (arith, fits 0, fits 1);
}

pub wide32 : IsWide w32 (to_be_bytes w32) (2 ^ 32)
wide32 = record {
  len = λ n. refl;
  back = λ bytes len fits. be_bytes_4 bytes _ len fits refl;
  again = λ n lt. from_be_bytes-to_be_bytes_4 n lt;
  below = λ bytes fits. omega (arith, fits 0, fits 1, fits 2, fits 3);
}

pub wide64 : IsWide w64 (to_be_bytes w64) (2 ^ 64)
wide64 = record {
  len = λ n. refl;
  back = λ bytes len fits. be_bytes_8 bytes _ len fits refl;
  again = λ n lt. from_be_bytes-to_be_bytes_8 n lt;
  below = λ bytes fits. omega (arith, fits 0, fits 1, fits 2, fits 3, fits 4, fits 5, fits 6, fits 7);
}

number_takes : {w : Width} {spelled : ℕ → List ℕ} {limit : ℕ} → IsWide w spelled limit → (bytes : List ℕ) (x : ℕ × List ℕ) → IsBytes bytes → number_at w bytes ≡ Ok x → Read spelled (λ n. n < limit) bytes x
number_takes {w = w} {spelled = spelled} {limit = limit} wide bytes x fits e =
    let front : List ℕ = take (byte_len w) bytes in
    let g = not_refused (ltb (length bytes) (byte_len w)) (Short (length bytes)) (Ok (from_be_bytes w front, drop (byte_len w) bytes)) x e in
    let long : byte_len w ≤ length bytes = ltb-false _ _ g.0 in
    let same : spelled (from_be_bytes w front) ≡ front = wide.back front (omega (arith, length-take (byte_len w) bytes)) (IsBytes-take (byte_len w) bytes fits) in
    let found : Read spelled (λ n. n < limit) bytes (from_be_bytes w front, drop (byte_len w) bytes) = record {
      takes = record { parts = rw same (sym (take-append-drop (byte_len w) bytes)); rest_fits = IsBytes-drop (byte_len w) bytes fits };
      fits = wide.below front (IsBytes-take (byte_len w) bytes fits);
    } in
    subst (λ (y : ℕ × List ℕ). Read spelled (λ n. n < limit) bytes y) (ok_is _ _ g.1) found

number_again : {w : Width} {spelled : ℕ → List ℕ} {limit : ℕ} → IsWide w spelled limit → (n : ℕ) (rest : List ℕ) → n < limit → number_at w (spelled n ++ rest) ≡ Ok (n, rest)
number_again {w = w} {spelled = spelled} wide n rest lt =
    let len = wide.len n in
    let long : ltb (length (spelled n ++ rest)) (byte_len w) ≡ false = le-ltb _ _ (omega (arith, length-append (spelled n) rest)) in
    rw (long, take_at (spelled n) rest (byte_len w) len, drop_at (spelled n) rest (byte_len w) len, wide.again n lt) refl

pub number_field : {w : Width} {spelled : ℕ → List ℕ} {limit : ℕ} → IsWide w spelled limit → IsField (number_at w) spelled (λ n. n < limit)
number_field wide = record { takes = number_takes wide; again = number_again wide }

-- from least to most, both included
pub record IsWithin (least most n : ℕ) : Type 0 where
  pub low : least ≤ n
  pub high : n ≤ most

pub both : (a b : Bool) → (a && b) ≡ true → (a ≡ true) × (b ≡ true)
both true b e = (refl, e)
both false b e = absurd cc

within_takes : {w : Width} {spelled : ℕ → List ℕ} {limit : ℕ} → IsWide w spelled limit → (least most : ℕ) (bytes : List ℕ) (x : ℕ × List ℕ) → IsBytes bytes → number_within w least most bytes ≡ Ok x → Read spelled (IsWithin least most) bytes x
unfolding number_within
within_takes {w = w} {spelled = spelled} wide least most bytes x fits e =
    let b = bind_ok (number_at w bytes) _ x e in
    let g = let_pass (leb least b.0.0 && leb b.0.0 most) (BadField (length bytes)) (Ok b.0) x b.2 in
    let t = both _ _ g.0 in
    let found = number_takes wide bytes b.0 fits b.1 in
    subst (λ (y : ℕ × List ℕ). Read spelled (IsWithin least most) bytes y) (ok_is _ _ g.1) (record { takes = found.takes; fits = record { low = leb-true _ _ t.0; high = leb-true _ _ t.1 } })

within_again : {w : Width} {spelled : ℕ → List ℕ} {limit : ℕ} → IsWide w spelled limit → (least most : ℕ) → most < limit → (n : ℕ) (rest : List ℕ) → IsWithin least most n → number_within w least most (spelled n ++ rest) ≡ Ok (n, rest)
unfolding number_within
within_again wide least most lt n rest within =
    let low : leb least n ≡ true = le-leb _ _ within.low in
    let high : leb n most ≡ true = le-leb _ _ within.high in
    rw (number_again wide n rest (omega (arith, within.high)), low, high) refl

pub within_field : {w : Width} {spelled : ℕ → List ℕ} {limit : ℕ} → IsWide w spelled limit → (least most : ℕ) → most < limit → IsField (number_within w least most) spelled (IsWithin least most)
within_field wide least most lt = record { takes = within_takes wide least most; again = within_again wide least most lt }
