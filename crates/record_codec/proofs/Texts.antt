-- Texts behind their length.
use Rattle.std.proofs.Common.{◌≡◌, ℕ, ◌^◌, ◌<◌, ◌≤◌, Bool, true, false, cond, ltb, leb, List, [], ◌∷◌, ◌++◌, length, take, drop, Option, Some, None, Ok, Err, refl, sym, ap, subst, arith}
use Rattle.std.specs.List.{AllByRecursion, position, position_or_len}
use Rattle.std.specs.Int.{w16, to_be_bytes}
use Rattle.std.specs.Prelude.{◌||◌}
use Rattle.std.proofs.lemmas.Bool.{ltb-false, leb-false, le-ltb, lt-leb}
use Rattle.std.proofs.lemmas.List.{take_at, drop_at, take-append-drop, length-append, length-take}
use Rattle.record_codec.specs.declared.fault.Fault.TheVariants.{Short}
use Rattle.record_codec.specs.Limits.{IsText}
use Rattle.record_codec.specs.Bytes.{text}
use Rattle.record_codec.specs.Reading.{number_within, is_bad, unless_bad, text_at}
use Rattle.record_codec.proofs.Readers.{IsBytes, IsBytes-drop, bind_ok, not_refused, ok_is, Takes, Takes-then, Read, IsField}
use Rattle.record_codec.proofs.Numbers.{wide16, within_field}

abbrev IsGood : ℕ → ℕ → Type 0
IsGood low byte = (low ≤ byte) × (byte < 127)

neither : (a b : Bool) → (a || b) ≡ false → (a ≡ false) × (b ≡ false)
neither true b e = absurd cc
neither false b e = (refl, e)

good : (low byte : ℕ) → is_bad low byte ≡ false → IsGood low byte
good low byte e = let n = neither (ltb byte low) (leb 127 byte) e in (ltb-false _ _ n.0, leb-false _ _ n.1)

not_bad : (low byte : ℕ) → IsGood low byte → is_bad low byte ≡ false
not_bad low byte h =
    let l : ltb byte low ≡ false = le-ltb _ _ h.0 in
    let m : leb 127 byte ≡ false = lt-leb _ _ h.1 in
    rw (l, m) refl

-- the first byte that is bad comes at the end only where all are good
all_good : (low : ℕ) (bytes : List ℕ) → length bytes ≤ position_or_len (is_bad low) bytes → AllByRecursion (IsGood low) bytes
all_good low [] le = tt
all_good low (byte ∷ bytes) le =
    let by : (b : Bool) → is_bad low byte ≡ b → AllByRecursion (IsGood low) (byte ∷ bytes) = λ b. elim b as (λ v. is_bad low byte ≡ v → AllByRecursion (IsGood low) (byte ∷ bytes)) [
      | true ↦ λ e. absurd (omega (arith, rw e at le))
      | false ↦ λ e. (good low byte e, all_good low bytes (omega (arith, rw e at le)))
    ] in by (is_bad low byte) refl

none_first : (low : ℕ) (bytes : List ℕ) → AllByRecursion (IsGood low) bytes → position_or_len (is_bad low) bytes ≡ length bytes
none_first low [] h = refl
none_first low (byte ∷ bytes) h = rw (not_bad low byte h.0) (omega (arith, none_first low bytes h.1))

none_is : (b : Bool) (n : ℕ) → cond b (Some n) None ≡ None → b ≡ false
none_is true n e = absurd cc
none_is false n e = refl

pub no_bad : (low : ℕ) (bytes : List ℕ) → position (is_bad low) bytes ≡ None → AllByRecursion (IsGood low) bytes
no_bad low bytes e = all_good low bytes (ltb-false _ _ (none_is _ _ e))

pub good_none : (low : ℕ) (bytes : List ℕ) → AllByRecursion (IsGood low) bytes → position (is_bad low) bytes ≡ None
good_none low bytes h =
    let past : ltb (position_or_len (is_bad low) bytes) (length bytes) ≡ false = le-ltb _ _ (omega (arith, none_first low bytes h)) in
    ap (λ (b : Bool). cond b (Some (position_or_len (is_bad low) bytes)) None) past

pub unless_ok : (bad : Option ℕ) (count : ℕ) (bytes : List ℕ) (x : List ℕ × List ℕ) → unless_bad bad count bytes ≡ Ok x → (bad ≡ None) × ((take count bytes, drop count bytes) ≡ x)
unless_ok None count bytes x e = (refl, ok_is _ _ e)
unless_ok (Some bad) count bytes x e = absurd cc

text_takes : (least most low : ℕ) → most < 2 ^ 16 → (bytes : List ℕ) (x : List ℕ × List ℕ) → IsBytes bytes → text_at least most low bytes ≡ Ok x → Read text (IsText least most low) bytes x
unfolding text_at
text_takes least most low le bytes x fits e =
    let b = bind_ok (number_within w16 least most bytes) (λ n. cond (ltb (length n.1) n.0) (Err (Short (length bytes))) (unless_bad (position (is_bad low) (take n.0 n.1)) n.0 n.1)) x e in
    let n = b.0 in
    let t = (within_field wide16 least most le).takes bytes n fits b.1 in
    let g = not_refused (ltb (length n.1) n.0) (Short (length bytes)) (unless_bad (position (is_bad low) (take n.0 n.1)) n.0 n.1) x b.2 in
    let u = unless_ok (position (is_bad low) (take n.0 n.1)) n.0 n.1 x g.1 in
    let long : n.0 ≤ length n.1 = ltb-false _ _ g.0 in
    let len : length (take n.0 n.1) ≡ n.0 = omega (arith, length-take n.0 n.1) in
    let second : Takes n.1 (take n.0 n.1) (drop n.0 n.1) = record { parts = sym (take-append-drop n.0 n.1); rest_fits = IsBytes-drop n.0 n.1 t.takes.rest_fits } in
    let whole : Takes bytes (text (take n.0 n.1)) (drop n.0 n.1) = subst (λ (k : ℕ). Takes bytes (to_be_bytes w16 k ++ take n.0 n.1) (drop n.0 n.1)) (sym len) (Takes-then t.takes second) in
    let within : IsText least most low (take n.0 n.1) = record { long_enough = omega (arith, t.fits.low); short_enough = omega (arith, t.fits.high); bytes = no_bad low (take n.0 n.1) u.0 } in
    subst (λ (y : List ℕ × List ℕ). Read text (IsText least most low) bytes y) u.1 (record { takes = whole; fits = within })

text_again : (least most low : ℕ) → most < 2 ^ 16 → (x rest : List ℕ) → IsText least most low x → text_at least most low (text x ++ rest) ≡ Ok (x, rest)
unfolding text_at
text_again least most low le x rest within =
    let long : ltb (length (x ++ rest)) (length x) ≡ false = le-ltb _ _ (omega (arith, length-append x rest)) in
    rw ((within_field wide16 least most le).again (length x) (x ++ rest) (record { low = within.long_enough; high = omega (arith, within.short_enough) }), long, take_at x rest (length x) refl, good_none low x within.bytes, take_at x rest (length x) refl, drop_at x rest (length x) refl) refl

pub text_field : (least most low : ℕ) → most < 2 ^ 16 → IsField (text_at least most low) text (IsText least most low)
text_field least most low le = record { takes = text_takes least most low le; again = text_again least most low le }
