-- Bytes behind what was read, and faults counted from the front.
use Rattle.std.proofs.Common.{◌≡◌, ℕ, suc, ◌+◌, ◌-◌, ◌≤◌, eqb, ltb, Bool, true, false, cond, List, [], ◌∷◌, ◌++◌, length, take, drop, Some, None, Result, Ok, Err, refl, sym, ap, subst, ◌∙◌, append_assoc, arith, length-append}
use Rattle.std.specs.List.{position, position_or_len}
use Rattle.std.proofs.lemmas.Bool.{lt-ltb, ne_eqb}
use Rattle.std.proofs.lemmas.List.{take-append-drop, length-take, length-drop}
use Rattle.record_codec.specs.Reading.{AreBytes}
use Rattle.request_forms.specs.Limits.{AreFrom, IsPath}
use Rattle.request_forms.specs.Reading.{Reader, Form, is_bad, nothing, only, before, path, made, unknown}
use Rattle.request_forms.specs.Requests.{from_front}
use Rattle.request_forms.proofs.Readers.{IsField, failed, fault_is, then_early}
use Rattle.request_forms.proofs.Early.{IsEarly}
use Rattle.request_forms.proofs.Texts.{not_bad}

-- ---- from the front

pub front_ok : {A : Type 0} (total : ℕ) (read : Result A ℕ) (x : A) → from_front total read ≡ Ok x → read ≡ Ok x
front_ok total (Ok y) x e = e
front_ok total (Err left) x e = absurd cc

pub front_fault : {A : Type 0} (total : ℕ) (read : Result A ℕ) (at : ℕ) → from_front total read ≡ Err at → (left : ℕ) × (read ≡ Err left) × (total - left ≡ at)
front_fault total (Ok y) at e = absurd cc
front_fault total (Err left) at e = (left, refl, cc)

-- a fault at the first of the bytes behind
pub place_behind : {A : Type 0} (front behind : List ℕ) → from_front (length (front ++ behind)) (failed {A = A} (length behind)) ≡ Err (length front)
place_behind front behind = let e : length (front ++ behind) - length behind ≡ length front = omega (arith, length-append front behind) in ap Err e

-- ---- a byte more

some_more : (byte : ℕ) (more : List ℕ) → eqb (length (byte ∷ more)) 0 ≡ false
some_more byte more = ne_eqb (length (byte ∷ more)) 0 (λ e. absurd (omega (arith, e)))

pub only_more : {A : Type 0} {read : Reader A} {s : A → List ℕ} {F : A → Type 0} → IsField read s F → (x : A) (byte : ℕ) (more : List ℕ) → F x → only read (s x ++ byte ∷ more) ≡ Err (length (byte ∷ more))
only_more f x byte more fits = rw (f.again x (byte ∷ more) fits, some_more byte more) refl

pub nothing_more : (byte : ℕ) (more : List ℕ) → nothing (byte ∷ more) ≡ Err (length (byte ∷ more))
nothing_more byte more = rw (some_more byte more) refl

-- the first bad byte stands behind those that are good
bad_place : (low : ℕ) (front : List ℕ) (byte : ℕ) (more : List ℕ) → AreFrom low front → is_bad low byte ≡ true → position_or_len (is_bad low) (front ++ byte ∷ more) ≡ length front
bad_place low [] byte more fit e = rw e refl
bad_place low (first ∷ front) byte more fit e = rw (not_bad low first fit.0) (omega (arith, bad_place low front byte more fit.1 e))

pub path_more : (p : List ℕ) (byte : ℕ) (more : List ℕ) → IsPath p → is_bad 32 byte ≡ true → path (p ++ byte ∷ more) ≡ Err (length (byte ∷ more))
path_more p byte more fit e =
    let at : position_or_len (is_bad 32) (p ++ byte ∷ more) ≡ length p = bad_place 32 p byte more fit e in
    let within : ltb (position_or_len (is_bad 32) (p ++ byte ∷ more)) (length (p ++ byte ∷ more)) ≡ true = lt-ltb _ _ (omega (arith, at, length-append p (byte ∷ more))) in
    let found : position (is_bad 32) (p ++ byte ∷ more) ≡ Some (length p) = ap (λ (b : Bool). cond b (Some (position_or_len (is_bad 32) (p ++ byte ∷ more))) None) within ∙ ap Some at in
    let left : length (p ++ byte ∷ more) - length p ≡ length (byte ∷ more) = omega (arith, length-append p (byte ∷ more)) in
    rw found (ap Err left)

pub before_bad : {A B : Type 0} {read : Reader A} {s : A → List ℕ} {F : A → Type 0} → IsField read s F → (form : Form B) (t : B → List ℕ) (x : A × B) (byte : ℕ) (more : List ℕ) → F x.0
    → form (t x.1 ++ byte ∷ more) ≡ Err (length (byte ∷ more)) → before read form ((s x.0 ++ t x.1) ++ byte ∷ more) ≡ Err (length (byte ∷ more))
before_bad {s = s} f form t x byte more fits e = rw (append_assoc (s x.0) (t x.1) (byte ∷ more), f.again x.0 (t x.1 ++ byte ∷ more) fits, e) refl

-- ---- what is made of these

pub made_more : {A C : Type 0} (form : Form A) (make : A → C) (bytes : List ℕ) (left : ℕ) → form bytes ≡ Err left → made make form bytes ≡ Err left
made_more form make bytes left e = rw e refl

pub only_made : {A C : Type 0} {read : Reader A} {s : A → List ℕ} {F : A → Type 0} → IsField read s F → (make : A → C) (x : A) (byte : ℕ) (more : List ℕ) → F x → made make (only read) (s x ++ byte ∷ more) ≡ Err (length (byte ∷ more))
only_made {read = read} {s = s} f make x byte more fits = made_more (only read) make (s x ++ byte ∷ more) (length (byte ∷ more)) (only_more f x byte more fits)

pub nothing_made : {C : Type 0} (made_of : C) (byte : ℕ) (more : List ℕ) → made (λ x. made_of) nothing (byte ∷ more) ≡ Err (length (byte ∷ more))
nothing_made made_of byte more = made_more nothing (λ x. made_of) (byte ∷ more) (length (byte ∷ more)) (nothing_more byte more)

pub path_made : {C : Type 0} (make : List ℕ → C) (p : List ℕ) (byte : ℕ) (more : List ℕ) → IsPath p → is_bad 32 byte ≡ true → made make path (p ++ byte ∷ more) ≡ Err (length (byte ∷ more))
path_made make p byte more fit e = made_more path make (p ++ byte ∷ more) (length (byte ∷ more)) (path_more p byte more fit e)

pub before_made : {A B C : Type 0} {read : Reader A} {s : A → List ℕ} {F : A → Type 0} → IsField read s F → (form : Form B) (t : B → List ℕ) (make : A × B → C) (x : A × B) (byte : ℕ) (more : List ℕ) → F x.0
    → form (t x.1 ++ byte ∷ more) ≡ Err (length (byte ∷ more)) → made make (before read form) ((s x.0 ++ t x.1) ++ byte ∷ more) ≡ Err (length (byte ∷ more))
before_made {read = read} {s = s} f form t make x byte more fits e = made_more (before read form) make ((s x.0 ++ t x.1) ++ byte ∷ more) (length (byte ∷ more)) (before_bad f form t x byte more fits e)

-- ---- what decides a fault

pub decided : {A : Type 0} (left_of : Form A) → ((bytes : List ℕ) (left : ℕ) → AreBytes bytes → left_of bytes ≡ Err left → left ≤ length bytes) → IsEarly left_of → (body more : List ℕ) (at : ℕ) → AreBytes body
    → from_front (length body) (left_of body) ≡ Err at → at + 255 ≤ length body → from_front (length (take (at + 255) body ++ more)) (left_of (take (at + 255) body ++ more)) ≡ Err at
decided left_of low early body more at fits e fit =
    let f = front_fault (length body) (left_of body) at e in
    let under : f.0 ≤ length body = low body f.0 fits f.1 in
    let front : List ℕ = take (at + 255) body in
    let behind : List ℕ = drop (at + 255) body in
    let whole : front ++ behind ≡ body = take-append-drop (at + 255) body in
    let left : f.0 ≡ 255 + length behind = omega (arith, under, f.2, fit, length-drop (at + 255) body) in
    let fails : left_of (front ++ behind) ≡ Err (255 + length behind) = ap left_of whole ∙ f.1 ∙ ap Err left in
    let same : left_of (front ++ more) ≡ Err (255 + length more) = early front behind more 255 (subst AreBytes (sym whole) fits) fails (omega arith) in
    let place : length (front ++ more) - (255 + length more) ≡ at = omega (arith, length-append front more, length-take (at + 255) body, fit) in
    ap (from_front (length (front ++ more))) same ∙ ap Err place

pub made_early : {A C : Type 0} (form : Form A) → IsEarly form → (make : A → C) → IsEarly (made make form)
made_early form early make = then_early form early make

pub unknown_early : {A : Type 0} → IsEarly {A = A} unknown
unknown_early {A = A} front more other l fits e big =
    let h : suc (length (front ++ more)) ≡ l + length more = fault_is {A = A} (suc (length (front ++ more))) (l + length more) e in
    let k : suc (length (front ++ other)) ≡ l + length other = omega (arith, h, length-append front more, length-append front other) in
    ap Err k
