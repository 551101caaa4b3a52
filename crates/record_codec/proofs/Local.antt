-- What a reader does with bytes doesn't depend on those behind what it looked at.
use Rattle.std.proofs.Common.{◌≡◌, ℕ, zero, suc, ◌+◌, ◌<◌, ◌≤◌, Bool, true, false, cond, ltb, leb, List, [], ◌∷◌, ◌++◌, length, take, drop, Option, Some, None, Result, Ok, Err, refl, sym, ap, subst, ◌∙◌, append_assoc, arith, length-append}
use Rattle.std.specs.Prelude.{ok_or, option_map}
use Rattle.std.specs.Int.{Width, byte_len, from_be_bytes}
use mathlib.Core.Bool.{◌&&◌}
use Rattle.std.proofs.lemmas.Bool.{ltb-false, le-ltb}
use Rattle.std.proofs.lemmas.List.{take_at, drop_at, take-append-drop, length-take}
use Rattle.record_codec.specs.declared.fault.Fault.{Fault}
use Rattle.record_codec.specs.declared.fault.Fault.TheVariants.{Short, BadMagic, BadVersion, BadField, TooManyEvents, Trailing, Memory}
use Rattle.record_codec.specs.Reading.{◌>>=◌, Reader, number_at, number_within, counted}
use Rattle.record_codec.proofs.Readers.{bind_ok, not_refused, ok_is}

-- the fault, with so many bytes more behind it
abbrev pub moved : ℕ → Fault → Fault
moved n (Short left) = Short (left + n)
moved n BadMagic = BadMagic
moved n (BadVersion version) = BadVersion version
moved n (BadField left) = BadField (left + n)
moved n (TooManyEvents count) = TooManyEvents count
moved n (Trailing left) = Trailing (left + n)
moved n Memory = Memory

-- A fault that more bytes don't mend: its place is within the last 1,026 of these.
abbrev pub IsLasting : ℕ → Fault → Type 0
IsLasting long (Short left) = ⊥
IsLasting long BadMagic = Unit {0}
IsLasting long (BadVersion version) = Unit {0}
IsLasting long (BadField left) = (0 < left) × (left ≤ 1026) × (left ≤ long)
IsLasting long (TooManyEvents count) = Unit {0}
IsLasting long (Trailing left) = (0 < left) × (left ≤ 1026) × (left ≤ long)
IsLasting long Memory = Unit {0}

abbrev pub IsMended : Fault → Type 0
IsMended (Short left) = Unit {0}
IsMended BadMagic = ⊥
IsMended (BadVersion version) = ⊥
IsMended (BadField left) = ⊥
IsMended (TooManyEvents count) = ⊥
IsMended (Trailing left) = ⊥
IsMended Memory = ⊥

lasting_longer : (f : Fault) (long more : ℕ) → IsLasting long f → IsLasting (more + long) f
lasting_longer (Short left) long more h = h
lasting_longer BadMagic long more h = tt
lasting_longer (BadVersion version) long more h = tt
lasting_longer (BadField left) long more h = (h.0, h.1, omega (arith, h.2))
lasting_longer (TooManyEvents count) long more h = tt
lasting_longer (Trailing left) long more h = (h.0, h.1, omega (arith, h.2))
lasting_longer Memory long more h = tt

-- what was read is read whatever stands behind it
pub record Took {A : Type 0} (read : Reader A) (bytes : List ℕ) (x : A × List ℕ) : Type 0 where
  pub front : List ℕ
  pub parts : bytes ≡ front ++ x.1
  pub same : (more : List ℕ) → read (front ++ more) ≡ Ok (x.0, more)

-- what was refused is refused whatever stands behind it
pub record Refused {A : Type 0} (read : Reader A) (bytes : List ℕ) (f : Fault) : Type 0 where
  pub front : List ℕ
  pub behind : List ℕ
  pub parts : bytes ≡ front ++ behind
  pub fault : Fault
  pub is : f ≡ moved (length behind) fault
  pub lasting : IsLasting (length front) fault
  pub same : (more : List ℕ) → read (front ++ more) ≡ Err (moved (length more) fault)

pub record IsLocal {A : Type 0} (read : Reader A) : Type 0 where
  pub took : (bytes : List ℕ) (x : A × List ℕ) → read bytes ≡ Ok x → Took read bytes x
  pub refused : (bytes : List ℕ) (f : Fault) → read bytes ≡ Err f → (IsMended f → ⊥) → Refused read bytes f

-- ---- one after the other

pub data Stops {A B : Type 0} (r : Result A Fault) (f : A → Result B Fault) (d : Fault) : Type 0 where
  first : r ≡ Err d → Stops r f d
  later : (x : A) → r ≡ Ok x → f x ≡ Err d → Stops r f d

pub bind_err : {A B : Type 0} (r : Result A Fault) (f : A → Result B Fault) (d : Fault) → (r >>= f) ≡ Err d → Stops r f d
bind_err {A = A} (Ok x) f d e = later x refl e
bind_err {A = A} (Err c) f d e = let same : c ≡ d = cc in first (ap Err same)

abbrev pub then : {A B : Type 0} → Reader A → (A → Reader B) → Reader B
then read next bytes = read bytes >>= λ x. next x.0 x.1

module _ {A B : Type 0} {read : Reader A} {next : A → Reader B} (one : IsLocal read) (other : (v : A) → IsLocal (next v)) where
  then_same : (front back more : List ℕ) (v : A) → ((rest : List ℕ) → read (front ++ rest) ≡ Ok (v, rest)) → then read next ((front ++ back) ++ more) ≡ next v (back ++ more)
  then_same front back more v same = ap (λ (r : Result (A × List ℕ) Fault). r >>= λ x. next x.0 x.1) (ap read (append_assoc front back more) ∙ same (back ++ more))

  then_took : (bytes : List ℕ) (y : B × List ℕ) → then read next bytes ≡ Ok y → Took (then read next) bytes y
  then_took bytes y e =
      let a = bind_ok (read bytes) _ y e in
      let p = one.took bytes a.0 a.1 in
      let q = (other a.0.0).took a.0.1 y a.2 in
      record {
        front = p.front ++ q.front;
        parts = p.parts ∙ ap (λ (l : List ℕ). p.front ++ l) q.parts ∙ sym (append_assoc p.front q.front y.1);
        same = λ more. then_same p.front q.front more a.0.0 p.same ∙ q.same more;
      }

  then_refused : (bytes : List ℕ) (f : Fault) → then read next bytes ≡ Err f → (IsMended f → ⊥) → Refused (then read next) bytes f
  then_refused bytes f e lasts = elim (bind_err (read bytes) (λ x. next x.0 x.1) f e) [
    | first h ↦
        let p = one.refused bytes f h lasts in
        record {
          front = p.front;
          behind = p.behind;
          parts = p.parts;
          fault = p.fault;
          is = p.is;
          lasting = p.lasting;
          same = λ more. ap (λ (r : Result (A × List ℕ) Fault). r >>= λ x. next x.0 x.1) (p.same more);
        }
    | later x h k ↦
        let p = one.took bytes x h in
        let q = (other x.0).refused x.1 f k lasts in
        record {
          front = p.front ++ q.front;
          behind = q.behind;
          parts = p.parts ∙ ap (λ (l : List ℕ). p.front ++ l) q.parts ∙ sym (append_assoc p.front q.front q.behind);
          fault = q.fault;
          is = q.is;
          lasting = subst (λ (n : ℕ). IsLasting n q.fault) (sym (length-append p.front q.front)) (lasting_longer q.fault (length q.front) (length p.front) q.lasting);
          same = λ more. then_same p.front q.front more x.0 p.same ∙ q.same more;
        }
  ]

  pub then_local : IsLocal (then read next)
  then_local = record { took = then_took; refused = then_refused }

pub pure_local : {A : Type 0} (v : A) → IsLocal (λ (rest : List ℕ). Ok (v, rest))
pure_local v = record {
  took = λ bytes x e.
      let same : (v, bytes) ≡ x = ok_is (v, bytes) x e in
      subst (λ (y : _ × List ℕ). Took (λ (rest : List ℕ). Ok (v, rest)) bytes y) same (record { front = []; parts = refl; same = λ more. refl });
  refused = λ bytes f e lasts. absurd cc;
}

-- a fault without a place
pub fail_local : {A : Type 0} (f : Fault) → IsLasting 0 f → ((n : ℕ) → moved n f ≡ f) → IsLocal {A = A} (λ (rest : List ℕ). Err f)
fail_local f lasting fixed = record {
  took = λ bytes x e. absurd cc;
  refused = λ bytes d e lasts.
      let same : f ≡ d = cc in
      record { front = []; behind = bytes; parts = refl; fault = f; is = sym same ∙ sym (fixed (length bytes)); lasting = lasting; same = λ more. ap Err (sym (fixed (length more))) };
}

pub cond_local : {A : Type 0} (b : Bool) {one other : Reader A} → IsLocal one → IsLocal other → IsLocal (λ (rest : List ℕ). cond b (one rest) (other rest))
cond_local true p q = p
cond_local false p q = q

pub counted_local : {A : Type 0} {read : Reader A} → IsLocal read → (n : ℕ) → IsLocal (counted read n)
unfolding counted
counted_local one zero = pure_local []
counted_local {read = read} one (suc n) = then_local one (λ v. then_local (counted_local one n) (λ others. pure_local (v ∷ others)))

pub local_same : {A : Type 0} {read other : Reader A} → ((bytes : List ℕ) → read bytes ≡ other bytes) → IsLocal read → IsLocal other
local_same same p = subst IsLocal (λ i bytes. same bytes i) p

-- ---- numbers

module _ (w : Width) (some : 0 < byte_len w) (few : byte_len w ≤ 8) where
  -- the first bytes of a number that is there
  enough : (bytes : List ℕ) (x : ℕ × List ℕ) → number_at w bytes ≡ Ok x → (byte_len w ≤ length bytes) × (x ≡ (from_be_bytes w (take (byte_len w) bytes), drop (byte_len w) bytes))
  enough bytes x e =
      let g = not_refused (ltb (length bytes) (byte_len w)) (Short (length bytes)) (Ok (from_be_bytes w (take (byte_len w) bytes), drop (byte_len w) bytes)) x e in
      (ltb-false _ _ g.0, sym (ok_is _ _ g.1))

  number_same : (front more : List ℕ) → length front ≡ byte_len w → number_at w (front ++ more) ≡ Ok (from_be_bytes w front, more)
  number_same front more len =
      let long : ltb (length (front ++ more)) (byte_len w) ≡ false = le-ltb _ _ (omega (arith, length-append front more)) in
      rw (long, take_at front more (byte_len w) len, drop_at front more (byte_len w) len) refl

  number_took : (bytes : List ℕ) (x : ℕ × List ℕ) → number_at w bytes ≡ Ok x → Took (number_at w) bytes x
  number_took bytes x e =
      let h = enough bytes x e in
      let front : List ℕ = take (byte_len w) bytes in
      let len : length front ≡ byte_len w = omega (arith, length-take (byte_len w) bytes, h.0) in
      subst (λ (y : ℕ × List ℕ). Took (number_at w) bytes y) (sym h.1) (record { front = front; parts = sym (take-append-drop (byte_len w) bytes); same = λ more. number_same front more len })

  short_only : (bytes : List ℕ) (f : Fault) → number_at w bytes ≡ Err f → IsMended f
  short_only bytes f e = by_length (ltb (length bytes) (byte_len w)) e
    where
      by_length : (b : Bool) → cond {A = Result (ℕ × List ℕ) Fault} b (Err (Short (length bytes))) (Ok (from_be_bytes w (take (byte_len w) bytes), drop (byte_len w) bytes)) ≡ Err f → IsMended f
      by_length true h = let same : Short (length bytes) ≡ f = cc in subst IsMended same tt
      by_length false h = absurd cc

  pub number_local : IsLocal (number_at w)
  number_local = record { took = number_took; refused = λ bytes f e lasts. absurd (lasts (short_only bytes f e)) }

  -- a number that the rest of the reading may refuse at its first byte
  abbrev pub judged : {B : Type 0} → (ℕ → Option B) → Reader B
  judged {B} judge bytes = number_at w bytes >>= λ n. ok_or (judge n.0) (BadField (length bytes)) >>= λ v. Ok (v, n.1)

  ok_or_err : {B : Type 0} (o : Option B) (d f : Fault) → ok_or o d ≡ Err f → (o ≡ None) × (d ≡ f)
  ok_or_err None d f e = (refl, cc)
  ok_or_err (Some v) d f e = absurd cc

  ok_or_some : {B : Type 0} (o : Option B) (d : Fault) (v : B) → ok_or o d ≡ Ok v → o ≡ Some v
  ok_or_some None d v e = absurd cc
  ok_or_some (Some x) d v e = ap Some (ok_is x v e)

  judged_same : {B : Type 0} (judge : ℕ → Option B) (bytes rest : List ℕ) (n : ℕ) (v : B) → number_at w bytes ≡ Ok (n, rest) → judge n ≡ Some v → judged judge bytes ≡ Ok (v, rest)
  judged_same {B} judge bytes rest n v e h =
      ap (λ (r : Result (ℕ × List ℕ) Fault). r >>= λ n. ok_or (judge n.0) (BadField (length bytes)) >>= λ v. Ok (v, n.1)) e
      ∙ ap (λ (o : Option B). ok_or o (BadField (length bytes)) >>= λ v. Ok (v, rest)) h

  judged_took : {B : Type 0} (judge : ℕ → Option B) (bytes : List ℕ) (y : B × List ℕ) → judged judge bytes ≡ Ok y → Took (judged judge) bytes y
  judged_took {B} judge bytes y e =
      let a = bind_ok (number_at w bytes) _ y e in
      let b = bind_ok (ok_or (judge a.0.0) (BadField (length bytes))) _ y a.2 in
      let p = number_took bytes a.0 a.1 in
      let found : judge a.0.0 ≡ Some b.0 = ok_or_some (judge a.0.0) (BadField (length bytes)) b.0 b.1 in
      subst (λ (z : B × List ℕ). Took (judged judge) bytes z) {x = (b.0, a.0.1)} (ok_is (b.0, a.0.1) y b.2) (record { front = p.front; parts = p.parts; same = λ more. judged_same judge (p.front ++ more) more a.0.0 b.0 (p.same more) found })

  judged_refused : {B : Type 0} (judge : ℕ → Option B) (bytes : List ℕ) (f : Fault) → judged judge bytes ≡ Err f → (IsMended f → ⊥) → Refused (judged judge) bytes f
  judged_refused {B} judge bytes f e lasts = elim (bind_err (number_at w bytes) (λ n. ok_or (judge n.0) (BadField (length bytes)) >>= λ v. Ok (v, n.1)) f e) [
    | first h ↦ absurd (lasts (short_only bytes f h))
    | later n h k ↦ elim (bind_err (ok_or (judge n.0) (BadField (length bytes))) (λ v. Ok (v, n.1)) f k) [
      | first g ↦
          let none = ok_or_err (judge n.0) (BadField (length bytes)) f g in
          let long = enough bytes n h in
          let front : List ℕ = take (byte_len w) bytes in
          let len : length front ≡ byte_len w = omega (arith, length-take (byte_len w) bytes, long.0) in
          let number : n.0 ≡ from_be_bytes w front = ap (λ (z : ℕ × List ℕ). z.0) long.1 in
          let nothing : judge (from_be_bytes w front) ≡ None = ap judge (sym number) ∙ none.0 in
          let parts : bytes ≡ front ++ drop (byte_len w) bytes = sym (take-append-drop (byte_len w) bytes) in
          let total : length bytes ≡ byte_len w + length (drop (byte_len w) bytes) = omega (arith, ap length parts, length-append front (drop (byte_len w) bytes), len) in
          record {
            front = front;
            behind = drop (byte_len w) bytes;
            parts = parts;
            fault = BadField (byte_len w);
            is = sym none.1 ∙ ap BadField total;
            lasting = (some, omega (arith, few), omega (arith, len));
            same = λ more.
                let whole : length (front ++ more) ≡ byte_len w + length more = omega (arith, length-append front more, len) in
                rw (number_same front more len, nothing) (ap (λ (l : ℕ). Err (BadField l)) whole);
          }
      | later v g l ↦ absurd cc
    ]
  ]

  judged_local : {B : Type 0} (judge : ℕ → Option B) → IsLocal (judged judge)
  judged_local judge = record { took = judged_took judge; refused = judged_refused judge }

  -- the same, with what follows
  abbrev pub judged_then : {B C : Type 0} → (ℕ → Option B) → (ℕ → B → Reader C) → Reader C
  judged_then judge next bytes = number_at w bytes >>= λ n. ok_or (judge n.0) (BadField (length bytes)) >>= λ v. next n.0 v n.1

  abbrev with_number : {B : Type 0} → (ℕ → Option B) → ℕ → Option (ℕ × B)
  with_number judge n = option_map (λ v. (n, v)) (judge n)

  by_choice : {B C : Type 0} (next : ℕ → B → Reader C) (o : Option B) (d : Fault) (n : ℕ) (rest : List ℕ)
      → ((ok_or (option_map (λ v. (n, v)) o) d >>= λ v. Ok (v, rest)) >>= λ (x : (ℕ × B) × List ℕ). next x.0.0 x.0.1 x.1) ≡ (ok_or o d >>= λ v. next n v rest)
  by_choice next None d n rest = refl
  by_choice next (Some v) d n rest = refl

  by_number : {B C : Type 0} (judge : ℕ → Option B) (next : ℕ → B → Reader C) (d : Fault) (r : Result (ℕ × List ℕ) Fault)
      → ((r >>= λ n. ok_or (with_number judge n.0) d >>= λ v. Ok (v, n.1)) >>= λ (x : (ℕ × B) × List ℕ). next x.0.0 x.0.1 x.1) ≡ (r >>= λ n. ok_or (judge n.0) d >>= λ v. next n.0 v n.1)
  by_number judge next d (Ok n) = by_choice next (judge n.0) d n.0 n.1
  by_number judge next d (Err f) = refl

  pub judged_then_local : {B C : Type 0} (judge : ℕ → Option B) (next : ℕ → B → Reader C) → ((n : ℕ) (v : B) → IsLocal (next n v)) → IsLocal (judged_then judge next)
  judged_then_local {B} {C} judge next each =
      local_same {read = then (judged (with_number judge)) (λ (x : ℕ × B). next x.0 x.1)} {other = judged_then judge next}
      (λ bytes. by_number judge next (BadField (length bytes)) (number_at w bytes)) (then_local (judged_local (with_number judge)) (λ x. each x.0 x.1))

  -- a number within its range
  by_test : (t : Bool) (d : Fault) (n : ℕ × List ℕ) → (ok_or (cond t (Some n.0) None) d >>= λ v. Ok (v, n.1)) ≡ cond t (Ok n) (Err d)
  by_test true d n = refl
  by_test false d n = refl

  by_range : (least most : ℕ) (d : Fault) (r : Result (ℕ × List ℕ) Fault) → (r >>= λ n. ok_or (cond (leb least n.0 && leb n.0 most) (Some n.0) None) d >>= λ v. Ok (v, n.1)) ≡ (r >>= λ n. cond (leb least n.0 && leb n.0 most) (Ok n) (Err d))
  by_range least most d (Ok n) = by_test (leb least n.0 && leb n.0 most) d n
  by_range least most d (Err f) = refl

  pub within_local : (least most : ℕ) → IsLocal (number_within w least most)
  unfolding number_within
  within_local least most =
      local_same {read = judged (λ n. cond (leb least n && leb n most) (Some n) None)} {other = number_within w least most}
      (λ bytes. by_range least most (BadField (length bytes)) (number_at w bytes)) (judged_local (λ n. cond (leb least n && leb n most) (Some n) None))
