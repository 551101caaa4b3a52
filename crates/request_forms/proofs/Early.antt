-- What decides a fault: so many bytes from its place on.
use Rattle.std.proofs.Common.{◌≡◌, ◌⊎◌, ℕ, zero, suc, ◌+◌, ◌≤◌, Bool, true, false, cond, List, [], ◌∷◌, ◌++◌, length, take, Result, Err, refl, sym, ap, ◌∙◌, inl, inr, arith, length-append}
use Rattle.record_codec.specs.Reading.{AreBytes}

-- Where a fault has the longest field behind it, the bytes behind those don't matter.
abbrev pub IsEarly : {A : Type 0} → (List ℕ → Result A ℕ) → Type 0
IsEarly read = (front more other : List ℕ) (l : ℕ) → AreBytes (front ++ more) → read (front ++ more) ≡ Err (l + length more) → 255 ≤ l → read (front ++ other) ≡ Err (l + length other)

-- a fault at the first byte
pub all_left : (front more other : List ℕ) (l : ℕ) → length (front ++ more) ≡ l + length more → (length front ≡ l) × (length (front ++ other) ≡ l + length other)
all_left front more other l e = (omega (arith, e, length-append front more), omega (arith, e, length-append front more, length-append front other))

-- what stands in front doesn't depend on the rest
pub take_front : (n : ℕ) (front more : List ℕ) → n ≤ length front → take n (front ++ more) ≡ take n front
take_front zero front more le = refl
take_front (suc n) [] more le = absurd (omega arith)
take_front (suc n) (x ∷ front) more le = ap (λ (l : List ℕ). x ∷ l) (take_front n front more (omega arith))

-- one of two lists that are equal ends within the other's second part
pub record Parted (front more text rest : List ℕ) : Type 0 where
  pub mid : List ℕ
  pub rest_is : rest ≡ mid ++ more
  pub front_is : front ≡ text ++ mid

pub parted : (front more text rest : List ℕ) → front ++ more ≡ text ++ rest → length more ≤ length rest → Parted front more text rest
parted front more [] rest e le = record { mid = front; rest_is = sym e; front_is = refl }
parted [] more (y ∷ text) rest e le = absurd (omega (arith, ap length e, length-append text rest, le))
parted (x ∷ front) more (y ∷ text) rest e le =
    let heads : x ≡ y = cc in
    let tails : front ++ more ≡ text ++ rest = cc in
    let p = parted front more text rest tails le in
    record { mid = p.mid; rest_is = p.rest_is; front_is = ap (λ (h : ℕ). h ∷ front) heads ∙ ap (λ (l : List ℕ). y ∷ l) p.front_is }

-- a test that refused, with what it said
pub refused_by : {A : Type 0} (b : Bool) (d left : ℕ) (r : Result A ℕ) → cond b (Err d) r ≡ Err left → ((b ≡ true) × (d ≡ left)) ⊎ ((b ≡ false) × (r ≡ Err left))
refused_by true d left r e = inl (refl, cc)
refused_by false d left r e = inr (refl, e)

pub passed_by : {A : Type 0} (b : Bool) (d left : ℕ) (r : Result A ℕ) → cond b r (Err d) ≡ Err left → ((b ≡ false) × (d ≡ left)) ⊎ ((b ≡ true) × (r ≡ Err left))
passed_by true d left r e = inr (refl, e)
passed_by false d left r e = inl (refl, cc)
