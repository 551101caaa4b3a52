-- Paths that stand at the nodes which they find.
use Rattle.std.proofs.Common.{◌≡◌, ℕ, zero, suc, ◌+◌, ◌<◌, ◌≤◌, Bool, true, false, cond, List, [], ◌∷◌, ◌++◌, length, take, refl, sym, ap, ◌∙◌, add-zero, arith, true≢false, Option, Some, None, is_some, get_or}
use Rattle.std.specs.Prelude.{bytes_eq, slice_index_or, option_to_list}
use Rattle.std.specs.List.{flat_map}
use Rattle.std.specs.Option.{option_map_or}
use Rattle.std.proofs.lemmas.List.{take_more}
use Rattle.std.proofs.lemmas.List.Concat.{flat_map-append}
use Rattle.std.proofs.lemmas.List.Sums.{sum_by-cons}
use Rattle.cov_history.specs.History.{has}
use Rattle.cov_history.proofs.Bools.{by_bool}
use Rattle.store_parts.proofs.Outs.{same_bytes, bytes_same, count_none}
use Rattle.store_parts.proofs.Members.{IsOnce, HaveSame}

-- the paths that stand there, in the order of the nodes
abbrev pub paths_in : List (Option (List ℕ)) → List (List ℕ)
paths_in out = flat_map (λ o. option_to_list o) out

some_is : {A : Type 0} (x y : A) → ◌≡◌ {A = Option A} (Some x) (Some y) → x ≡ y
some_is x y e = ap (λ o. option_map_or (λ z. z) o x) e

module _ (f : List ℕ → Option ℕ) where
  -- each stands at the node that it finds
  abbrev pub AreAt : (base : ℕ) → List (Option (List ℕ)) → Type 0
  AreAt base [] = Unit {0}
  AreAt base (None ∷ os) = AreAt (base + 1) os
  AreAt base (Some p ∷ os) = (f p ≡ Some base) × AreAt (base + 1) os

  pub are_at : (base : ℕ) (out : List (Option (List ℕ))) → ((n : ℕ) (p : List ℕ) → slice_index_or out n None ≡ Some p → f p ≡ Some (base + n)) → AreAt base out
  are_at base [] here = tt
  are_at base (None ∷ os) here = are_at (base + 1) os (λ n p e. let k : base + suc n ≡ (base + 1) + n = omega arith in here (suc n) p e ∙ ap Some k)
  are_at base (Some q ∷ os) here = (here zero q refl ∙ ap Some (add-zero base), are_at (base + 1) os (λ n p e. let k : base + suc n ≡ (base + 1) + n = omega arith in here (suc n) p e ∙ ap Some k))

  no_lower : (base n : ℕ) (p : List ℕ) (out : List (Option (List ℕ))) → AreAt base out → has p (paths_in out) ≡ true → f p ≡ Some n → base ≤ n
  no_lower base n p [] all h e = absurd (true≢false (sym h))
  no_lower base n p (None ∷ os) all h e = let le = no_lower (base + 1) n p os all h e in omega (arith, le)
  no_lower base n p (Some q ∷ os) all h e =
      let rest = no_lower (base + 1) n p os all.1 in
      by_bool (bytes_eq q p)
      (λ k. let same : base ≡ n = some_is base n (sym all.0 ∙ ap f (same_bytes q p k) ∙ e) in omega (arith, same))
      (λ k. let g : has p (paths_in os) ≡ true = sym (rw k refl) ∙ h in let le = rest g e in omega (arith, le))

  found_there : (base : ℕ) (p : List ℕ) (out : List (Option (List ℕ))) → AreAt base out → has p (paths_in out) ≡ true → is_some (f p) ≡ true
  found_there base p [] all h = absurd (true≢false (sym h))
  found_there base p (None ∷ os) all h = found_there (base + 1) p os all h
  found_there base p (Some q ∷ os) all h =
      let rest = found_there (base + 1) p os all.1 in
      by_bool (bytes_eq q p)
      (λ k. ap is_some (sym (ap f (same_bytes q p k)) ∙ all.0))
      (λ k. rest (sym (rw k refl) ∙ h))

  not_later : (base : ℕ) (p : List ℕ) (out : List (Option (List ℕ))) → AreAt (base + 1) out → f p ≡ Some base → has p (paths_in out) ≡ false
  not_later base p out all e = by_bool (has p (paths_in out))
      (λ h. let le = no_lower (base + 1) base p out all h e in absurd (omega (arith, le)))
      (λ h. h)

  pub once_in : (base : ℕ) (out : List (Option (List ℕ))) → AreAt base out → IsOnce (paths_in out)
  once_in base [] all path = omega arith
  once_in base (None ∷ os) all path = once_in (base + 1) os all path
  once_in base (Some q ∷ os) all path =
      let rest = once_in (base + 1) os all.1 path in
      let c = sum_by-cons (λ (x : List ℕ). cond (bytes_eq x path) 1 0) q (paths_in os) in
      by_bool (bytes_eq q path)
      (λ k.
      let one : ◌≡◌ {A = ℕ} (cond (bytes_eq q path) 1 0) 1 = rw k refl in
      let none = count_none path (paths_in os) (not_later base path os all.1 (ap f (sym (same_bytes q path k)) ∙ all.0)) in
      omega (arith, c, one, none))
      (λ k. let one : ◌≡◌ {A = ℕ} (cond (bytes_eq q path) 1 0) 0 = rw k refl in omega (arith, c, one, rest))

  module _ (unique : (p q : List ℕ) (n : ℕ) → f p ≡ Some n → f q ≡ Some n → p ≡ q) where
    standing : (base n : ℕ) (p : List ℕ) (out : List (Option (List ℕ))) → AreAt base out → f p ≡ Some (base + n) → has p (paths_in out) ≡ is_some (slice_index_or out n None)
    standing base n p [] all e = refl
    standing base zero p (None ∷ os) all e = not_later base p os all (e ∙ ap Some (add-zero base))
    standing base zero p (Some q ∷ os) all e = rw (bytes_same q p (unique q p base all.0 (e ∙ ap Some (add-zero base)))) refl
    standing base (suc n) p (None ∷ os) all e = let k : base + suc n ≡ (base + 1) + n = omega arith in standing (base + 1) n p os all (e ∙ ap Some k)
    standing base (suc n) p (Some q ∷ os) all e =
        let k : base + suc n ≡ (base + 1) + n = omega arith in
        let rest = standing (base + 1) n p os all.1 (e ∙ ap Some k) in
        by_bool (bytes_eq q p)
        (λ j. let same : base ≡ base + suc n = some_is base (base + suc n) (sym all.0 ∙ ap f (same_bytes q p j) ∙ e) in absurd (omega (arith, same)))
        (λ j. rw j rest)

    -- those that stand at their nodes are those that are meant, where each of these is found
    pub same_members : (paths : List (List ℕ)) (out : List (Option (List ℕ))) → AreAt 0 out
        → ((p : List ℕ) → has p paths ≡ true → is_some (f p) ≡ true)
        → ((p : List ℕ) (n : ℕ) → f p ≡ Some n → has p paths ≡ is_some (slice_index_or out n None))
        → HaveSame (paths_in out) paths
    same_members paths out all found here p = by (f p) refl
      where
        by : (o : Option ℕ) → f p ≡ o → has p (paths_in out) ≡ has p paths
        by (Some n) e = let k : n ≡ 0 + n = omega arith in standing 0 n p out all (e ∙ ap Some k) ∙ sym (here p n e)
        by None e =
            let none : (b : Bool) → (b ≡ true → is_some (f p) ≡ true) → b ≡ false = λ b g. by_bool b (λ t. absurd (true≢false (sym (g t) ∙ ap is_some e))) (λ t. t) in
            none (has p (paths_in out)) (found_there 0 p out all) ∙ sym (none (has p paths) (found p))

-- ---- one place more

pub paths_more : (out : List (Option (List ℕ))) (i : ℕ) (o : Option (List ℕ)) → i < length out → o ≡ get_or out i o → paths_in (take (i + 1) out) ≡ paths_in (take i out) ++ option_to_list o
paths_more out i o below e =
    ap paths_in (take_more out i o below) ∙ flat_map-append (λ (x : Option (List ℕ)). option_to_list x) (take i out) (get_or out i o ∷ []) ∙ ap (λ (x : Option (List ℕ)). paths_in (take i out) ++ (option_to_list x ++ [])) (sym e) ∙ ap (λ ps. paths_in (take i out) ++ ps) (alone o)
  where
    alone : (x : Option (List ℕ)) → option_to_list x ++ [] ≡ option_to_list x
    alone None = refl
    alone (Some p) = refl
