-- The entries of a number, and the one seat that has numbers left.
use Rattle.std.proofs.Common.{Bool, true, false, ◌≡◌, ◌≢◌, ◌⊎◌, ℕ, zero, suc, ◌+◌, ◌-◌, ◌<◌, ◌≤◌, ◌==◌, List, [], ◌∷◌, ◌++◌, drop, length, Option, Some, None, sym, refl, ap, ◌∙◌, subst, inl, inr, ⊎_elim, arith, if◌then◌else◌, ne_eqb, eq-eqb, length-append}
use Rattle.std.proofs.Math.Seq.{take-append_seam, drop-append_seam, drop-length}
use Rattle.std.proofs.lemmas.List.{length-drop, drop-append-le, drop-drop}
use Rattle.std.proofs.lemmas.List.Elements.{All-nil, All-take, All-drop, All-push, All-head, All-tail}
use mathlib.Core.List.{IsPrefix}
use mathlib.Core.Option.{some, some-injective, some-ne-none}
use lib.ListN.{get_elem?}
use Rattle.turn_lock.specs.declared.board.View.{View}
use Rattle.turn_lock.specs.History.{NoneBy, AtMostOneMore, own_from}
use Rattle.turn_lock.specs.Views.{total}
use Rattle.turn_lock.specs.Rule.{IsPending, Owns}
use Rattle.turn_lock.proofs.Totals.{put, put_else}
use Rattle.turn_lock.proofs.Prefixes.{prefix_length}

module _ {V : Type 0} (f : V → ℕ) where
  pub total_zero : (vs : List V) → ((j : ℕ) (v : V) → get_elem? vs j ≡ some v → f v ≡ 0) → total f vs ≡ 0
  total_zero [] none = refl
  total_zero (x ∷ xs) none = let a = none 0 x refl in let b = total_zero xs (λ j v e. none (suc j) v e) in omega arith

  -- where all others are 0 the sum is that of one
  pub total_only : (vs : List V) (i : ℕ) (v : V) → get_elem? vs i ≡ some v → ((j : ℕ) (u : V) → get_elem? vs j ≡ some u → j ≢ i → f u ≡ 0) → total f vs ≡ f v
  total_only [] i v at others = absurd (some-ne-none v (sym at))
  total_only (x ∷ xs) zero v at others = let same : f x ≡ f v = ap f (some-injective x v at) in let b = total_zero xs (λ j u e. others (suc j) u e (λ h. omega arith)) in omega arith
  total_only (x ∷ xs) (suc i) v at others = let a = others 0 x refl (λ h. omega arith) in let b = total_only xs i v at (λ j u e apart. others (suc j) u e (λ h. apart (omega arith))) in omega arith

  pub at_most_total : (vs : List V) (i : ℕ) (v : V) → get_elem? vs i ≡ some v → f v ≤ total f vs
  at_most_total [] i v at = absurd (some-ne-none v (sym at))
  at_most_total (x ∷ xs) zero v at = let same : f x ≡ f v = ap f (some-injective x v at) in omega arith
  at_most_total (x ∷ xs) (suc i) v at = let b = at_most_total xs i v at in omega arith

pub snoc_at : {V : Type 0} (vs : List V) (a b : V) (j : ℕ) → get_elem? (vs ++ a ∷ []) j ≡ some b → (get_elem? vs j ≡ some b) ⊎ ((j ≡ length vs) × (a ≡ b))
snoc_at [] a b zero e = inr (refl, some-injective a b e)
snoc_at [] a b (suc j) e = absurd (some-ne-none b (sym e))
snoc_at (x ∷ xs) a b zero e = inl e
snoc_at (x ∷ xs) a b (suc j) e = ⊎_elim (λ h. inl h) (λ (t : (j ≡ length xs) × (a ≡ b)). inr (ap suc t.0, t.1)) (snoc_at xs a b j e)

module _ {E : Type 0} (number : E → ℕ) where
  front : (n : ℕ) (xs ys : List E) → NoneBy number n (xs ++ ys) → NoneBy number n xs
  front n xs ys h = subst (NoneBy number n) (take-append_seam xs ys) (All-take (λ e. number e ≢ n) (length xs) (xs ++ ys) h)

  -- a beginning has none where the whole has none
  pub none_front : (n k : ℕ) (xs ys : List E) → IsPrefix xs ys → k ≤ length xs → NoneBy number n (drop k ys) → NoneBy number n (drop k xs)
  none_front n k xs ys p le h = front n (drop k xs) p.0 (subst (NoneBy number n) (ap (drop k) (sym p.1) ∙ drop-append-le k xs p.0 le) h)

  pub none_deeper : (n k l : ℕ) (xs : List E) → k ≤ l → NoneBy number n (drop k xs) → NoneBy number n (drop l xs)
  none_deeper n k l xs le h = subst (NoneBy number n) (drop-drop (l - k) k xs ∙ ap (λ (i : ℕ). drop i xs) (omega arith)) (All-drop (λ e. number e ≢ n) (l - k) (drop k xs) h)

  pub none_past : (n : ℕ) (xs : List E) → NoneBy number n (drop (length xs) xs)
  none_past n xs = subst (NoneBy number n) (sym (drop-length xs)) (All-nil (λ e. number e ≢ n))

  -- an entry of another number changes nothing
  pub none_news : (mine n k : ℕ) (log news : List E) → AtMostOneMore number mine log news → mine ≢ n → k ≤ length log → NoneBy number n (drop k log) → NoneBy number n (drop k news)
  none_news mine n k log news more apart le h = ⊎_elim (λ (same : news ≡ log). subst (λ (l : List E). NoneBy number n (drop k l)) (sym same) h)
      (λ (one : (e : E) × (number e ≡ mine) × (news ≡ log ++ e ∷ [])). subst (NoneBy number n) (sym (ap (drop k) one.2 ∙ drop-append-le k log (one.0 ∷ []) le))
      (All-push (λ e. number e ≢ n) (drop k log) one.0 h (λ is. apart (sym one.1 ∙ is)))) more

  pub own_none : (n k : ℕ) (ys : List E) → NoneBy number n ys → own_from number n k ys ≡ []
  own_none n k [] none = refl
  own_none n k (y ∷ ys) none = ap (λ b. if b then (k, y) ∷ own_from number n (suc k) ys else own_from number n (suc k) ys) (ne_eqb (number y) n (All-head (λ e. number e ≢ n) y ys none)) ∙ own_none n (suc k) ys (All-tail (λ e. number e ≢ n) y ys none)

  pub own_append : (n k : ℕ) (xs ys : List E) → NoneBy number n ys → own_from number n k (xs ++ ys) ≡ own_from number n k xs
  own_append n k [] ys none = own_none n k ys none
  own_append n k (x ∷ xs) ys none = ap (λ (l : List (ℕ × E)). if number x == n then (k, x) ∷ l else l) (own_append n (suc k) xs ys none)

  -- what was seen besides has no entry of the seat
  pub own_same : (n k : ℕ) (xs ys : List E) → IsPrefix xs ys → k ≤ length xs → NoneBy number n (drop (length xs) ys) → own_from number n k (drop k ys) ≡ own_from number n k (drop k xs)
  own_same n k xs ys p le none =
      let rest : drop (length xs) ys ≡ p.0 = ap (drop (length xs)) (sym p.1) ∙ drop-append_seam xs p.0 in
      ap (own_from number n k) (ap (drop k) (sym p.1) ∙ drop-append-le k xs p.0 le) ∙ own_append n k (drop k xs) p.0 (subst (NoneBy number n) rest none)

  own_push : (n k : ℕ) (xs : List E) (e : E) → number e ≡ n → own_from number n k (xs ++ e ∷ []) ≡ own_from number n k xs ++ (k + length xs, e) ∷ []
  own_push n k [] e is = ap (λ b. if b then (k, e) ∷ [] else []) (eq-eqb (number e) n is) ∙ ap (λ (i : ℕ). (i, e) ∷ []) (omega arith)
  own_push n k (x ∷ xs) e is = ap (λ (l : List (ℕ × E)). if number x == n then (k, x) ∷ l else l) (own_push n (suc k) xs e is) ∙ moved (number x == n)
    where
      moved : (b : Bool) → (if b then (k, x) ∷ (own_from number n (suc k) xs ++ (suc k + length xs, e) ∷ []) else own_from number n (suc k) xs ++ (suc k + length xs, e) ∷ [])
          ≡ (if b then (k, x) ∷ own_from number n (suc k) xs else own_from number n (suc k) xs) ++ (k + suc (length xs), e) ∷ []
      moved true = ap (λ (i : ℕ). (k, x) ∷ (own_from number n (suc k) xs ++ (i, e) ∷ [])) (omega arith)
      moved false = ap (λ (i : ℕ). own_from number n (suc k) xs ++ (i, e) ∷ []) (omega arith)

  -- an entry of the seat's number behind what was taken is an own entry at its place
  pub own_more : (n k : ℕ) (taken : List E) (e : E) → k ≤ length taken → number e ≡ n → own_from number n k (drop k (taken ++ e ∷ [])) ≡ own_from number n k (drop k taken) ++ (length taken, e) ∷ []
  own_more n k taken e past is =
      ap (own_from number n k) (drop-append-le k taken (e ∷ []) past)
      ∙ (own_push n k (drop k taken) e is ∙ ap (λ (i : ℕ). own_from number n k (drop k taken) ++ (i, e) ∷ []) (omega (arith, length-drop k taken)))

  -- the one entry that a history has more has the number
  pub more_number : (n : ℕ) (xs : List E) (e : E) → AtMostOneMore number n xs (xs ++ e ∷ []) → number e ≡ n
  more_number n xs e more = ⊎_elim (λ (same : xs ++ e ∷ [] ≡ xs). absurd (omega (arith, sym (length-append xs (e ∷ [])) ∙ ap length same)))
      (λ (one : (f : E) × (number f ≡ n) × (xs ++ e ∷ [] ≡ xs ++ f ∷ [])). let is : e ∷ [] ≡ one.0 ∷ [] = sym (drop-append_seam xs (e ∷ [])) ∙ (ap (drop (length xs)) one.2 ∙ drop-append_seam xs (one.0 ∷ [])) in
      let same : e ≡ one.0 = cc (is) in ap number same ∙ one.1) more

  module _ (opened next keeper : ℕ) (seat_of : ℕ → ℕ) where
    -- what a seat owns where another seat, of the number mine, fixes a history
    pub owns_fixed : {B : Type 0} (mine id j : ℕ) (log news : List E) (d : View B E) → seat_of mine ≡ id → j ≢ id → AtMostOneMore number mine log news → opened ≤ length log → IsPrefix d.seen log
        → Owns number opened next keeper seat_of log j d → Owns number opened next keeper seat_of news j d
    owns_fixed mine id j log news d is other more within p o = (
      o.0,
      λ lives. let h = o.1 lives in
          (h.0, h.1, h.2, h.3, none_news mine d.who.number (length d.seen) log news more (apart d.who.number h.1) (prefix_length d.seen log p) h.4, pending d.who.pending h.5),
    )
      where
        apart : (n : ℕ) → seat_of n ≡ j → mine ≢ n
        apart n e same = other (sym e ∙ (ap seat_of (sym same) ∙ is))

        pending : (q : Option ℕ) → IsPending number opened next keeper seat_of log j d.who.number q → IsPending number opened next keeper seat_of news j d.who.number q
        pending None k = tt
        pending (Some n) k = (k.0, k.1, k.2, none_news mine n opened log news more (apart n k.1) within k.3)

    -- where a number more is drawn, by any seat
    pub owns_drawn : {B : Type 0} (id j : ℕ) (log : List E) (d : View B E) → Owns number opened next keeper seat_of log j d → Owns number opened (next + 1) keeper (put seat_of next id) log j d
    owns_drawn id j log d o = (
      o.0,
      λ lives. let h = o.1 lives in let low : d.who.number < next = h.0 in
          (omega arith, put_else seat_of next id d.who.number (λ e. omega arith) ∙ h.1, h.2, h.3, h.4, pending d.who.pending h.5),
    )
      where
        pending : (q : Option ℕ) → IsPending number opened next keeper seat_of log j d.who.number q → IsPending number opened (next + 1) keeper (put seat_of next id) log j d.who.number q
        pending None k = tt
        pending (Some n) k = let low : n < next = k.0 in (omega arith, put_else seat_of next id n (λ e. omega arith) ∙ k.1, k.2, k.3)

    -- where the number m, which is not the seat's, becomes a new seat's
    pub owns_named : {B : Type 0} (m new j : ℕ) (log : List E) (d : View B E) → d.who.number ≢ m → ((n : ℕ) → d.who.pending ≡ Some n → n ≢ m) → Owns number opened next keeper seat_of log j d
        → Owns number opened next keeper (put seat_of m new) log j d
    owns_named m new j log d apart apart' o = (
      o.0,
      λ lives. let h = o.1 lives in
          (h.0, put_else seat_of m new d.who.number apart ∙ h.1, h.2, h.3, h.4, pending d.who.pending refl h.5),
    )
      where
        pending : (q : Option ℕ) → d.who.pending ≡ q → IsPending number opened next keeper seat_of log j d.who.number q → IsPending number opened next keeper (put seat_of m new) log j d.who.number q
        pending None is k = tt
        pending (Some n) is k = (k.0, put_else seat_of m new n (apart' n is) ∙ k.1, k.2, k.3)
