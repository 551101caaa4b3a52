-- The tests of windows say what windows are.
use Rattle.std.proofs.Common.{◌≡◌, ◌⊎◌, ◌↔◌, ℕ, zero, suc, ◌+◌, ◌<◌, ◌≤◌, List, [], ◌∷◌, ◌++◌, length, take, drop, get_or, Bool, true, false, ◌&&◌, ◌||◌, not, cond, refl, sym, ap, subst, ◌∙◌, inl, inr, arith, true≢false, append_assoc, nat_le}
use Rattle.std.specs.Prelude.{ℤ, Option, Any, All, ◌==◌, count_by}
use Rattle.std.specs.List.{range_with_len, list_any, list_all}
use Rattle.std.proofs.lemmas.Bool.{cases_lt}
use Rattle.std.proofs.lemmas.Bool.Decides.{nat_tests}
use Rattle.std.proofs.lemmas.List.Sums.{sum_by_push}
use Rattle.std.proofs.lemmas.List.Elements.{All-nil, All-cons, All-head, All-tail}
use Rattle.trans_seq.specs.declared.seq.Item.{Item}
use Rattle.trans_seq.specs.declared.seq.Seq.{Seq}
use Rattle.trans_seq.specs.declared.seq.Repeat.{Repeat}
use Rattle.trans_seq.specs.declared.seq.Repeat.TheVariants.{Once, Consec, Goto, NonConsec}
use Rattle.trans_seq.specs.Windows.{is_known_in, is_end, InRepeat, InItem, InSeq, InSome, InBlocks, EndsKept}
use Rattle.cov_history.proofs.Progress as progress
use Rattle.cov_counting.specs.Hits.{EndsNone}
use Rattle.cov_history.specs.Tallies.{ends_inside, in_blocks, in_repeat, in_item, in_seq, in_some, ends_kept, ends_none}
use Rattle.cov_history.proofs.Bools.{by_bool, and_left, and_right, both, not_true}

-- ---- tests and what they say

pub either : (a b : Bool) → (a || b) ≡ true → (a ≡ true) ⊎ (b ≡ true)
either true b h = inl refl
either false b h = inr h

pub or_left : (a b : Bool) → a ≡ true → (a || b) ≡ true
or_left a b h = rw h refl

pub or_right : (a b : Bool) → b ≡ true → (a || b) ≡ true
or_right true b h = refl
or_right false b h = h

pub both_is : (a b : Bool) (P Q : Type 0) → (a ≡ true) ↔ P → (b ≡ true) ↔ Q → ((a && b) ≡ true) ↔ (P × Q)
both_is a b P Q p q = ((λ h. (p.0 (and_left a b h), q.0 (and_right a b h))), (λ h. both a b (p.1 h.0) (q.1 h.1)))

pub not_is : (a : Bool) (P : Type 0) → (a ≡ true) ↔ P → (not a ≡ true) ↔ (P → ⊥)
not_is a P p = (
  (λ h x. true≢false (sym (p.1 x) ∙ not_true a h)),
  (λ h. by_bool a (λ yes. absurd (h (p.0 yes))) (λ no. ap not no)),
)

pub le_is : (a b : ℕ) → (nat_le a b ≡ true) ↔ (a ≤ b)
le_is a b = ((λ e. grind (arith, e, nat_tests)), (λ h. grind (arith, h, nat_tests)))

pub eq_is : (a b : ℕ) → ((a == b) ≡ true) ↔ (a ≡ b)
eq_is a b = ((λ e. grind (arith, e, nat_tests)), (λ h. grind (arith, h, nat_tests)))

pub is_same : {P : Type 0} → P ↔ P
is_same = ((λ p. p), (λ p. p))

module _ {X : Type 0} (t : X → Bool) (P : X → Type 0) (is : (x : X) → (t x ≡ true) ↔ P x) where
  any_at : (x : X) (xs : List X) → (Any P xs → list_any t xs ≡ true) → (k : ℕ) (y : X) → k < length (x ∷ xs) → get_or (x ∷ xs) k y ≡ y → P y → list_any t (x ∷ xs) ≡ true
  any_at x xs rest zero y lt e p = or_left (t x) (list_any t xs) ((is x).1 (subst P (sym e) p))
  any_at x xs rest (suc k) y lt e p = or_right (t x) (list_any t xs) (rest (k, y, omega (arith, lt), e, p))

  pub any_is : (xs : List X) → (list_any t xs ≡ true) ↔ Any P xs
  any_is [] = ((λ h. absurd (true≢false (sym h))), (λ a. absurd (omega (arith, a.2))))
  any_is (x ∷ xs) = (
    (λ h. elim (either (t x) (list_any t xs) h) [
      | inl here ↦ (0, x, omega arith, refl, (is x).0 here)
      | inr later ↦ let a : Any P xs = (any_is xs).0 later in (suc a.0, a.1, omega (arith, a.2), a.3, a.4)
    ]),
    (λ a. any_at x xs (any_is xs).1 a.0 a.1 a.2 a.3 a.4),
  )

  pub all_is : (xs : List X) → (list_all t xs ≡ true) ↔ All P xs
  all_is [] = ((λ h. All-nil P), (λ a. refl))
  all_is (x ∷ xs) = (
    (λ h. All-cons P x xs ((is x).0 (and_left (t x) (list_all t xs) h)) ((all_is xs).0 (and_right (t x) (list_all t xs) h))),
    (λ a. both (t x) (list_all t xs) ((is x).1 (All-head P x xs a)) ((all_is xs).1 (All-tail P x xs a))),
  )

-- some number of a range passes
module _ (t : ℕ → Bool) where
  pub in_range : (n a k : ℕ) → a ≤ k → k < a + n → t k ≡ true → list_any t (range_with_len a n) ≡ true
  in_range zero a k le lt h = absurd (omega (arith, le, lt))
  in_range (suc n) a k le lt h = elim (cases_lt a k) [
    | inl more ↦ or_right (t a) (list_any t (range_with_len (a + 1) n)) (in_range n (a + 1) k (omega (arith, more)) (omega (arith, lt)) h)
    | inr here ↦ let e : k ≡ a = omega (arith, le, here) in or_left (t a) (list_any t (range_with_len (a + 1) n)) (sym (ap t e) ∙ h)
  ]

  pub from_range : (n a : ℕ) → list_any t (range_with_len a n) ≡ true → (k : ℕ) × (k < a + n) × (t k ≡ true)
  from_range zero a h = absurd (true≢false (sym h))
  from_range (suc n) a h = elim (either (t a) (list_any t (range_with_len (a + 1) n)) h) [
    | inl here ↦ (a, omega arith, here)
    | inr later ↦ let r = from_range n (a + 1) later in (r.0, omega (arith, r.1), r.2)
  ]

-- ---- blocks

module _ {X : Type 0} (p : X → Bool) where
  ends_push : (u : List X) (v : X) → ends_inside p (u ++ v ∷ []) ≡ p v
  ends_push [] v = refl
  ends_push (x ∷ []) v = refl
  ends_push (x ∷ y ∷ u) v = ends_push (y ∷ u) v

  abbrev gap : List X → Bool
  gap w = not (ends_inside p w)

  push : (u : List X) (v : X) → progress.Progress p (count_by p u) (gap u) u → progress.Progress p (count_by p (u ++ v ∷ [])) (gap (u ++ v ∷ [])) (u ++ v ∷ [])
  push u v h =
      let c = sum_by_push (λ (x : X). cond (p x) 1 0) u v in
      by_bool (p v)
      (λ yes.
      let one : ◌≡◌ {A = ℕ} (cond (p v) 1 0) 1 = rw yes refl in
      let n : count_by p (u ++ v ∷ []) ≡ suc (count_by p u) = omega (arith, c, one) in
      let g : gap (u ++ v ∷ []) ≡ false = ap not (ends_push u v ∙ yes) in
      subst (λ (k : ℕ). progress.Progress p k (gap (u ++ v ∷ [])) (u ++ v ∷ [])) (sym n) (subst (λ (b : Bool). progress.Progress p (suc (count_by p u)) b (u ++ v ∷ [])) (sym g) (progress.progress-inside p (count_by p u) (gap u) u v h yes)))
      (λ no.
      let none : ◌≡◌ {A = ℕ} (cond (p v) 1 0) 0 = rw no refl in
      let n : count_by p (u ++ v ∷ []) ≡ count_by p u = omega (arith, c, none) in
      let g : gap (u ++ v ∷ []) ≡ true = ap not (ends_push u v ∙ no) in
      subst (λ (k : ℕ). progress.Progress p k (gap (u ++ v ∷ [])) (u ++ v ∷ [])) (sym n) (subst (λ (b : Bool). progress.Progress p (count_by p u) b (u ++ v ∷ [])) (sym g) (progress.progress-outside p (count_by p u) (gap u) u v h no)))

  along : (r u : List X) → progress.Progress p (count_by p u) (gap u) u → progress.Progress p (count_by p (u ++ r)) (gap (u ++ r)) (u ++ r)
  along [] u h = subst (λ (w : List X). progress.Progress p (count_by p w) (gap w) w) (sym (append_nil u)) h
    where
      append_nil : (xs : List X) → xs ++ [] ≡ xs
      append_nil [] = refl
      append_nil (x ∷ xs) = ap (λ t. x ∷ t) (append_nil xs)
  along (v ∷ r) u h = subst (λ (w : List X). progress.Progress p (count_by p w) (gap w) w) (append_assoc u (v ∷ []) r) (along r (u ++ v ∷ []) (push u v h))

  whole : (w : List X) → progress.Progress p (count_by p w) (gap w) w
  whole w = along w [] refl

  gap_is : (w : List X) (trailing : Bool) → ((trailing || ends_inside p w) ≡ true) ↔ ((trailing ≡ true) ⊎ (gap w ≡ false))
  gap_is w trailing = (
    (λ h. elim (either trailing (ends_inside p w) h) [ inl a ↦ inl a | inr b ↦ inr (ap not b) ]),
    (λ h. elim h [ inl a ↦ or_left trailing (ends_inside p w) a | inr b ↦ or_right trailing (ends_inside p w) (unnot (ends_inside p w) b) ]),
  )
    where
      unnot : (b : Bool) → not b ≡ false → b ≡ true
      unnot true e = refl
      unnot false e = absurd (true≢false e)

  blocks_is : (low high : ℕ) (trailing : Bool) (w : List X) → (in_blocks p low high trailing w ≡ true) ↔ InBlocks p low high trailing w
  blocks_is low high trailing w =
      let n = count_by p w in
      let said = both_is (nat_le low n && nat_le n high) (trailing || ends_inside p w) ((low ≤ n) × (n ≤ high)) ((trailing ≡ true) ⊎ (gap w ≡ false)) (both_is (nat_le low n) (nat_le n high) (low ≤ n) (n ≤ high) (le_is low n) (le_is n high)) (gap_is w trailing) in
      let is = progress.in_blocks p low high n (gap w) trailing w (whole w) in
      ((λ h. is.0 (said.0 h)), (λ b. said.1 (is.1 b)))

  inside_is : (w : List X) → (list_all p w ≡ true) ↔ All (λ v. p v ≡ true) w
  inside_is w = all_is p (λ v. p v ≡ true) (λ v. is_same) w

  repeat_is : (repeat : Repeat) (last : Bool) (w : List X) → (in_repeat p repeat last w ≡ true) ↔ InRepeat p repeat last w
  repeat_is Once last w = both_is (length w == 1) (list_all p w) (length w ≡ 1) (All (λ v. p v ≡ true) w) (eq_is (length w) 1) (inside_is w)
  repeat_is (Consec low high) last w =
      let said = both_is (nat_le low (length w) && nat_le (length w) high) (list_all p w) ((low ≤ length w) × (length w ≤ high)) (All (λ v. p v ≡ true) w) (both_is (nat_le low (length w)) (nat_le (length w) high) (low ≤ length w) (length w ≤ high) (le_is low (length w)) (le_is (length w) high)) (inside_is w) in
      ((λ h. let r = said.0 h in (r.0.0, r.0.1, r.1)), (λ h. said.1 ((h.0, h.1), h.2)))
  repeat_is (Goto low high) last w = blocks_is low high false w
  repeat_is (NonConsec low high) last w = blocks_is low high (not last) w

-- ---- sequences

item_is : (item : Item) (last : Bool) (w : List (Option ℤ)) → (in_item item last w ≡ true) ↔ InItem item last w
item_is item last w = repeat_is (is_known_in item.set) item.repeat last w

abbrev cuts : Item → List Item → List (Option ℤ) → ℕ → Bool
cuts item items w cut = in_item item (is_end items) (take cut w) && in_seq items (drop cut w)

pub seq_is : (items : List Item) (w : List (Option ℤ)) → (in_seq items w ≡ true) ↔ InSeq items w
seq_is [] [] = ((λ h. refl), (λ h. refl))
seq_is [] (v ∷ w) = ((λ h. absurd (true≢false (sym h))), (λ h. absurd (omega (arith, ap (λ (x : List (Option ℤ)). length x) h))))
seq_is (item ∷ items) w = (
  (λ h.
      let r = from_range (cuts item items w) (length w + 1) 0 h in
      record {
        cut = r.0;
        within = omega (arith, r.1);
        first = (item_is item (is_end items) (take r.0 w)).0 (and_left (in_item item (is_end items) (take r.0 w)) (in_seq items (drop r.0 w)) r.2);
        rest = (seq_is items (drop r.0 w)).0 (and_right (in_item item (is_end items) (take r.0 w)) (in_seq items (drop r.0 w)) r.2);
      }),
  (λ s. in_range (cuts item items w) (length w + 1) 0 s.cut (omega arith) (omega (arith, s.within))
      (both (in_item item (is_end items) (take s.cut w)) (in_seq items (drop s.cut w)) ((item_is item (is_end items) (take s.cut w)).1 s.first) ((seq_is items (drop s.cut w)).1 s.rest))),
)

pub some_is : (seqs : List Seq) (w : List (Option ℤ)) → (in_some seqs w ≡ true) ↔ InSome seqs w
some_is seqs w = any_is (λ (seq : Seq). in_seq seq.items w) (λ (seq : Seq). InSeq seq.items w) (λ seq. seq_is seq.items w) seqs

pub kept_is : (own removed : List Seq) (w : List (Option ℤ)) → (ends_kept own removed w ≡ true) ↔ EndsKept own removed w
kept_is own removed w = (
  (λ h.
      let r = from_range (λ from. in_some own (drop from w) && not (in_some removed (drop from w))) (length w) 0 h in
      record {
        from = r.0;
        some = omega (arith, r.1);
        in_own = (some_is own (drop r.0 w)).0 (and_left (in_some own (drop r.0 w)) (not (in_some removed (drop r.0 w))) r.2);
        not_removed = (not_is (in_some removed (drop r.0 w)) (InSome removed (drop r.0 w)) (some_is removed (drop r.0 w))).0 (and_right (in_some own (drop r.0 w)) (not (in_some removed (drop r.0 w))) r.2);
      }),
  (λ e. in_range (λ from. in_some own (drop from w) && not (in_some removed (drop from w))) (length w) 0 e.from (omega arith) (omega (arith, e.some))
      (both (in_some own (drop e.from w)) (not (in_some removed (drop e.from w))) ((some_is own (drop e.from w)).1 e.in_own) ((not_is (in_some removed (drop e.from w)) (InSome removed (drop e.from w)) (some_is removed (drop e.from w))).1 e.not_removed))),
)

pub none_is : (seqs : List Seq) (w : List (Option ℤ)) → (ends_none seqs w ≡ true) ↔ EndsNone seqs w
none_is seqs w = (
  (λ h from lt some. true≢false (sym (in_range (λ from. in_some seqs (drop from w)) (length w) 0 from (omega arith) (omega (arith, lt)) ((some_is seqs (drop from w)).1 some)) ∙ not_true (list_any (λ from. in_some seqs (drop from w)) (range_with_len 0 (length w))) h)),
  (λ n. by_bool (list_any (λ from. in_some seqs (drop from w)) (range_with_len 0 (length w)))
      (λ yes. let r = from_range (λ from. in_some seqs (drop from w)) (length w) 0 yes in absurd (n r.0 (omega (arith, r.1)) ((some_is seqs (drop r.0 w)).0 r.2)))
      (λ no. ap not no)),
)
