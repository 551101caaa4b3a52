-- The search for the words that a trace ends with.
use Rattle.std.proofs.Common.{◌≡◌, ◌⊎◌, ◌↔◌, ℕ, zero, suc, ◌+◌, ◌<◌, ◌≤◌, ℤ, List, [], ◌∷◌, length, get_or, true, false, Option, Some, None, refl, ap, sym, subst, ◌∙◌, inl, inr, arith, int_lt, int_le}
use Rattle.std.proofs.lemmas.Grind.{common_steps}
use Rattle.std.proofs.lemmas.Int.{ints}
use Rattle.std.specs.Prelude.{slice_get}
use Rattle.std.specs.List.{All, Contains}
use Rattle.std.proofs.lemmas.Bool.{cases_lt, true≢false, false≢true}
use Rattle.word_table.specs.Words.{IsSorted, back, Agrees, Ends, key, Ascends, is_before, has_ended, IsSplit}
use Rattle.word_table.proofs.Orders.{word_key, between, not_before}

ended_long : (x : List ℤ) (d : ℕ) → has_ended (slice_get x d) ≡ true → length x ≤ d
ended_long [] d e = omega arith
ended_long (a ∷ x) zero e = absurd (false≢true e)
ended_long (a ∷ x) (suc d) e = let le : length x ≤ d = ended_long x d e in omega (arith, le)

ongoing_long : (x : List ℤ) (d : ℕ) → has_ended (slice_get x d) ≡ false → d < length x
ongoing_long [] d e = absurd (true≢false e)
ongoing_long (a ∷ x) zero e = omega arith
ongoing_long (a ∷ x) (suc d) e = let le : d < length x = ongoing_long x d e in omega (arith, le)

long_ongoing : (x : List ℤ) (d : ℕ) → d < length x → has_ended (slice_get x d) ≡ true → ⊥
long_ongoing x d lt e = let le : length x ≤ d = ended_long x d e in omega (arith, lt, le)

module _ (words : List (List ℤ)) (w : List (Option ℤ)) where
  abbrev word : ℕ → List ℤ
  word k = get_or words k []

  -- the words of the range agree with the trace up to the depth; the shorter ones that it ends with were found
  pub record Found (d low high : ℕ) (hits : List ℕ) : Type 0 where
    pub order : low ≤ high
    pub inside : high ≤ length words
    pub range : (k : ℕ) → k < length words → ((low ≤ k) × (k < high)) ↔ Agrees (word k) w d
    pub found : (k : ℕ) → Contains hits k ↔ ((k < length words) × Ends (word k) w × (length (word k) < d))

  -- and those that end at the depth too
  pub record Taken (d low high : ℕ) (hits : List ℕ) : Type 0 where
    pub order : low ≤ high
    pub inside : high ≤ length words
    pub range : (k : ℕ) → k < length words → ((low ≤ k) × (k < high)) ↔ (Agrees (word k) w d × (d < length (word k)))
    pub found : (k : ℕ) → Contains hits k ↔ ((k < length words) × Ends (word k) w × (length (word k) ≤ d))

  abbrev pub Answer : List ℕ → Type 0
  Answer hits = (k : ℕ) → Contains hits k ↔ ((k < length words) × Ends (word k) w)

  pub found_first : Found 0 0 (length words) []
  found_first = record {
    order = omega arith;
    inside = omega arith;
    range = λ k lt. ((λ h. record { long = omega arith; longer = omega arith; at = λ e less. absurd (omega (arith, less)) }), (λ h. (omega arith, lt)));
    found = λ k. ((λ h. absurd (omega (arith, h.1))), (λ h. absurd (let lt : length (word k) < 0 = h.2 in omega (arith, lt))));
  }

  agree_less : (x : List ℤ) (d e : ℕ) → e ≤ d → Agrees x w d → Agrees x w e
  agree_less x d e le h = record { long = (let l : d ≤ length w = h.long in omega (arith, l, le)); longer = (let l : d ≤ length x = h.longer in omega (arith, l, le)); at = λ n lt. h.at n (omega (arith, lt, le)) }

  pub ascends : (sorted : IsSorted words) (d low high : ℕ) (hits : List ℕ) → Found d low high hits → Ascends words d low high
  ascends sorted d low high hits h i j li ij jh =
      let jn : j < length words = omega (arith, jh, h.inside) in
      let a : Agrees (word i) w d = (h.range i (omega (arith, ij, jn))).0 (li, omega (arith, ij, jh)) in
      let b : Agrees (word j) w d = (h.range j jn).0 (omega (arith, li, ij), jh) in
      word_key d (word i) (word j) (sorted i j ij jn) a.longer b.longer (λ e lt. sym (a.at e lt) ∙ b.at e lt)

  pub after_take : (d low high cut : ℕ) (hits new : List ℕ) → Found d low high hits → IsSplit (λ k. has_ended (key words d k)) low high cut
      → ((k : ℕ) → Contains new k ↔ (Contains hits k ⊎ ((low ≤ k) × (k < cut)))) → Taken d cut high new
  after_take d low high cut hits new h s n = record {
    order = s.to;
    inside = h.inside;
    range = λ k lt. (
      (λ r. let ge : cut ≤ k = r.0 in ((h.range k lt).0 (omega (arith, ge, s.from), r.1), ongoing_long (word k) d (s.after k r.0 r.1))),
      (λ r. let inner : (low ≤ k) × (k < high) = (h.range k lt).1 r.0 in (elim (cases_lt k cut) [ inl less ↦ absurd (long_ongoing (word k) d r.1 (s.before k inner.0 less)) | inr ge ↦ ge ], inner.1)),
    );
    found = λ k. (
      (λ c. elim ((n k).0 c) [
        | inl old ↦ let o : (k < length words) × Ends (word k) w × (length (word k) < d) = (h.found k).0 old in (o.0, o.1, (let l : length (word k) < d = o.2 in omega (arith, l)))
        | inr r ↦
            let kc : k < cut = r.1 in
            let inside : k < length words = omega (arith, kc, s.to, h.inside) in
            let a : Agrees (word k) w d = (h.range k inside).0 (r.0, omega (arith, kc, s.to)) in
            let le : length (word k) ≤ d = ended_long (word k) d (s.before k r.0 kc) in
            let longer : d ≤ length (word k) = a.longer in
            let same : d ≡ length (word k) = omega (arith, le, longer) in
            (inside, subst (λ (x : ℕ). Agrees (word k) w x) same a, le)
      ]),
      (λ c. let le : length (word k) ≤ d = c.2 in (n k).1 (elim (cases_lt (length (word k)) d) [
        | inl less ↦ inl ((h.found k).1 (c.0, c.1, less))
        | inr past ↦
            let same : length (word k) ≡ d = omega (arith, past, le) in
            let r : (low ≤ k) × (k < high) = (h.range k c.0).1 (subst (λ (x : ℕ). Agrees (word k) w x) same c.1) in
            elim (cases_lt k cut) [ inl less ↦ inr (r.0, less) | inr ge ↦ absurd (let lt : d < length (word k) = ongoing_long (word k) d (s.after k ge r.1) in omega (arith, lt, le)) ]
      ])),
    );
  }

  agree_more : (x : List ℤ) (d : ℕ) (v : ℤ) → d < length w → d < length x → back w d ≡ Some v → slice_get x d ≡ Some v → Agrees x w d → Agrees x w (d + 1)
  agree_more x d v lw lx b s h = record {
    long = omega (arith, lw);
    longer = omega (arith, lx);
    at = λ e lt. elim (cases_lt e d) [ inl less ↦ h.at e less | inr past ↦ let same : d ≡ e = omega (arith, past, lt) in subst (λ (n : ℕ). back w n ≡ slice_get x n) same (b ∙ sym s) ];
  }

  by_less : (a v : ℤ) → int_lt a v ≡ true → int_le a v ≡ false → ⊥
  by_less a v e h = grind (arith, common_steps, ints)

  before_both : (v : ℤ) (x : Option ℤ) → is_before false v x ≡ true → is_before true v x ≡ false → ⊥
  before_both v None e h = true≢false h
  before_both v (Some a) e h = by_less a v e h

  pub after_narrow : (d low high from to : ℕ) (hits : List ℕ) (v : ℤ) → d < length w → back w d ≡ Some v → Taken d low high hits
      → IsSplit (λ k. is_before false v (key words d k)) low high from → IsSplit (λ k. is_before true v (key words d k)) low high to → Found (d + 1) from to hits
  after_narrow d low high from to hits v lw b h s t = record {
    order = elim (cases_lt to from) [ inl less ↦ absurd (before_both v (key words d to) (s.before to t.from less) (t.after to (omega arith) (omega (arith, less, s.to)))) | inr le ↦ le ];
    inside = omega (arith, t.to, h.inside);
    range = λ k lt. (
      (λ r. let kf : from ≤ k = r.0 in let kt : k < to = r.1 in
          let ge : low ≤ k = omega (arith, kf, s.from) in let less : k < high = omega (arith, kt, t.to) in
          let a : Agrees (word k) w d × (d < length (word k)) = (h.range k lt).0 (ge, less) in
          agree_more (word k) d v lw a.1 b (between v (key words d k) (s.after k kf less) (t.before k ge kt)) a.0),
      (λ a. let longer : d + 1 ≤ length (word k) = a.longer in
          let r : (low ≤ k) × (k < high) = (h.range k lt).1 (agree_less (word k) (d + 1) d (omega arith) a, omega (arith, longer)) in
          let is : key words d k ≡ Some v = sym (a.at d (omega arith)) ∙ b in
          let p : (is_before false v (key words d k) ≡ false) × (is_before true v (key words d k) ≡ true) = not_before v (key words d k) is in (
            elim (cases_lt k from) [ inl less ↦ absurd (true≢false (sym (s.before k r.0 less) ∙ p.0)) | inr ge ↦ ge ],
            elim (cases_lt k to) [ inl less ↦ less | inr ge ↦ absurd (true≢false (sym p.1 ∙ t.after k ge r.1)) ],
          )),
    );
    found = λ k. (
      (λ c. let o : (k < length words) × Ends (word k) w × (length (word k) ≤ d) = (h.found k).0 c in (o.0, o.1, (let l : length (word k) ≤ d = o.2 in omega (arith, l)))),
      (λ c. (h.found k).1 (c.0, c.1, (let l : length (word k) < d + 1 = c.2 in omega (arith, l)))),
    );
  }

  -- ---- the ends of the search

  pub done_trace : (d low high : ℕ) (hits : List ℕ) → length w ≤ d → Taken d low high hits → Answer hits
  done_trace d low high hits le h k = ((λ c. let o = (h.found k).0 c in (o.0, o.1)), (λ e. (h.found k).1 (e.0, e.1, (let l : length (word k) ≤ length w = e.1.long in omega (arith, l, le)))))

  pub done_unknown : (d low high : ℕ) (hits : List ℕ) → back w d ≡ None → Taken d low high hits → Answer hits
  done_unknown d low high hits b h k = (
    (λ c. let o = (h.found k).0 c in (o.0, o.1)),
    (λ e. (h.found k).1 (
      e.0,
      e.1,
      elim (cases_lt d (length (word k))) [
        | inl less ↦ absurd (long_ongoing (word k) d less (ap has_ended (sym (e.1.at d less) ∙ b)))
        | inr le ↦ le
      ],
    )),
  )

  pub done_empty : (d low high : ℕ) (hits : List ℕ) → high ≤ low → Found d low high hits → Answer hits
  done_empty d low high hits le h k = (
    (λ c. let o = (h.found k).0 c in (o.0, o.1)),
    (λ e. (h.found k).1 (
      e.0,
      e.1,
      elim (cases_lt (length (word k)) d) [
        | inl less ↦ less
        | inr past ↦ let r : (low ≤ k) × (k < high) = (h.range k e.0).1 (agree_less (word k) (length (word k)) d past e.1) in let a : low ≤ k = r.0 in let b : k < high = r.1 in absurd (omega (arith, a, b, le))
      ],
    )),
  )

  pub done_all : (d low high : ℕ) (hits : List ℕ) → All (λ x. length x < d) words → Found d low high hits → Answer hits
  done_all d low high hits short h k = ((λ c. let o = (h.found k).0 c in (o.0, o.1)), (λ e. (h.found k).1 (e.0, e.1, short k [] e.0)))

pub none_left : (x : Option ℤ) → ((v : ℤ) → x ≡ Some v → ⊥) → x ≡ None
none_left None h = refl
none_left (Some v) h = absurd (h v refl)
