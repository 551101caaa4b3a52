-- What a rule any number of times keeps.
use Rattle.std.proofs.Common.{◌≡◌, ℕ, zero, suc, ◌+◌, ◌<◌, ◌≤◌, List, ◌++◌, true, false, inl, inr, length, refl, sym, ◌∙◌, ap, subst, arith}
use Rattle.std.proofs.lemmas.Bool.{cases_lt, cases_order}
use Rattle.cov_lexer.specs.declared.kind.Kind.{Kind}
use Rattle.cov_grammar.specs.declared.marked.Marked.{Marked}
use Rattle.cov_grammar.specs.declared.place.Place.{Place}
use Rattle.cov_grammar.specs.Rule.{Rule, In, give, bind, times, many}
use Rattle.cov_grammar.proofs.Sets.{disjoint, split, In_apart, In_left, In_right}
use Rattle.cov_grammar.proofs.Facts.{Facts}

-- A any number of times, where A has a token at least, and nothing that goes on with A begins it
module _ {S T : Type 0} (ts : List Marked) (f : S → T → S) (A : Rule T) (fa ca : List Kind)
    (a_facts : Facts ts A fa ca false) (apart : disjoint ca fa ≡ true) where
  longer : (p : Place) (t : T) (q : Place) → A.derives p t q → p.at < q.at
  longer p t q h = elim (split q.at p.at (a_facts.order p q.at (a_facts.whole p t q h))) [
    | inl e ↦ (let no = (a_facts.blank p t q h e).0 in absurd (cc))
    | inr l ↦ l
  ]

  times_order : (c : ℕ) (acc : S) (p : Place) (n : ℕ) → (times f A c acc).begins p n → p.at ≤ n
  unfolding times bind give
  times_order zero acc p n h = omega (arith, h)
  times_order (suc c) acc p n h = elim h [
    | inl g ↦ a_facts.order p n g
    | inr x ↦ (let l = longer p x.0 x.1 x.2 in let o = times_order c (f acc x.0) x.1 n x.3 in omega arith)
  ]

  times_whole : (c : ℕ) (acc : S) (p : Place) (t : S) (q : Place) → (times f A c acc).derives p t q → (times f A c acc).begins p q.at
  unfolding times bind give
  times_whole zero acc p t q h = ap (λ (x : Place). x.at) h.1
  times_whole (suc c) acc p t q h = inr (h.0, h.1, h.2, times_whole c (f acc h.0) h.1 t q h.3)

  times_shorter : (c : ℕ) (acc : S) (p : Place) (m n : ℕ) → (times f A c acc).begins p n → p.at ≤ m → m ≤ n → (times f A c acc).begins p m
  unfolding times bind give
  times_shorter zero acc p m n h l l' = omega (arith, h)
  times_shorter (suc c) acc p m n h l l' = elim h [
    | inl g ↦ inl (a_facts.shorter p m n g l l')
    | inr x ↦ elim (cases_lt m x.1.at) [
      | inl y ↦ inl (a_facts.shorter p m x.1.at (a_facts.whole p x.0 x.1 x.2) l (omega arith))
      | inr y ↦ inr (x.0, x.1, x.2, times_shorter c (f acc x.0) x.1 m n x.3 y l')
    ]
  ]

  times_starts : (c : ℕ) (acc : S) (p : Place) (n : ℕ) → (times f A c acc).begins p n → p.at < n → In ts p.at fa
  unfolding times bind give
  times_starts zero acc p n h l = absurd (omega (arith, h))
  times_starts (suc c) acc p n h l = elim h [
    | inl g ↦ a_facts.starts p n g l
    | inr x ↦ a_facts.starts p x.1.at (a_facts.whole p x.0 x.1 x.2) (longer p x.0 x.1 x.2)
  ]

  times_inside : (c : ℕ) (acc : S) (p : Place) (n : ℕ) → (times f A c acc).begins p n → p.at < n → n ≤ length ts
  unfolding times bind give
  times_inside zero acc p n h l = absurd (omega (arith, h))
  times_inside (suc c) acc p n h l = elim h [
    | inl g ↦ a_facts.inside p n g l
    | inr x ↦ elim (cases_lt x.1.at n) [
      | inl y ↦ times_inside c (f acc x.0) x.1 n x.3 y
      | inr y ↦ (let z = times_order c (f acc x.0) x.1 n x.3 in let w = a_facts.inside p x.1.at (a_facts.whole p x.0 x.1 x.2) (longer p x.0 x.1 x.2) in omega arith)
    ]
  ]

  times_blank : (c : ℕ) (acc : S) (p : Place) (t : S) (q : Place) → (times f A c acc).derives p t q → q.at ≡ p.at → q ≡ p
  unfolding times bind give
  times_blank zero acc p t q h e = h.1
  times_blank (suc c) acc p t q h e =
      let l = longer p h.0 h.1 h.2 in
      let o = times_order c (f acc h.0) h.1 q.at (times_whole c (f acc h.0) h.1 t q h.3) in
      absurd (omega arith)

  again : (p : Place) (a : T) (m : Place) (n k c : ℕ) (acc : S) → A.derives p a m → A.begins p n → m.at < n → (times f A c acc).begins m k → m.at < k → ⊥
  again p a m n k c acc d g l h l' =
      In_apart ts m.at ca fa apart
      (a_facts.goes_on p a m d (a_facts.shorter p (m.at + 1) n g (let o = longer p a m d in omega arith) (omega arith)))
      (times_starts c acc m k h l')

  times_goes_on : (c c' : ℕ) (acc acc' : S) (p : Place) (t : S) (q : Place) → (times f A c acc).derives p t q → (times f A c' acc').begins p (q.at + 1) → In ts q.at (ca ++ fa)
  unfolding times bind give
  times_goes_on zero c' acc acc' p t q h g =
      In_right ts q.at ca fa (times_starts c' acc' q (q.at + 1) (subst (λ m. (times f A c' acc').begins m (q.at + 1)) (sym h.1) g) (omega arith))
  times_goes_on (suc c) zero acc acc' p t q h g =
      let l = longer p h.0 h.1 h.2 in
      let o = times_order c (f acc h.0) h.1 q.at (times_whole c (f acc h.0) h.1 t q h.3) in
      absurd (omega (arith, g))
  times_goes_on (suc c) (suc c') acc acc' p t q h g =
      let b = times_whole c (f acc h.0) h.1 t q h.3 in
      let o = times_order c (f acc h.0) h.1 q.at b in
      let at_end : q.at ≡ h.1.at → A.begins p (q.at + 1) → In ts q.at (ca ++ fa) = (λ e x.
      In_left ts q.at ca fa (a_facts.goes_on p h.0 q (subst (λ m. A.derives p h.0 m) (sym (times_blank c (f acc h.0) h.1 t q h.3 e)) h.2) x)) in
      elim g [
        | inl x ↦ elim (split q.at h.1.at o) [
          | inl e ↦ at_end e x
          | inr l ↦ absurd (again p h.0 h.1 (q.at + 1) q.at c (f acc h.0) h.2 x (omega arith) b l)
        ]
        | inr x ↦ elim (cases_order x.1.at h.1.at) [
          | inl e ↦ times_goes_on c c' (f acc h.0) (f acc' x.0) h.1 t q h.3
              (subst (λ m. (times f A c' (f acc' x.0)).begins m (q.at + 1)) (a_facts.one_tree p x.0 h.0 x.1 h.1 x.2 h.2 e).1 x.3)
          | inr y ↦ elim y [
            | inl l ↦ absurd (again p x.0 x.1 h.1.at (q.at + 1) c' (f acc' x.0) x.2 (a_facts.whole p h.0 h.1 h.2) l x.3 (omega arith))
            | inr l ↦ (let z = times_order c' (f acc' x.0) x.1 (q.at + 1) x.3 in elim (split q.at h.1.at o) [
              | inl e ↦ at_end e (subst (λ m. A.begins p m) (omega arith) (a_facts.whole p x.0 x.1 x.2))
              | inr l' ↦ absurd (again p h.0 h.1 x.1.at q.at c (f acc h.0) h.2 (a_facts.whole p x.0 x.1 x.2) l b l')
            ])
          ]
        ]
      ]

  times_one : (c c' : ℕ) (acc : S) (p : Place) (t u : S) (q r : Place) → (times f A c acc).derives p t q → (times f A c' acc).derives p u r → q.at ≡ r.at → (t ≡ u) × (q ≡ r)
  unfolding times bind give
  times_one zero zero acc p t u q r h k e = (h.0 ∙ sym k.0, h.1 ∙ sym k.1)
  times_one zero (suc c') acc p t u q r h k e =
      let l = longer p k.0 k.1 k.2 in
      let o = times_order c' (f acc k.0) k.1 r.at (times_whole c' (f acc k.0) k.1 u r k.3) in
      absurd (omega (arith, ap (λ (x : Place). x.at) h.1))
  times_one (suc c) zero acc p t u q r h k e =
      let l = longer p h.0 h.1 h.2 in
      let o = times_order c (f acc h.0) h.1 q.at (times_whole c (f acc h.0) h.1 t q h.3) in
      absurd (omega (arith, ap (λ (x : Place). x.at) k.1))
  times_one (suc c) (suc c') acc p t u q r h k e =
      let x = times_whole c (f acc h.0) h.1 t q h.3 in
      let y = times_whole c' (f acc k.0) k.1 u r k.3 in
      let ox = times_order c (f acc h.0) h.1 q.at x in
      let oy = times_order c' (f acc k.0) k.1 r.at y in
      elim (cases_order k.1.at h.1.at) [
        | inl s ↦ (let w = a_facts.one_tree p k.0 h.0 k.1 h.1 k.2 h.2 s in
            times_one c c' (f acc h.0) h.1 t u q r h.3
            (subst (λ m. (times f A c' (f acc h.0)).derives m u r) w.1 (subst (λ a. (times f A c' (f acc a)).derives k.1 u r) w.0 k.3)) e)
        | inr z ↦ elim z [
          | inl l ↦ absurd (again p k.0 k.1 h.1.at r.at c' (f acc k.0) k.2 (a_facts.whole p h.0 h.1 h.2) l y (omega arith))
          | inr l ↦ absurd (again p h.0 h.1 k.1.at q.at c (f acc h.0) h.2 (a_facts.whole p k.0 k.1 k.2) l x (omega arith))
        ]
      ]

  pub many_facts : (acc : S) → Facts ts (many f A acc) fa (ca ++ fa) true
  unfolding many times give
  many_facts acc = record {
    order = λ p n h. times_order h.0 acc p n h.1;
    empty = λ p. (0, refl);
    whole = λ p t q h. (h.0, times_whole h.0 acc p t q h.1);
    shorter = λ p m n h l l'. (h.0, times_shorter h.0 acc p m n h.1 l l');
    starts = λ p n h l. times_starts h.0 acc p n h.1 l;
    inside = λ p n h l. times_inside h.0 acc p n h.1 l;
    blank = λ p t q h e. (refl, times_blank h.0 acc p t q h.1 e);
    goes_on = λ p t q h g. times_goes_on h.0 g.0 acc acc p t q h.1 g.1;
    one_tree = λ p t u q r h k e. times_one h.0 k.0 acc p t u q r h.1 k.1 e;
  }
