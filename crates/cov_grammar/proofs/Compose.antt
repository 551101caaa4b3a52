-- What readers of the parts of a rule say of a reader of the whole.
use Rattle.std.proofs.Common.{◌≡◌, ℕ, zero, suc, ◌+◌, ◌<◌, ◌≤◌, List, [], ◌++◌, Some, None, true, false, ◌⊎◌, inl, inr, refl, sym, ap, subst, arith}
use Rattle.std.proofs.lemmas.Bool.{cases_lt}
use Rattle.cov_grammar.specs.declared.marked.Marked.{Marked}
use Rattle.cov_grammar.specs.declared.place.Place.{Place}
use Rattle.cov_grammar.specs.declared.place.Room.{Room}
use Rattle.cov_grammar.specs.declared.place.Stop.{Stop}
use Rattle.cov_grammar.specs.declared.place.Stop.TheVariants.{Memory, Syntax, TooDeep}
use Rattle.cov_grammar.specs.Rule.{Rule, In, give, bind, either, times, many, map_to, both, maybe, afresh}
use Rattle.cov_grammar.specs.Parses.{Reads, Stops, Cause, Fails}
use Rattle.cov_grammar.proofs.Sets.{disjoint, split, disjoint-nil}
use Rattle.cov_grammar.proofs.Facts.{Facts, cut}
use Rattle.cov_grammar.proofs.Sound.{Under, same_room, join, join_left, join_right, Within, give_sound, map_sound, many_sound}
use Rattle.cov_grammar.proofs.Lawful.{Lawful, Lawfuls, facts_of, full}

at_of : {p q : Place} → q ≡ p → q.at ≡ p.at
at_of e = ap (λ (x : Place). x.at) e

module _ {S T : Type 0} (ts : List Marked) (A : Room → Rule S) (B : Room → S → Rule T) (la : Lawful ts A) (lb : Lawfuls ts B) (apart : disjoint la.cont lb.first ≡ true) where
  up_a : (d e : Room) → Under d e → Within (A d) (A e)
  up_a d e h = (la.sound d e h).within

  a_facts : (d : Room) → Facts ts (A d) la.first la.cont la.null
  a_facts d = facts_of la d

  b_facts : (d : Room) (a : S) → Facts ts (B d a) lb.first lb.cont lb.null
  b_facts d a = (lb.sound a d d (same_room d)).less

  agree : (d e : Room) (p : Place) (a b : S) (m n : Place) → (A d).derives p a m → (A e).derives p b n → m.at ≡ n.at → (a ≡ b) × (m ≡ n)
  agree d e p a b m n h k s = (a_facts (join d e)).one_tree p a b m n
      ((up_a d (join d e) (join_left d e)).derives p a m h)
      ((up_a e (join d e) (join_right d e)).derives p b n k) s

  -- where A could go on, B doesn't begin
  apart_at : (d e : Room) (p : Place) (n : ℕ) (a : S) (m : Place) (k : ℕ) → (A d).begins p n → (A e).derives p a m → m.at < n → (B e a).begins m k → m.at < k → ⊥
  apart_at d e p n a m k g h l b l' =
      cut ts (A (join d e)) (B (join d e)) la.first la.cont la.null lb.first lb.cont lb.null (a_facts (join d e)) (b_facts (join d e)) apart
      p a a m n k
      ((up_a e (join d e) (join_right d e)).derives p a m h)
      ((up_a d (join d e) (join_left d e)).begins p n g) l
      (((lb.sound a e (join d e) (join_right d e)).within).begins m k b) l'

  -- behind what A read
  reach_then : (d : Room) (p : Place) (a : S) (m : Place) (k : ℕ) → Reads A d p a m → m.at ≤ k → (e : Room) → ((n : ℕ) → (B e a).begins m n → n ≤ k) → (n : ℕ) → (bind (A e) (B e)).begins p n → n ≤ k
  unfolding bind
  reach_then d p a m k ra mk e rb n h = elim h [
    | inl g ↦ (let l = ra.reach e n g in omega arith)
    | inr x ↦
        let l = ra.reach e x.1.at ((a_facts e).whole p x.0 x.1 x.2) in
        elim (split m.at x.1.at l) [
          | inl at ↦ (let s = agree d e p a x.0 m x.1 ra.derives x.2 at in
              rb n (subst (λ z. (B e a).begins z n) (sym s.1) (subst (λ y. (B e y).begins x.1 n) (sym s.0) x.3)))
          | inr less ↦ elim (cases_lt x.1.at n) [
            | inl more ↦ absurd (apart_at d e p m.at x.0 x.1 n ((a_facts d).whole p a m ra.derives) x.2 less x.3 more)
            | inr stays ↦ omega arith
          ]
        ]
  ]

  none_then : (d : Room) (p : Place) (a : S) (m : Place) (k : ℕ) → Reads A d p a m → m.at ≤ k → (e : Room) → ((t : T) (q : Place) → (B e a).derives m t q → q.at ≡ k → ⊥) →
      (t : T) (q : Place) → (bind (A e) (B e)).derives p t q → q.at ≡ k → ⊥
  unfolding bind
  none_then d p a m k ra mk e rb t q x qk =
      let l = ra.reach e x.1.at ((a_facts e).whole p x.0 x.1 x.2) in
      elim (split m.at x.1.at l) [
        | inl at ↦ (let s = agree d e p a x.0 m x.1 ra.derives x.2 at in
            rb t q (subst (λ z. (B e a).derives z t q) (sym s.1) (subst (λ y. (B e y).derives x.1 t q) (sym s.0) x.3)) qk)
        | inr less ↦ apart_at d e p m.at x.0 x.1 q.at ((a_facts d).whole p a m ra.derives) x.2 less ((b_facts e x.0).whole x.1 t q x.3) (omega arith)
      ]

  pub bind_reads : (d : Room) (p : Place) (a : S) (m : Place) (t : T) (q : Place) → Reads A d p a m → Reads (λ e. B e a) d m t q → Reads (λ e. bind (A e) (B e)) d p t q
  unfolding bind
  bind_reads d p a m t q ra rb = record {
    derives = (a, m, ra.derives, rb.derives);
    reach = λ e. reach_then d p a m q.at ra ((b_facts d a).order m q.at ((b_facts d a).whole m t q rb.derives)) e (rb.reach e);
  }

  pub bind_then_fails : (d : Room) (p : Place) (a : S) (m : Place) (s : Stop) → Reads A d p a m → Cause (λ e. B e a) d m s → Cause (λ e. bind (A e) (B e)) d p s
  unfolding bind
  bind_then_fails d p a m Memory ra f = tt
  bind_then_fails d p a m (Syntax k) ra f =
      let mk = (b_facts d a).order m k f.begins in record {
        begins = inr (a, m, ra.derives, f.begins);
        reach = λ e. reach_then d p a m k ra mk e (f.reach e);
        none = λ e. none_then d p a m k ra mk e (f.none e);
      }
  bind_then_fails d p a m (TooDeep k) ra f =
      let mk = (b_facts d a).order m k f.begins in record {
        begins = inr (a, m, ra.derives, f.begins);
        more = join d f.more;
        deeper = inr (
          a,
          m,
          (up_a d (join d f.more) (join_left d f.more)).derives p a m ra.derives,
          ((lb.sound a f.more (join d f.more) (join_right d f.more)).within).begins m (k + 1) f.deeper,
        );
        reach = reach_then d p a m k ra mk d f.reach;
      }

  -- where A itself fails
  reach_here : (e d' : Room) (p : Place) (k : ℕ) → (A d').begins p k → ((n : ℕ) → (A e).begins p n → n ≤ k) →
      ((a : S) (m : Place) (n : ℕ) → (A e).derives p a m → m.at ≡ k → (B e a).begins m n → n ≤ k) → (n : ℕ) → (bind (A e) (B e)).begins p n → n ≤ k
  unfolding bind
  reach_here e d' p k g ra at n h = elim h [
    | inl x ↦ ra n x
    | inr x ↦
        let l = ra x.1.at ((a_facts e).whole p x.0 x.1 x.2) in
        elim (split k x.1.at l) [
          | inl eq ↦ at x.0 x.1 n x.2 (sym eq) x.3
          | inr less ↦ elim (cases_lt x.1.at n) [
            | inl more ↦ absurd (apart_at d' e p k x.0 x.1 n g x.2 less x.3 more)
            | inr stays ↦ omega arith
          ]
        ]
  ]

  pub bind_fails : (d : Room) (p : Place) (s : Stop) → Cause A d p s → Cause (λ e. bind (A e) (B e)) d p s
  unfolding bind
  bind_fails d p Memory f = tt
  bind_fails d p (Syntax k) f = record {
    begins = inl f.begins;
    reach = λ e. reach_here e d p k f.begins (f.reach e) (λ a m n h eq b. absurd (f.none e a m h eq));
    none = λ e t q x qk.
        let l = f.reach e x.1.at ((a_facts e).whole p x.0 x.1 x.2) in
        elim (split k x.1.at l) [
          | inl eq ↦ f.none e x.0 x.1 x.2 (sym eq)
          | inr less ↦ apart_at d e p k x.0 x.1 k f.begins x.2 less (subst (λ n. (B e x.0).begins x.1 n) qk ((b_facts e x.0).whole x.1 t q x.3)) less
        ];
  }
  bind_fails d p (TooDeep k) f = record {
    begins = inl f.begins;
    more = f.more;
    deeper = inl f.deeper;
    reach = reach_here d d p k f.begins f.reach (λ a m n h eq b.
        elim (cases_lt k n) [
          | inl over ↦ absurd (apart_at f.more d p (k + 1) a m n f.deeper h (omega arith) b (omega arith))
          | inr stays ↦ stays
        ]);
  }

give_reads : {T : Type 0} (x : T) (d : Room) (p : Place) → Reads (λ _. give x) d p x p
unfolding give
give_reads x d p = record { derives = (refl, refl); reach = λ e n h. omega (arith, h) }

module _ {S T : Type 0} {ts : List Marked} {A : Room → Rule S} (f : S → T) (la : Lawful ts A) where
  given : Lawfuls ts (λ (e : Room) (a : S). give (f a))
  given = record { first = []; cont = []; null = true; sound = λ a d e h. give_sound ts (f a) }

  pub map_reads : {d : Room} {p : Place} {a : S} {q : Place} → Reads A d p a q → Reads (λ e. map_to f (A e)) d p (f a) q
  unfolding map_to given
  map_reads {d = d} {p = p} {a = a} {q = q} r = bind_reads ts A (λ e a. give (f a)) la given (disjoint-nil la.cont) d p a q (f a) q r (give_reads (f a) d q)

  pub map_fails : {d : Room} {p : Place} {s : Stop} → Fails A d p s → Fails (λ e. map_to f (A e)) d p s
  unfolding map_to given
  map_fails {d = d} {p = p} {s = s} r = record { cause = bind_fails ts A (λ e a. give (f a)) la given (disjoint-nil la.cont) d p s r.cause }

module _ {S T U : Type 0} {ts : List Marked} {A : Room → Rule S} {B : Room → Rule T} (f : S → T → U) (la : Lawful ts A) (lb : Lawful ts B) (apart : disjoint la.cont lb.first ≡ true) where
  second : Lawfuls ts (λ e a. map_to (f a) (B e))
  second = record { first = lb.first; cont = lb.cont; null = lb.null; sound = λ a d e h. map_sound (f a) (lb.sound d e h) }

  pub both_reads : {d : Room} {p : Place} {a : S} {m : Place} {b : T} {q : Place} → Reads A d p a m → Reads B d m b q → Reads (λ e. both f (A e) (B e)) d p (f a b) q
  unfolding both second
  both_reads {d = d} {p = p} {a = a} {m = m} {b = b} {q = q} r s =
      bind_reads ts A (λ e a. map_to (f a) (B e)) la second apart d p a m (f a b) q r (map_reads (f a) lb s)

  pub both_fails : {d : Room} {p : Place} {s : Stop} → Fails A d p s → Fails (λ e. both f (A e) (B e)) d p s
  unfolding both second
  both_fails {d = d} {p = p} {s = s} r = record { cause = bind_fails ts A (λ e a. map_to (f a) (B e)) la second apart d p s r.cause }

  pub both_then_fails : {d : Room} {p : Place} {a : S} {m : Place} {s : Stop} → Reads A d p a m → Fails B d m s → Fails (λ e. both f (A e) (B e)) d p s
  unfolding both second
  both_then_fails {d = d} {p = p} {a = a} {m = m} {s = s} r q =
      record { cause = bind_then_fails ts A (λ e a. map_to (f a) (B e)) la second apart d p a m s r (map_fails (f a) lb q).cause }

-- A or B, by the token that stands there
module _ {T : Type 0} {ts : List Marked} {A B : Room → Rule T} (la : Lawful ts A) (lb : Lawful ts B) (filled : lb.null ≡ false) (apart : disjoint la.first lb.first ≡ true) where
  fa : (d : Room) → Facts ts (A d) la.first la.cont la.null
  fa d = facts_of la d

  fb : (d : Room) → Facts ts (B d) lb.first lb.cont lb.null
  fb d = facts_of lb d

  not_b : (e : Room) (p : Place) (n : ℕ) → (In ts p.at lb.first → ⊥) → (B e).begins p n → n ≤ p.at
  not_b e p n no-b h = elim (cases_lt p.at n) [ inl l ↦ absurd (no-b ((fb e).starts p n h l)) | inr g ↦ g ]

  not_a : (e : Room) (p : Place) (n : ℕ) → (In ts p.at la.first → ⊥) → (A e).begins p n → n ≤ p.at
  not_a e p n no-a h = elim (cases_lt p.at n) [ inl l ↦ absurd (no-a ((fa e).starts p n h l)) | inr g ↦ g ]

  pub left_reads : {d : Room} {p : Place} {t : T} {q : Place} → (In ts p.at lb.first → ⊥) → Reads A d p t q → Reads (λ e. either (A e) (B e)) d p t q
  unfolding either
  left_reads {d = d} {p = p} {t = t} {q = q} no-b r =
      let o = (fa d).order p q.at ((fa d).whole p t q r.derives) in record {
        derives = inl r.derives;
        reach = λ e n h. elim h [ inl g ↦ r.reach e n g | inr g ↦ (let l = not_b e p n no-b g in omega arith) ];
      }

  left_cause : (d : Room) (p : Place) (s : Stop) → (In ts p.at lb.first → ⊥) → Cause A d p s → Cause (λ e. either (A e) (B e)) d p s
  unfolding either
  left_cause d p Memory no-b f = tt
  left_cause d p (Syntax k) no-b f =
      let o = (fa d).order p k f.begins in record {
        begins = inl f.begins;
        reach = λ e n h. elim h [ inl g ↦ f.reach e n g | inr g ↦ (let l = not_b e p n no-b g in omega arith) ];
        none = λ e t q h qk. elim h [
          | inl g ↦ f.none e t q g qk
          | inr g ↦ (let l = not_b e p q.at no-b ((fb e).whole p t q g) in let n = ((fb e).blank p t q g (omega arith)).0 in cc filled)
        ];
      }
  left_cause d p (TooDeep k) no-b f =
      let o = (fa d).order p k f.begins in record {
        begins = inl f.begins;
        more = f.more;
        deeper = inl f.deeper;
        reach = λ n h. elim h [ inl g ↦ f.reach n g | inr g ↦ (let l = not_b d p n no-b g in omega arith) ];
      }

  pub left_fails : {d : Room} {p : Place} {s : Stop} → (In ts p.at lb.first → ⊥) → Fails A d p s → Fails (λ e. either (A e) (B e)) d p s
  left_fails {d = d} {p = p} {s = s} no-b f = record { cause = left_cause d p s no-b f.cause }

  pub right_reads : {d : Room} {p : Place} {t : T} {q : Place} → (In ts p.at la.first → ⊥) → Reads B d p t q → Reads (λ e. either (A e) (B e)) d p t q
  unfolding either
  right_reads {d = d} {p = p} {t = t} {q = q} no-a r =
      let o = (fb d).order p q.at ((fb d).whole p t q r.derives) in record {
        derives = inr r.derives;
        reach = λ e n h. elim h [ inl g ↦ (let l = not_a e p n no-a g in omega arith) | inr g ↦ r.reach e n g ];
      }

  right_cause : (d : Room) (p : Place) (s : Stop) → la.null ≡ false → (In ts p.at la.first → ⊥) → Cause B d p s → Cause (λ e. either (A e) (B e)) d p s
  unfolding either
  right_cause d p Memory full no-a f = tt
  right_cause d p (Syntax k) full no-a f =
      let o = (fb d).order p k f.begins in record {
        begins = inr f.begins;
        reach = λ e n h. elim h [ inl g ↦ (let l = not_a e p n no-a g in omega arith) | inr g ↦ f.reach e n g ];
        none = λ e t q h qk. elim h [
          | inl g ↦ (let l = not_a e p q.at no-a ((fa e).whole p t q g) in let n = ((fa e).blank p t q g (omega arith)).0 in cc full)
          | inr g ↦ f.none e t q g qk
        ];
      }
  right_cause d p (TooDeep k) full no-a f =
      let o = (fb d).order p k f.begins in record {
        begins = inr f.begins;
        more = f.more;
        deeper = inr f.deeper;
        reach = λ n h. elim h [ inl g ↦ (let l = not_a d p n no-a g in omega arith) | inr g ↦ f.reach n g ];
      }

  pub right_fails : {d : Room} {p : Place} {s : Stop} → la.null ≡ false → (In ts p.at la.first → ⊥) → Fails B d p s → Fails (λ e. either (A e) (B e)) d p s
  right_fails {d = d} {p = p} {s = s} full no-a f = record { cause = right_cause d p s full no-a f.cause }

-- a fault behind the first token
abbrev pub Past : Place → Stop → Type 0
Past p Memory = Unit {0}
Past p (Syntax k) = p.at < k
Past p (TooDeep k) = Unit {0}

-- A or nothing
module _ {T : Type 0} {ts : List Marked} {A : Room → Rule T} (la : Lawful ts A) (filled : la.null ≡ false) where
  some_facts : (d : Room) → Facts ts (map_to Some (A d)) la.first la.cont la.null
  some_facts d = (map_sound Some (la.sound d d (same_room d))).less

  pub maybe_none : {d : Room} {p : Place} → (In ts p.at la.first → ⊥) → Reads (λ e. maybe (A e)) d p None p
  unfolding maybe either give
  maybe_none {d = d} {p = p} no-a = record {
    derives = inl (refl, refl);
    reach = λ e n h. elim h [
      | inl g ↦ omega (arith, g)
      | inr g ↦ elim (cases_lt p.at n) [ inl l ↦ absurd (no-a ((some_facts e).starts p n g l)) | inr x ↦ x ]
    ];
  }

  pub maybe_some : {d : Room} {p : Place} {t : T} {q : Place} → Reads A d p t q → Reads (λ e. maybe (A e)) d p (Some t) q
  unfolding maybe either give
  maybe_some {d = d} {p = p} {t = t} {q = q} r =
      let r' : Reads (λ e. map_to Some (A e)) d p (Some t) q = map_reads Some la r in
      let o = (some_facts d).order p q.at ((some_facts d).whole p (Some t) q r'.derives) in record {
        derives = inr r'.derives;
        reach = λ e n h. elim h [ inl g ↦ omega (arith, g) | inr g ↦ r'.reach e n g ];
      }

  maybe_cause : (d : Room) (p : Place) (s : Stop) → Past p s → Cause A d p s → Cause (λ e. maybe (A e)) d p s
  unfolding maybe either give
  maybe_cause d p Memory l f = tt
  maybe_cause d p (Syntax k) l f =
      let w : Fails A d p (Syntax k) = record { cause = f } in
      let m : Fails (λ e. map_to Some (A e)) d p (Syntax k) = map_fails Some la w in
      let c = m.cause in record {
        begins = inr c.begins;
        reach = λ e n h. elim h [ inl g ↦ omega (arith, g, l) | inr g ↦ c.reach e n g ];
        none = λ e t q h qk. elim h [ inl g ↦ omega (arith, at_of g.1, l, qk) | inr g ↦ c.none e t q g qk ];
      }
  maybe_cause d p (TooDeep k) l f =
      let w : Fails A d p (TooDeep k) = record { cause = f } in
      let m : Fails (λ e. map_to Some (A e)) d p (TooDeep k) = map_fails Some la w in
      let c = m.cause in
      let o = (some_facts d).order p k c.begins in record {
        begins = inr c.begins;
        more = c.more;
        deeper = inr c.deeper;
        reach = λ n h. elim h [ inl g ↦ omega (arith, g) | inr g ↦ c.reach n g ];
      }

  pub maybe_fails : {d : Room} {p : Place} {s : Stop} → Past p s → Fails A d p s → Fails (λ e. maybe (A e)) d p s
  maybe_fails {d = d} {p = p} {s = s} l f = record { cause = maybe_cause d p s l f.cause }

-- A any number of times
module _ {S T : Type 0} {ts : List Marked} {A : Room → Rule T} (f : S → T → S) (la : Lawful ts A) (filled : la.null ≡ false) (again : disjoint la.cont la.first ≡ true) where
  rest : (acc : S) → Lawfuls ts (λ (e : Room) (x : T). many f (A e) (f acc x))
  rest acc = record { first = la.first; cont = la.cont ++ la.first; null = true; sound = λ x d e h. many_sound f (f acc x) (full la filled d e h) again }

  many_facts_of : (acc : S) (d : Room) → Facts ts (many f (A d) acc) la.first (la.cont ++ la.first) true
  many_facts_of acc d = (many_sound f acc (full la filled d d (same_room d)) again).less

  pub many_done : {d : Room} {p : Place} {acc : S} → (In ts p.at la.first → ⊥) → Reads (λ e. many f (A e) acc) d p acc p
  unfolding many times give
  many_done {d = d} {p = p} {acc = acc} no-a = record {
    derives = (0, (refl, refl));
    reach = λ e n h. elim (cases_lt p.at n) [ inl l ↦ absurd (no-a ((many_facts_of acc e).starts p n h l)) | inr g ↦ g ];
  }

  -- many of them are none, or one and then many
  one_more : (e : Room) (p : Place) (acc t : S) (q : Place) → (bind (A e) (λ x. many f (A e) (f acc x))).derives p t q → (many f (A e) acc).derives p t q
  unfolding many times bind
  one_more e p acc t q h = (suc h.3.0, (h.0, h.1, h.2, h.3.1))

  one_begins : (e : Room) (p : Place) (acc : S) (n : ℕ) → (bind (A e) (λ x. many f (A e) (f acc x))).begins p n → (many f (A e) acc).begins p n
  unfolding many times bind
  one_begins e p acc n h = elim h [ inl g ↦ (1, inl g) | inr x ↦ (suc x.3.0, inr (x.0, x.1, x.2, x.3.1)) ]

  none_or_more : (e : Room) (p : Place) (c : ℕ) (acc t : S) (q : Place) → (times f (A e) c acc).derives p t q → (q.at ≡ p.at) ⊎ (bind (A e) (λ x. many f (A e) (f acc x))).derives p t q
  unfolding many times bind give
  none_or_more e p zero acc t q h = inl (at_of h.1)
  none_or_more e p (suc c) acc t q h = inr (h.0, h.1, h.2, (c, h.3))

  none_or_begins : (e : Room) (p : Place) (c : ℕ) (acc : S) (n : ℕ) → (times f (A e) c acc).begins p n → (bind (A e) (λ x. many f (A e) (f acc x))).begins p n
  unfolding many times bind give
  none_or_begins e p zero acc n h = inl (subst (λ m. (A e).begins p m) (sym h) ((facts_of la e).empty p))
  none_or_begins e p (suc c) acc n h = elim h [ inl g ↦ inl g | inr x ↦ inr (x.0, x.1, x.2, (c, x.3)) ]

  from_bind : (d : Room) (p : Place) (acc : S) (s : Stop) → Past p s → Cause (λ e. bind (A e) (λ x. many f (A e) (f acc x))) d p s → Cause (λ e. many f (A e) acc) d p s
  unfolding many
  from_bind d p acc Memory l c = tt
  from_bind d p acc (Syntax k) l c = record {
    begins = one_begins d p acc k c.begins;
    reach = λ e n h. c.reach e n (none_or_begins e p h.0 acc n h.1);
    none = λ e t q h qk. elim (none_or_more e p h.0 acc t q h.1) [ inl x ↦ omega arith | inr x ↦ c.none e t q x qk ];
  }
  from_bind d p acc (TooDeep k) l c = record {
    begins = one_begins d p acc k c.begins;
    more = c.more;
    deeper = one_begins c.more p acc (k + 1) c.deeper;
    reach = λ n h. c.reach n (none_or_begins d p h.0 acc n h.1);
  }

  pub many_fails : {d : Room} {p : Place} (acc : S) {s : Stop} → Past p s → Fails A d p s → Fails (λ e. many f (A e) acc) d p s
  unfolding rest
  many_fails {d = d} {p = p} acc {s = s} l r = record {
    cause = from_bind d p acc s l (bind_fails ts A (λ e x. many f (A e) (f acc x)) la (rest acc) again d p s r.cause);
  }

  -- where not even one begins
  pub many_stuck : {d : Room} {p : Place} (acc : S) → Stops A d p p.at → Reads (λ e. many f (A e) acc) d p acc p
  unfolding many times give bind
  many_stuck {d = d} {p = p} acc c = record {
    derives = (0, (refl, refl));
    reach = λ e n h. elim (none_or_begins e p h.0 acc n h.1) [
      | inl g ↦ c.reach e n g
      | inr x ↦ (let o = (facts_of la e).order p x.1.at ((facts_of la e).whole p x.0 x.1 x.2) in
          let l = c.reach e x.1.at ((facts_of la e).whole p x.0 x.1 x.2) in
          absurd (c.none e x.0 x.1 x.2 (omega arith)))
    ];
  }

  further : (p q : Place) (d : Room) (x : T) (s : Stop) (acc : S) → Reads A d p x q → Cause (λ e. many f (A e) acc) d q s → Past p s
  further p q d x Memory acc r c = tt
  further p q d x (Syntax k) acc r c =
      let l = (facts_of la d).order p q.at ((facts_of la d).whole p x q r.derives) in
      let o = (many_facts_of acc d).order q k c.begins in
      elim (split q.at p.at l) [
        | inl e ↦ (let b = ((facts_of la d).blank p x q r.derives e).0 in absurd (cc))
        | inr l' ↦ omega arith
      ]
  further p q d x (TooDeep k) acc r c = tt

  pub more_reads : {d : Room} {p : Place} (acc : S) {x : T} {q : Place} {t : S} {k : Place} → Reads A d p x q → Reads (λ e. many f (A e) (f acc x)) d q t k → Reads (λ e. many f (A e) acc) d p t k
  unfolding rest many
  more_reads {d = d} {p = p} acc {x = x} {q = q} {t = t} {k = k} r m =
      let b = bind_reads ts A (λ e x. many f (A e) (f acc x)) la (rest acc) again d p x q t k r m in record {
        derives = one_more d p acc t k b.derives;
        reach = λ e n h. b.reach e n (none_or_begins e p h.0 acc n h.1);
      }

  pub more_fails : {d : Room} {p : Place} (acc : S) {x : T} {q : Place} {s : Stop} → Reads A d p x q → Fails (λ e. many f (A e) (f acc x)) d q s → Fails (λ e. many f (A e) acc) d p s
  unfolding rest
  more_fails {d = d} {p = p} acc {x = x} {q = q} {s = s} r m = record {
    cause = from_bind d p acc s (further p q d x s (f acc x) r m.cause)
        (bind_then_fails ts A (λ e x. many f (A e) (f acc x)) la (rest acc) again d p x q s r m.cause);
  }

-- A with a count of its own
abbrev pub counting_anew : Place → Place
counting_anew p = record { at = p.at; used = 0 }

module _ {T : Type 0} (A : Room → Rule T) where
  pub afresh_reads : {d : Room} {p : Place} {t : T} {q : Place} (r : Place) → Reads A d (counting_anew p) t q → r ≡ record { at = q.at; used = p.used } → Reads (λ e. afresh (A e)) d p t r
  unfolding afresh
  afresh_reads {d = d} {p = p} {t = t} {q = q} r x e = subst (λ z. Reads (λ e. afresh (A e)) d p t z) (sym e) (record {
    derives = (q.used, x.derives, refl);
    reach = λ e n h. x.reach e n h;
  })

  afresh_cause : (d : Room) (p : Place) (s : Stop) → Cause A d (counting_anew p) s → Cause (λ e. afresh (A e)) d p s
  unfolding afresh
  afresh_cause d p Memory c = tt
  afresh_cause d p (Syntax k) c = record { begins = c.begins; reach = λ e n h. c.reach e n h; none = λ e t q h qk. c.none e t _ h.1 qk }
  afresh_cause d p (TooDeep k) c = record { begins = c.begins; more = c.more; deeper = c.deeper; reach = λ n h. c.reach n h }

  pub afresh_fails : {d : Room} {p : Place} {s : Stop} → Fails A d (counting_anew p) s → Fails (λ e. afresh (A e)) d p s
  afresh_fails {d = d} {p = p} {s = s} f = record { cause = afresh_cause d p s f.cause }
