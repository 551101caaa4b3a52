-- What each rule keeps, by the kinds that may begin it and those that may go on with it.
use Rattle.std.proofs.Common.{◌≡◌, ℕ, ◌+◌, ◌<◌, ◌≤◌, List, [], ◌∷◌, ◌++◌, Some, Bool, true, false, ◌&&◌, inl, inr, length, refl, sym, ◌∙◌, ap, subst, arith}
use Rattle.std.proofs.lemmas.Option.{slice_get_within}
use Rattle.std.proofs.lemmas.Bool.{cases_lt, cases_order}
use Rattle.cov_lexer.specs.declared.kind.Kind.{Kind}
use Rattle.cov_grammar.specs.declared.marked.Marked.{Marked}
use Rattle.cov_grammar.specs.declared.place.Place.{Place}
use Rattle.cov_grammar.specs.Rule.{Rule, In, one, same_word, counted, afresh, give, here, never, bind, either}
use Rattle.cov_grammar.proofs.Sets.{disjoint, subset, when, split, and_true, In_apart, In_left, In_right, In_more, In_when}

-- What a rule keeps: first holds the kinds that a token of it may begin with, cont those that may
-- stand behind a whole derivation and go on with it, and null says whether no token is enough.
pub record Facts {T : Type 0} (ts : List Marked) (A : Rule T) (first cont : List Kind) (null : Bool) : Type 0 where
  pub order : (p : Place) (n : ℕ) → A.begins p n → p.at ≤ n
  pub empty : (p : Place) → A.begins p p.at
  pub whole : (p : Place) (t : T) (q : Place) → A.derives p t q → A.begins p q.at
  pub shorter : (p : Place) (m n : ℕ) → A.begins p n → p.at ≤ m → m ≤ n → A.begins p m
  pub starts : (p : Place) (n : ℕ) → A.begins p n → p.at < n → In ts p.at first
  pub inside : (p : Place) (n : ℕ) → A.begins p n → p.at < n → n ≤ length ts
  pub blank : (p : Place) (t : T) (q : Place) → A.derives p t q → q.at ≡ p.at → (null ≡ true) × (q ≡ p)
  pub goes_on : (p : Place) (t : T) (q : Place) → A.derives p t q → A.begins p (q.at + 1) → In ts q.at cont
  pub one_tree : (p : Place) (t u : T) (q r : Place) → A.derives p t q → A.derives p u r → q.at ≡ r.at → (t ≡ u) × (q ≡ r)

at_of : {p q : Place} → q ≡ p → q.at ≡ p.at
at_of e = ap (λ (x : Place). x.at) e

pub give_facts : {T : Type 0} (ts : List Marked) (x : T) → Facts ts (give x) [] [] true
unfolding give
give_facts ts x = record {
  order = λ p n h. omega (arith, h);
  empty = λ p. refl;
  whole = λ p t q h. at_of h.1;
  shorter = λ p m n h a b. omega (arith, h);
  starts = λ p n h l. absurd (omega (arith, h));
  inside = λ p n h l. absurd (omega (arith, h));
  blank = λ p t q h e. (refl, h.1);
  goes_on = λ p t q h b. absurd (let e = at_of h.1 in omega (arith, b));
  one_tree = λ p t u q r h k e. (h.0 ∙ sym k.0, h.1 ∙ sym k.1);
}

pub here_facts : (ts : List Marked) → Facts ts (here ts) [] [] true
unfolding here
here_facts ts = record {
  order = λ p n h. omega (arith, h);
  empty = λ p. refl;
  whole = λ p t q h. at_of h.1;
  shorter = λ p m n h a b. omega (arith, h);
  starts = λ p n h l. absurd (omega (arith, h));
  inside = λ p n h l. absurd (omega (arith, h));
  blank = λ p t q h e. (refl, h.1);
  goes_on = λ p t q h b. absurd (let e = at_of h.1 in omega (arith, b));
  one_tree = λ p t u q r h k e. (h.0 ∙ sym k.0, h.1 ∙ sym k.1);
}

pub never_facts : {T : Type 0} (ts : List Marked) (first cont : List Kind) (null : Bool) → Facts ts (never {T = T}) first cont null
unfolding never
never_facts ts first cont null = record {
  order = λ p n h. omega (arith, h);
  empty = λ p. refl;
  whole = λ p t q h. absurd h;
  shorter = λ p m n h a b. omega (arith, h);
  starts = λ p n h l. absurd (omega (arith, h));
  inside = λ p n h l. absurd (omega (arith, h));
  blank = λ p t q h e. absurd h;
  goes_on = λ p t q h b. absurd h;
  one_tree = λ p t u q r h k e. absurd h;
}

pub one_facts : (ts : List Marked) (ks : List Kind) → Facts ts (one ts ks) ks [] false
unfolding one
one_facts ts ks = record {
  order = λ p n h. elim h [ inl e ↦ omega (arith, e) | inr x ↦ omega (arith, x.3) ];
  empty = λ p. inl refl;
  whole = λ p t q h. inr (t, h.0, h.1, at_of h.2);
  shorter = λ p m n h a b. elim h [
    | inl e ↦ inl (omega (arith, e))
    | inr x ↦ elim (split m p.at a) [ inl e ↦ inl e | inr l ↦ inr (x.0, x.1, x.2, omega (arith, x.3)) ]
  ];
  starts = λ p n h l. elim h [ inl e ↦ absurd (omega (arith, e)) | inr x ↦ record { token = x.0; stands = x.1; of = x.2 } ];
  inside = λ p n h l. elim h [
    | inl e ↦ absurd (omega (arith, e))
    | inr x ↦ (let w = slice_get_within ts p.at x.0 x.1 in omega (arith, x.3))
  ];
  blank = λ p t q h e. absurd (omega (arith, at_of h.2, e));
  goes_on = λ p t q h b. elim b [ inl e ↦ absurd (omega (arith, e, at_of h.2)) | inr x ↦ absurd (omega (arith, x.3, at_of h.2)) ];
  one_tree = λ p t u q r h k e. (let same : Some t ≡ Some u = sym h.0 ∙ k.0 in cc, h.2 ∙ sym k.2);
}

pub same_word_facts : (text : List ℕ) (ts : List Marked) (k : Kind) (spelling : List ℕ) → Facts ts (same_word text ts k spelling) (k ∷ []) [] false
unfolding same_word
same_word_facts text ts kind spelling = record {
  order = λ p n h. elim h [ inl e ↦ omega (arith, e) | inr x ↦ omega (arith, x.4) ];
  empty = λ p. inl refl;
  whole = λ p t q h. inr (t, h.0, h.1, h.2, at_of h.3);
  shorter = λ p m n h a b. elim h [
    | inl e ↦ inl (omega (arith, e))
    | inr x ↦ elim (split m p.at a) [ inl e ↦ inl e | inr l ↦ inr (x.0, x.1, x.2, x.3, omega (arith, x.4)) ]
  ];
  starts = λ p n h l. elim h [ inl e ↦ absurd (omega (arith, e)) | inr x ↦ record { token = x.0; stands = x.1; of = x.2 } ];
  inside = λ p n h l. elim h [
    | inl e ↦ absurd (omega (arith, e))
    | inr x ↦ (let w = slice_get_within ts p.at x.0 x.1 in omega (arith, x.4))
  ];
  blank = λ p t q h e. absurd (omega (arith, at_of h.3, e));
  goes_on = λ p t q h b. elim b [ inl e ↦ absurd (omega (arith, e, at_of h.3)) | inr x ↦ absurd (omega (arith, x.4, at_of h.3)) ];
  one_tree = λ p t u q r h k e. (let same : Some t ≡ Some u = sym h.0 ∙ k.0 in cc, h.3 ∙ sym k.3);
}

pub counted_facts : (ts : List Marked) (limit : ℕ) (ks : List Kind) → Facts ts (counted ts limit ks) ks [] false
unfolding counted
counted_facts ts limit ks = record {
  order = λ p n h. elim h [ inl e ↦ omega (arith, e) | inr x ↦ omega (arith, x.4) ];
  empty = λ p. inl refl;
  whole = λ p t q h. inr (t, h.0, h.1, h.2, at_of h.3);
  shorter = λ p m n h a b. elim h [
    | inl e ↦ inl (omega (arith, e))
    | inr x ↦ elim (split m p.at a) [ inl e ↦ inl e | inr l ↦ inr (x.0, x.1, x.2, x.3, omega (arith, x.4)) ]
  ];
  starts = λ p n h l. elim h [ inl e ↦ absurd (omega (arith, e)) | inr x ↦ record { token = x.0; stands = x.1; of = x.2 } ];
  inside = λ p n h l. elim h [
    | inl e ↦ absurd (omega (arith, e))
    | inr x ↦ (let w = slice_get_within ts p.at x.0 x.1 in omega (arith, x.4))
  ];
  blank = λ p t q h e. absurd (omega (arith, at_of h.3, e));
  goes_on = λ p t q h b. elim b [ inl e ↦ absurd (omega (arith, e, at_of h.3)) | inr x ↦ absurd (omega (arith, x.4, at_of h.3)) ];
  one_tree = λ p t u q r h k e. (let same : Some t ≡ Some u = sym h.0 ∙ k.0 in cc, h.3 ∙ sym k.3);
}

pub place_same : (x y : Place) → x.at ≡ y.at → x.used ≡ y.used → x ≡ y
place_same x y a b =
    let made : ℕ → ℕ → Place = λ m n. record { at = m; used = n } in
    ap (λ m. made m x.used) a ∙ ap (λ n. made y.at n) b

pub afresh_facts : {T : Type 0} {ts : List Marked} {A : Rule T} {first cont : List Kind} {null : Bool} → Facts ts A first cont null → Facts ts (afresh A) first cont null
unfolding afresh
afresh_facts f = record {
  order = λ p n h. f.order _ n h;
  empty = λ p. f.empty _;
  whole = λ p t q h. f.whole _ t _ h.1;
  shorter = λ p m n h a b. f.shorter _ m n h a b;
  starts = λ p n h l. f.starts _ n h l;
  inside = λ p n h l. f.inside _ n h l;
  blank = λ p t q h e. ((f.blank _ t _ h.1 e).0, place_same q p e h.2);
  goes_on = λ p t q h b. f.goes_on _ t _ h.1 b;
  one_tree = λ p t u q r h k e. ((f.one_tree _ t u _ _ h.1 k.1 e).0, place_same q r e (h.2 ∙ sym k.2));
}

-- the same with larger sets
pub larger : {T : Type 0} {ts : List Marked} {A : Rule T} {first cont : List Kind} {null : Bool} (first' cont' : List Kind) →
    Facts ts A first cont null → subset first first' ≡ true → subset cont cont' ≡ true → Facts ts A first' cont' null
larger {ts = ts} {first = first} {cont = cont} first' cont' f p q = record {
  order = f.order;
  empty = f.empty;
  whole = f.whole;
  shorter = f.shorter;
  inside = f.inside;
  blank = f.blank;
  one_tree = f.one_tree;
  starts = λ x n h l. In_more ts x.at first first' p (f.starts x n h l);
  goes_on = λ x t y h g. In_more ts y.at cont cont' q (f.goes_on x t y h g);
}

-- A and then B, where nothing that goes on with A begins B
module _ {S T : Type 0} (ts : List Marked) (A : Rule S) (B : S → Rule T) (fa ca : List Kind) (na : Bool) (fb cb : List Kind) (nb : Bool)
    (a_facts : Facts ts A fa ca na) (b_facts : (a : S) → Facts ts (B a) fb cb nb) (apart : disjoint ca fb ≡ true) where
  -- behind a derivation of A that could go on, B doesn't begin
  pub cut : (p : Place) (a b : S) (m : Place) (n k : ℕ) → A.derives p a m → A.begins p n → m.at < n → (B b).begins m k → m.at < k → ⊥
  cut p a b m n k d g l h l' =
      In_apart ts m.at ca fb apart
      (a_facts.goes_on p a m d (a_facts.shorter p (m.at + 1) n g (let o = a_facts.order p m.at (a_facts.whole p a m d) in omega arith) (omega arith)))
      ((b_facts b).starts m k h l')

  pub bind_facts : Facts ts (bind A B) (fa ++ when na fb) (cb ++ when nb ca) (na && nb)
  unfolding bind
  bind_facts = record {
    order = λ p n h. elim h [
      | inl g ↦ a_facts.order p n g
      | inr x ↦ (let a = a_facts.order p x.1.at (a_facts.whole p x.0 x.1 x.2) in let b = (b_facts x.0).order x.1 n x.3 in omega arith)
    ];
    empty = λ p. inl (a_facts.empty p);
    whole = λ p t q h. inr (h.0, h.1, h.2, (b_facts h.0).whole h.1 t q h.3);
    shorter = λ p m n h l l'. elim h [
      | inl g ↦ inl (a_facts.shorter p m n g l l')
      | inr x ↦ elim (cases_lt m x.1.at) [
        | inl y ↦ inl (a_facts.shorter p m x.1.at (a_facts.whole p x.0 x.1 x.2) l (omega arith))
        | inr y ↦ inr (x.0, x.1, x.2, (b_facts x.0).shorter x.1 m n x.3 y l')
      ]
    ];
    starts = λ p n h l. elim h [
      | inl g ↦ In_left ts p.at fa _ (a_facts.starts p n g l)
      | inr x ↦ elim (split x.1.at p.at (a_facts.order p x.1.at (a_facts.whole p x.0 x.1 x.2))) [
        | inl e ↦ (let b = a_facts.blank p x.0 x.1 x.2 e in In_right ts p.at fa _ (In_when ts p.at na fb b.0
            ((b_facts x.0).starts p n (subst (λ m. (B x.0).begins m n) b.1 x.3) l)))
        | inr y ↦ In_left ts p.at fa _ (a_facts.starts p x.1.at (a_facts.whole p x.0 x.1 x.2) y)
      ]
    ];
    inside = λ p n h l. elim h [
      | inl g ↦ a_facts.inside p n g l
      | inr x ↦ elim (cases_lt x.1.at n) [
        | inl y ↦ (b_facts x.0).inside x.1 n x.3 y
        | inr y ↦ (let z = (b_facts x.0).order x.1 n x.3 in let w = a_facts.inside p x.1.at (a_facts.whole p x.0 x.1 x.2) (omega arith) in omega arith)
      ]
    ];
    blank = λ p t q h e.
        let x = a_facts.order p h.1.at (a_facts.whole p h.0 h.1 h.2) in
        let y = (b_facts h.0).order h.1 q.at ((b_facts h.0).whole h.1 t q h.3) in
        let a = a_facts.blank p h.0 h.1 h.2 (omega arith) in
        let b = (b_facts h.0).blank h.1 t q h.3 (omega arith) in
        (and_true na nb a.0 b.0, b.1 ∙ a.1);
    goes_on = λ p t q h g.
        let o = (b_facts h.0).order h.1 q.at ((b_facts h.0).whole h.1 t q h.3) in
        let at_end : q.at ≡ h.1.at → A.begins p (q.at + 1) → In ts q.at (cb ++ when nb ca) = (λ e x.
        let b = (b_facts h.0).blank h.1 t q h.3 e in
        In_right ts q.at cb _ (In_when ts q.at nb ca b.0 (a_facts.goes_on p h.0 q (subst (λ m. A.derives p h.0 m) (sym b.1) h.2) x))) in
        let before : (n : ℕ) → A.begins p n → h.1.at < n → h.1.at < q.at → ⊥ = (λ n x l l'.
        cut p h.0 h.0 h.1 n q.at h.2 x l ((b_facts h.0).whole h.1 t q h.3) l') in
        elim g [
          | inl x ↦ elim (split q.at h.1.at o) [ inl e ↦ at_end e x | inr l ↦ absurd (before (q.at + 1) x (omega arith) l) ]
          | inr x ↦ elim (cases_order x.1.at h.1.at) [
            | inl e ↦ (let s = a_facts.one_tree p x.0 h.0 x.1 h.1 x.2 h.2 e in
                In_left ts q.at cb _ ((b_facts h.0).goes_on h.1 t q h.3
                (subst (λ m. (B h.0).begins m (q.at + 1)) s.1 (subst (λ a. (B a).begins x.1 (q.at + 1)) s.0 x.3))))
            | inr y ↦ elim y [
              | inl l ↦ absurd (cut p x.0 x.0 x.1 h.1.at (q.at + 1) x.2 (a_facts.whole p h.0 h.1 h.2) l x.3 (omega arith))
              | inr l ↦ (let z = (b_facts x.0).order x.1 (q.at + 1) x.3 in elim (split q.at h.1.at o) [
                | inl e ↦ at_end e (subst (λ m. A.begins p m) (omega arith) (a_facts.whole p x.0 x.1 x.2))
                | inr l' ↦ absurd (before x.1.at (a_facts.whole p x.0 x.1 x.2) l l')
              ])
            ]
          ]
        ];
    one_tree = λ p t u q r h k e.
        let x = (b_facts h.0).whole h.1 t q h.3 in
        let y = (b_facts k.0).whole k.1 u r k.3 in
        let ox = (b_facts h.0).order h.1 q.at x in
        let oy = (b_facts k.0).order k.1 r.at y in
        elim (cases_order k.1.at h.1.at) [
          | inl s ↦ (let w = a_facts.one_tree p k.0 h.0 k.1 h.1 k.2 h.2 s in
              (b_facts h.0).one_tree h.1 t u q r h.3
              (subst (λ m. (B h.0).derives m u r) w.1 (subst (λ a. (B a).derives k.1 u r) w.0 k.3)) e)
          | inr z ↦ absurd (elim z [
            | inl l ↦ cut p k.0 k.0 k.1 h.1.at r.at k.2 (a_facts.whole p h.0 h.1 h.2) l y (omega arith)
            | inr l ↦ cut p h.0 h.0 h.1 k.1.at q.at h.2 (a_facts.whole p k.0 k.1 k.2) l x (omega arith)
          ])
        ];
  }

-- A or B, where no token begins both, and one of them at most is nothing
module _ {T : Type 0} (ts : List Marked) (A B : Rule T) (fa ca : List Kind) (na : Bool) (fb cb : List Kind)
    (a_facts : Facts ts A fa ca na) (b_facts : Facts ts B fb cb false) (apart : disjoint fa fb ≡ true) where
  clash : (p : Place) (m n : ℕ) → A.begins p m → p.at < m → B.begins p n → p.at < n → ⊥
  clash p m n a l b l' = In_apart ts p.at fa fb apart (a_facts.starts p m a l) (b_facts.starts p n b l')

  filled : (p : Place) (t : T) (q : Place) → B.derives p t q → p.at < q.at
  filled p t q h = elim (split q.at p.at (b_facts.order p q.at (b_facts.whole p t q h))) [
    | inl e ↦ (let no = (b_facts.blank p t q h e).0 in absurd (cc))
    | inr l ↦ l
  ]

  pub either_facts : Facts ts (either A B) (fa ++ fb) ((ca ++ cb) ++ when na fb) na
  unfolding either
  either_facts = record {
    order = λ p n h. elim h [ inl x ↦ a_facts.order p n x | inr x ↦ b_facts.order p n x ];
    empty = λ p. inl (a_facts.empty p);
    whole = λ p t q h. elim h [ inl x ↦ inl (a_facts.whole p t q x) | inr x ↦ inr (b_facts.whole p t q x) ];
    shorter = λ p m n h l l'. elim h [ inl x ↦ inl (a_facts.shorter p m n x l l') | inr x ↦ inr (b_facts.shorter p m n x l l') ];
    starts = λ p n h l. elim h [
      | inl x ↦ In_left ts p.at fa fb (a_facts.starts p n x l)
      | inr x ↦ In_right ts p.at fa fb (b_facts.starts p n x l)
    ];
    inside = λ p n h l. elim h [ inl x ↦ a_facts.inside p n x l | inr x ↦ b_facts.inside p n x l ];
    blank = λ p t q h e. elim h [ inl x ↦ a_facts.blank p t q x e | inr x ↦ absurd (let l = filled p t q x in omega arith) ];
    goes_on = λ p t q h g. elim h [
      | inl x ↦ elim g [
        | inl y ↦ In_left ts q.at (ca ++ cb) _ (In_left ts q.at ca cb (a_facts.goes_on p t q x y))
        | inr y ↦ elim (split q.at p.at (a_facts.order p q.at (a_facts.whole p t q x))) [
          | inl e ↦ (let b = a_facts.blank p t q x e in In_right ts q.at (ca ++ cb) _ (In_when ts q.at na fb b.0
              (b_facts.starts q (q.at + 1) (subst (λ m. B.begins m (q.at + 1)) (sym b.1) y) (omega arith))))
          | inr l ↦ absurd (clash p q.at (q.at + 1) (a_facts.whole p t q x) l y (omega arith))
        ]
      ]
      | inr x ↦ (let l = filled p t q x in elim g [
        | inl y ↦ absurd (clash p (q.at + 1) q.at y (omega arith) (b_facts.whole p t q x) l)
        | inr y ↦ In_left ts q.at (ca ++ cb) _ (In_right ts q.at ca cb (b_facts.goes_on p t q x y))
      ])
    ];
    one_tree = λ p t u q r h k e. elim h [
      | inl x ↦ elim k [
        | inl y ↦ a_facts.one_tree p t u q r x y e
        | inr y ↦ (let l = filled p u r y in absurd (clash p q.at r.at (a_facts.whole p t q x) (omega arith) (b_facts.whole p u r y) l))
      ]
      | inr x ↦ (let l = filled p t q x in elim k [
        | inl y ↦ absurd (clash p r.at q.at (a_facts.whole p u r y) (omega arith) (b_facts.whole p t q x) l)
        | inr y ↦ b_facts.one_tree p t u q r x y e
      ])
    ];
  }
