-- What a rule over the tokens of one text derives and begins within first tokens, it does over alike tokens of another.
use Rattle.std.proofs.Common.{◌≡◌, ℕ, zero, suc, ◌+◌, ◌≤◌, List, [], ◌∷◌, Some, true, false, ◌⊎◌, inl, inr, refl, sym, ◌∙◌, ap, subst, arith, slice_get}
use Rattle.cov_lexer.specs.declared.kind.Kind.{Kind}
use Rattle.cov_lexer.specs.declared.kind.Kind.TheVariants.{OpenIndex, OpenSquare}
use Rattle.cov_grammar.specs.declared.marked.Marked.{Marked}
use Rattle.cov_grammar.specs.declared.place.Place.{Place}
use Rattle.cov_lexer.specs.Kinds.{has}
use Rattle.cov_grammar.specs.Expressions.{spelled}
use Rattle.cov_grammar.specs.Rule.{Rule, one, same_word, counted, afresh, give, here, offset, never, bind, either, times, many, map_to, both, after, ahead}
use Rattle.cov_grammar.specs.Marking.{expr_kinds}
use Rattle.grammar_laws.specs.Tables.{repetition_kinds}
use Rattle.grammar_laws.specs.Continuations.{AreAlike}

-- Likeness of the trees of a rule, as much of it as later rules ask for.
pub record Likeness (T : Type 0) : Type 1 where
  pub rel : T → T → Type 0
  pub self : (t : T) → rel t t

abbrev pub any : {T : Type 0} → Likeness T
any = record { rel = λ a b. Unit {0}; self = λ a. tt }

abbrev pub same : {T : Type 0} → Likeness T
same = record { rel = λ a b. a ≡ b; self = λ a. refl }

abbrev pub pairs : {S T : Type 0} → Likeness S → Likeness T → Likeness (S × T)
pairs R Q = record { rel = λ x y. R.rel x.0 y.0 × Q.rel x.1 y.1; self = λ x. (R.self x.0, Q.self x.1) }

-- by what is seen of a tree
abbrev pub seen : {S T : Type 0} → (S → T) → Likeness S
seen f = record { rel = λ x y. f x ≡ f y; self = λ x. refl }

-- what A derives within the first k tokens, B does with a tree alike, and so what it begins
pub record Keeps {T : Type 0} (k : ℕ) (Q : Likeness T) (A B : Rule T) : Type 0 where
  pub order : (p : Place) (n : ℕ) → A.begins p n → p.at ≤ n
  pub span : (p : Place) (t : T) (q : Place) → A.derives p t q → p.at ≤ q.at
  pub empty : (p : Place) → B.begins p p.at
  pub derives : (p : Place) (t : T) (q : Place) → q.at ≤ k → A.derives p t q → (u : T) × Q.rel t u × B.derives p u q
  pub begins : (p : Place) (n : ℕ) → n ≤ k → A.begins p n → B.begins p n

at_of : {p q : Place} → q ≡ p → q.at ≡ p.at
at_of e = ap (λ (x : Place). x.at) e

module _ (k : ℕ) {T : Type 0} (Q : Likeness T) where
  pub give_keeps : (x y : T) → Q.rel x y → Keeps k Q (give x) (give y)
  unfolding give
  give_keeps x y r = record {
    order = λ p n h. omega (arith, h);
    span = λ p t q h. let e = at_of h.1 in omega (arith, e);
    empty = λ p. refl;
    derives = λ p t q l h. (y, subst (λ z. Q.rel z y) (sym h.0) r, (refl, h.1));
    begins = λ p n l h. h;
  }

  pub never_keeps : (B : Rule T) → ((p : Place) → B.begins p p.at) → Keeps k Q never B
  unfolding never
  never_keeps B empty = record {
    order = λ p n h. omega (arith, h);
    span = λ p t q h. absurd h;
    empty = empty;
    derives = λ p t q l h. absurd h;
    begins = λ p n l h. subst (λ (z : ℕ). B.begins p z) (sym h) (empty p);
  }

pub here_keeps : (k : ℕ) (ts us : List Marked) → Keeps k any (here ts) (here us)
unfolding here
here_keeps k ts us = record {
  order = λ p n h. omega (arith, h);
  span = λ p t q h. let e = at_of h.1 in omega (arith, e);
  empty = λ p. refl;
  derives = λ p t q l h. (offset us p.at, tt, (refl, h.1));
  begins = λ p n l h. h;
}

has_same : (ks : List Kind) (t u : Marked) → u.kind ≡ t.kind → has t.kind ks ≡ true → has u.kind ks ≡ true
has_same ks t u e h = ap (λ (z : Kind). has z ks) e ∙ h

module _ {k : ℕ} {text : List ℕ} {ts : List Marked} {other : List ℕ} {us : List Marked} (alike : AreAlike k text ts other us) where
  pub one_keeps : (Q : Likeness Marked) (ks : List Kind) →
      ((t u : Marked) → u.kind ≡ t.kind → spelled other u ≡ spelled text t → Q.rel t u) → Keeps k Q (one ts ks) (one us ks)
  unfolding one
  one_keeps Q ks fit = record {
    order = λ p n h. elim h [ inl e ↦ omega (arith, e) | inr x ↦ omega (arith, x.3) ];
    span = λ p t q h. let e = at_of h.2 in omega (arith, e);
    empty = λ p. inl refl;
    derives = λ p t q l h.
        let e = at_of h.2 in
        let w = alike.like p.at t (omega (arith, e, l)) h.0 in
        (w.token, fit t w.token w.kind w.spelling, (w.stands, has_same ks t w.token w.kind h.1, h.2));
    begins = λ p n l h. elim h [
      | inl e ↦ inl e
      | inr x ↦ (let w = alike.like p.at x.0 (omega (arith, x.3, l)) x.1 in inr (w.token, w.stands, has_same ks x.0 w.token w.kind x.2, x.3))
    ];
  }

  pub same_word_keeps : (kind : Kind) (spelling : List ℕ) → Keeps k any (same_word text ts kind spelling) (same_word other us kind spelling)
  unfolding same_word
  same_word_keeps kind spelling = record {
    order = λ p n h. elim h [ inl e ↦ omega (arith, e) | inr x ↦ omega (arith, x.4) ];
    span = λ p t q h. let e = at_of h.3 in omega (arith, e);
    empty = λ p. inl refl;
    derives = λ p t q l h.
        let e = at_of h.3 in
        let w = alike.like p.at t (omega (arith, e, l)) h.0 in
        (w.token, tt, (w.stands, has_same (kind ∷ []) t w.token w.kind h.1, w.spelling ∙ h.2, h.3));
    begins = λ p n l h. elim h [
      | inl e ↦ inl e
      | inr x ↦ (let w = alike.like p.at x.0 (omega (arith, x.4, l)) x.1 in
          inr (w.token, w.stands, has_same (kind ∷ []) x.0 w.token w.kind x.2, w.spelling ∙ x.3, x.4))
    ];
  }

  pub counted_keeps : (limit : ℕ) (ks : List Kind) → Keeps k any (counted ts limit ks) (counted us limit ks)
  unfolding counted
  counted_keeps limit ks = record {
    order = λ p n h. elim h [ inl e ↦ omega (arith, e) | inr x ↦ omega (arith, x.4) ];
    span = λ p t q h. let e = at_of h.3 in omega (arith, e);
    empty = λ p. inl refl;
    derives = λ p t q l h.
        let e = at_of h.3 in
        let w = alike.like p.at t (omega (arith, e, l)) h.0 in
        (w.token, tt, (w.stands, has_same ks t w.token w.kind h.1, h.2, h.3));
    begins = λ p n l h. elim h [
      | inl e ↦ inl e
      | inr x ↦ (let w = alike.like p.at x.0 (omega (arith, x.4, l)) x.1 in inr (w.token, w.stands, has_same ks x.0 w.token w.kind x.2, x.3, x.4))
    ];
  }

module _ {k : ℕ} {T : Type 0} {Q : Likeness T} {A B : Rule T} (keeps : Keeps k Q A B) where
  pub afresh_keeps : Keeps k Q (afresh A) (afresh B)
  unfolding afresh
  afresh_keeps = record {
    order = λ p n h. keeps.order _ n h;
    span = λ p t q h. keeps.span _ t _ h.1;
    empty = λ p. keeps.empty _;
    derives = λ p t q l h.
        let d = keeps.derives _ t _ l h.1 in (d.0, d.1, (h.0, d.2, h.2));
    begins = λ p n l h. keeps.begins _ n l h;
  }

module _ {k : ℕ} {S T : Type 0} {P : Likeness S} {Q : Likeness T} {A A' : Rule S} {B B' : S → Rule T}
    (first : Keeps k P A A') (second : (a a' : S) → P.rel a a' → Keeps k Q (B a) (B' a')) where
  pub bind_keeps : Keeps k Q (bind A B) (bind A' B')
  unfolding bind
  bind_keeps = record {
    order = λ p n h. elim h [
      | inl x ↦ first.order p n x
      | inr x ↦ (let l = first.span p x.0 x.1 x.2 in let m = (second x.0 x.0 (P.self x.0)).order x.1 n x.3 in omega arith)
    ];
    span = λ p t q h. let l = first.span p h.0 h.1 h.2 in let m = (second h.0 h.0 (P.self h.0)).span h.1 t q h.3 in omega arith;
    empty = λ p. inl (first.empty p);
    derives = λ p t q l h.
        let m = (second h.0 h.0 (P.self h.0)).span h.1 t q h.3 in
        let a = first.derives p h.0 h.1 (omega arith) h.2 in
        let b = (second h.0 a.0 a.1).derives h.1 t q l h.3 in
        (b.0, b.1, (a.0, h.1, a.2, b.2));
    begins = λ p n l h. elim h [
      | inl x ↦ inl (first.begins p n l x)
      | inr x ↦ (let m = (second x.0 x.0 (P.self x.0)).order x.1 n x.3 in
          let a = first.derives p x.0 x.1 (omega arith) x.2 in
          inr (a.0, x.1, a.2, (second x.0 a.0 a.1).begins x.1 n l x.3))
    ];
  }

module _ {k : ℕ} {T : Type 0} {Q : Likeness T} {A A' B B' : Rule T} (left : Keeps k Q A A') (right : Keeps k Q B B') where
  pub either_keeps : Keeps k Q (either A B) (either A' B')
  unfolding either
  either_keeps = record {
    order = λ p n h. elim h [ inl x ↦ left.order p n x | inr x ↦ right.order p n x ];
    span = λ p t q h. elim h [ inl x ↦ left.span p t q x | inr x ↦ right.span p t q x ];
    empty = λ p. inl (left.empty p);
    derives = λ p t q l h. elim h [
      | inl x ↦ (let d = left.derives p t q l x in (d.0, d.1, inl d.2))
      | inr x ↦ (let d = right.derives p t q l x in (d.0, d.1, inr d.2))
    ];
    begins = λ p n l h. elim h [ inl x ↦ inl (left.begins p n l x) | inr x ↦ inr (right.begins p n l x) ];
  }

module _ {k : ℕ} {U T : Type 0} (f : U → T → U) {A A' : Rule T} (keeps : Keeps k any A A') where
  pub times_keeps : (c : ℕ) (x y : U) → Keeps k any (times f A c x) (times f A' c y)
  unfolding times
  times_keeps zero x y = give_keeps k any x y tt
  times_keeps (suc c) x y = bind_keeps keeps (λ a b r. times_keeps c (f x a) (f y b))

  pub many_keeps : (x y : U) → Keeps k any (many f A x) (many f A' y)
  unfolding many
  many_keeps x y = record {
    order = λ p n h. (times_keeps h.0 x y).order p n h.1;
    span = λ p t q h. (times_keeps h.0 x y).span p t q h.1;
    empty = λ p. (0, (times_keeps 0 x y).empty p);
    derives = λ p t q l h. let d = (times_keeps h.0 x y).derives p t q l h.1 in (d.0, tt, (h.0, d.2));
    begins = λ p n l h. (h.0, (times_keeps h.0 x y).begins p n l h.1);
  }

-- Token i of the second list is that of the first but for the mark of a `[`: where it opens an index in the second alone, no
-- repetition stands behind it, and where it doesn't there alone, nothing that begins an expression.
pub record IsFlipped (ts : List Marked) (t u : Marked) (i : ℕ) : Type 0 where
  pub how : ((t.kind ≡ OpenSquare) × (u.kind ≡ OpenIndex) × ((x : Marked) → slice_get ts (i + 1) ≡ Some x → has x.kind repetition_kinds ≡ false))
      ⊎ ((t.kind ≡ OpenIndex) × (u.kind ≡ OpenSquare) × ((x : Marked) → slice_get ts (i + 1) ≡ Some x → has x.kind expr_kinds ≡ false))

pub record HasNear (first : List ℕ) (ts : List Marked) (t : Marked) (second : List ℕ) (us : List Marked) (i : ℕ) : Type 0 where
  pub token : Marked
  pub stands : slice_get us i ≡ Some token
  pub spelling : spelled second token ≡ spelled first t
  pub kind : (token.kind ≡ t.kind) ⊎ IsFlipped ts t token i

pub record AreNear (first : List ℕ) (ts : List Marked) (second : List ℕ) (us : List Marked) : Type 0 where
  pub near : (i : ℕ) (t : Marked) → slice_get ts i ≡ Some t → HasNear first ts t second us i

-- what A derives, B does with a tree alike
pub record Sways {T : Type 0} (Q : Likeness T) (A B : Rule T) : Type 0 where
  pub derives : (p : Place) (t : T) (q : Place) → A.derives p t q → (u : T) × Q.rel t u × B.derives p u q

module _ {T : Type 0} {Q : Likeness T} where
  pub give_sways : (x y : T) → Q.rel x y → Sways Q (give x) (give y)
  unfolding give
  give_sways x y r = record { derives = λ p t q h. (y, subst (λ z. Q.rel z y) (sym h.0) r, (refl, h.1)) }

  pub never_sways : (B : Rule T) → Sways Q never B
  unfolding never
  never_sways B = record { derives = λ p t q h. absurd h }

pub here_sways : (ts us : List Marked) → Sways any (here ts) (here us)
unfolding here
here_sways ts us = record { derives = λ p t q h. (offset us p.at, tt, (refl, h.1)) }

-- both marks of a `[` are in the list, or none
abbrev pub IsEven : List Kind → Type 0
IsEven ks = has OpenIndex ks ≡ has OpenSquare ks

has_kind : (ks : List Kind) (a b : Kind) → a ≡ b → has a ks ≡ has b ks
has_kind ks a b e = ap (λ (z : Kind). has z ks) e

even_near : {first : List ℕ} {ts : List Marked} {second : List ℕ} {us : List Marked} {i : ℕ} (t : Marked) (ks : List Kind) → IsEven ks →
    (w : HasNear first ts t second us i) → has t.kind ks ≡ true → has w.token.kind ks ≡ true
even_near t ks even w h = elim w.kind [
  | inl e ↦ has_kind ks w.token.kind t.kind e ∙ h
  | inr f ↦ elim f.how [
    | inl x ↦ has_kind ks w.token.kind OpenIndex x.1 ∙ even ∙ sym (has_kind ks t.kind OpenSquare x.0) ∙ h
    | inr x ↦ has_kind ks w.token.kind OpenSquare x.1 ∙ sym even ∙ sym (has_kind ks t.kind OpenIndex x.0) ∙ h
  ]
]

module _ {first : List ℕ} {ts : List Marked} {second : List ℕ} {us : List Marked} (near : AreNear first ts second us) where
  pub one_sways : (ks : List Kind) → IsEven ks → Sways any (one ts ks) (one us ks)
  unfolding one
  one_sways ks even = record {
    derives = λ p t q h. let w = near.near p.at t h.0 in (w.token, tt, (w.stands, even_near t ks even w h.1, h.2));
  }

  -- a name is no `[`, and keeps its spelling
  pub spelled_sways : (kind : Kind) → IsEven (kind ∷ []) → Sways same (map_to (spelled first) (one ts (kind ∷ []))) (map_to (spelled second) (one us (kind ∷ [])))
  unfolding map_to bind give one
  spelled_sways kind even = record {
    derives = λ p t q d.
        let w = near.near p.at d.0 d.2.0 in
        (spelled second w.token, d.3.0 ∙ sym w.spelling, (w.token, d.1, (w.stands, even_near d.0 (kind ∷ []) even w d.2.1, d.2.2), (refl, d.3.1)));
  }

  pub same_word_sways : (kind : Kind) (spelling : List ℕ) → IsEven (kind ∷ []) → Sways any (same_word first ts kind spelling) (same_word second us kind spelling)
  unfolding same_word
  same_word_sways kind spelling even = record {
    derives = λ p t q h. let w = near.near p.at t h.0 in (w.token, tt, (w.stands, even_near t (kind ∷ []) even w h.1, w.spelling ∙ h.2, h.3));
  }

  pub counted_sways : (limit : ℕ) (ks : List Kind) → IsEven ks → Sways any (counted ts limit ks) (counted us limit ks)
  unfolding counted
  counted_sways limit ks even = record {
    derives = λ p t q h. let w = near.near p.at t h.0 in (w.token, tt, (w.stands, even_near t ks even w h.1, h.2, h.3));
  }

module _ {T : Type 0} {Q : Likeness T} {A B : Rule T} (sways : Sways Q A B) where
  pub afresh_sways : Sways Q (afresh A) (afresh B)
  unfolding afresh
  afresh_sways = record { derives = λ p t q h. let d = sways.derives _ t _ h.1 in (d.0, d.1, (h.0, d.2, h.2)) }

module _ {S T : Type 0} {P : Likeness S} {Q : Likeness T} {A A' : Rule S} {B B' : S → Rule T}
    (first : Sways P A A') (second : (a a' : S) → P.rel a a' → Sways Q (B a) (B' a')) where
  pub bind_sways : Sways Q (bind A B) (bind A' B')
  unfolding bind
  bind_sways = record {
    derives = λ p t q h.
        let a = first.derives p h.0 h.1 h.2 in
        let b = (second h.0 a.0 a.1).derives h.1 t q h.3 in
        (b.0, b.1, (a.0, h.1, a.2, b.2));
  }

module _ {T : Type 0} {Q : Likeness T} {A A' B B' : Rule T} (left : Sways Q A A') (right : Sways Q B B') where
  pub either_sways : Sways Q (either A B) (either A' B')
  unfolding either
  either_sways = record {
    derives = λ p t q h. elim h [
      | inl x ↦ (let d = left.derives p t q x in (d.0, d.1, inl d.2))
      | inr x ↦ (let d = right.derives p t q x in (d.0, d.1, inr d.2))
    ];
  }

module _ {U T : Type 0} (f : U → T → U) {A A' : Rule T} (sways : Sways any A A') where
  pub times_sways : (c : ℕ) (x y : U) → Sways any (times f A c x) (times f A' c y)
  unfolding times
  times_sways zero x y = give_sways x y tt
  times_sways (suc c) x y = bind_sways sways (λ a b r. times_sways c (f x a) (f y b))

  pub many_sways : (x y : U) → Sways any (many f A x) (many f A' y)
  unfolding many
  many_sways x y = record { derives = λ p t q h. let d = (times_sways h.0 x y).derives p t q h.1 in (d.0, tt, (h.0, d.2)) }

-- a `[` and what stands behind it, where its mark fits that
pub opened_sways : {T : Type 0} {first : List ℕ} {ts : List Marked} {second : List ℕ} {us : List Marked} → AreNear first ts second us → (ks : List Kind) (B B' : Rule T) → Sways any B B' →
    ((p : Place) (t u : Marked) (x : T) (q : Place) → has t.kind ks ≡ true → IsFlipped ts t u p.at → B.derives (after p p.used) x q → has u.kind ks ≡ true) →
    Sways any (ahead (one ts ks) B) (ahead (one us ks) B')
unfolding both map_to bind give one
opened_sways near ks B B' rest fits = record {
  derives = λ p x q h.
      let w = near.near p.at h.0 h.2.0 in
      let d = subst (λ (z : Place). B.derives z h.3.0 h.3.1) h.2.2 h.3.2 in
      let k : has w.token.kind ks ≡ true = elim w.kind [
        | inl e ↦ has_kind ks w.token.kind (h.0).kind e ∙ h.2.1
        | inr f ↦ fits p h.0 w.token h.3.0 h.3.1 h.2.1 f d
      ] in
      let y = rest.derives h.1 h.3.0 h.3.1 h.3.2 in
      (y.0, tt, (w.token, h.1, (w.stands, k, h.2.2), (y.0, h.3.1, y.2, (refl, h.3.3.1))));
}
