-- Rules whose begun tokens can be completed to a derivation, and rules that derive something everywhere.
use Rattle.std.proofs.Common.{◌≡◌, ℕ, zero, suc, ◌+◌, ◌<◌, ◌≤◌, List, [], ◌∷◌, ◌++◌, Bool, true, false, inl, inr, length, refl, sym, subst, arith, length-append}
use Rattle.std.proofs.lemmas.Bool.{cases_lt}
use Rattle.cov_lexer.specs.declared.token.TokenKind.{TokenKind}
use Rattle.cov_lexer.specs.declared.kind.Kind.{Kind}
use Rattle.cov_grammar.specs.declared.marked.Marked.{Marked}
use Rattle.cov_grammar.specs.declared.place.Place.{Place}
use Rattle.cov_lexer.specs.Kinds.{has}
use Rattle.cov_grammar.specs.Bins.{squares}
use Rattle.cov_grammar.specs.Marking.{kind_of}
use Rattle.cov_grammar.specs.Rule.{Rule, one, same_word, counted, afresh, give, here, offset, after, never, bind, either, times, many, allow}
use Rattle.grammar_laws.specs.Continuations.{AreAlike, LieIn}
use Rattle.grammar_laws.proofs.Keeps.{Likeness, any, pairs, Keeps, give_keeps, never_keeps, here_keeps, one_keeps, same_word_keeps, counted_keeps, afresh_keeps, bind_keeps, either_keeps, times_keeps, many_keeps, AreNear, Sways, IsEven, give_sways, never_sways, here_sways, one_sways, same_word_sways, counted_sways, afresh_sways, bind_sways, either_sways, many_sways}
use Rattle.grammar_laws.proofs.Tails.{Goes, goes_nowhere, alike_goes, alike_self, goes_on, goes_one, next_token, next_spelled, get_seam}

-- behind these tokens more can stand, with which the rule derives all from p on
pub record Ended {T : Type 0} (F : List ℕ → List Marked → Rule T) (text : List ℕ) (ts : List Marked) (p : Place) : Type 0 where
  pub other : List ℕ
  pub us : List Marked
  pub goes : Goes text ts other us
  pub tree : T
  pub end : Place
  pub derives : (F other us).derives p tree end
  pub whole : end.at ≡ length us

-- A rule over the tokens of a text, and over a tree that came before, which sees of them only kinds, spellings and R;
-- where all tokens from p on begin it, and there is one at least, more can stand behind them with which it derives them.
pub record Completes {S T : Type 0} (b : Bool) (R : Likeness S) (Q : Likeness T) (F : S → List ℕ → List Marked → Rule T) : Type 0 where
  pub keeps : (k : ℕ) (text : List ℕ) (ts : List Marked) (other : List ℕ) (us : List Marked) → AreAlike k text ts other us →
      (s z : S) → R.rel s z → Keeps k Q (F s text ts) (F z other us)
  pub ends : (s : S) (text : List ℕ) (ts : List Marked) → LieIn text ts → (p : Place) → p.at < length ts → (F s text ts).begins p (length ts) → Ended (F s) text ts p
  pub sways : b ≡ true → (text : List ℕ) (ts : List Marked) (other : List ℕ) (us : List Marked) → AreNear text ts other us →
      (s z : S) → R.rel s z → Sways Q (F s text ts) (F z other us)

-- and at the end of all tokens more can stand that it derives
pub record Produces {S T : Type 0} (b : Bool) (R : Likeness S) (Q : Likeness T) (F : S → List ℕ → List Marked → Rule T) : Type 0 where
  pub begun : Completes b R Q F
  pub fill : (s : S) (text : List ℕ) (ts : List Marked) → LieIn text ts → (p : Place) → p.at ≡ length ts → Ended (F s) text ts p

-- one that goes on with tokens that went on
further : {T : Type 0} (F : List ℕ → List Marked → Rule T) (text : List ℕ) (ts : List Marked) (mid : List ℕ) (ms : List Marked) (p : Place) →
    Goes text ts mid ms → Ended F mid ms p → Ended F text ts p
further F text ts mid ms p g e = record { other = e.other; us = e.us; goes = goes_on g e.goes; tree = e.tree; end = e.end; derives = e.derives; whole = e.whole }

module _ {b : Bool} {S : Type 0} {R : Likeness S} where
  module _ {T : Type 0} {Q : Likeness T} where
    pub give_produces : (x : S → List ℕ → List Marked → T) → ((s z : S) (text other : List ℕ) (ts us : List Marked) → R.rel s z → Q.rel (x s text ts) (x z other us)) →
        Produces b R Q (λ s text ts. give (x s text ts))
    unfolding give
    give_produces x fit = record {
      begun = record {
        keeps = λ k text ts other us alike s z r. give_keeps k Q (x s text ts) (x z other us) (fit s z text other ts us r);
        ends = λ s text ts lie p l h. absurd (omega (arith, h, l));
        sways = λ e text ts other us near s z r. give_sways (x s text ts) (x z other us) (fit s z text other ts us r);
      };
      fill = λ s text ts lie p e. record { other = text; us = ts; goes = goes_nowhere lie; tree = x s text ts; end = p; derives = (refl, refl); whole = e };
    }

    pub never_completes : Completes b R Q (λ s text ts. never)
    unfolding never
    never_completes = record {
      keeps = λ k text ts other us alike s z r. never_keeps k Q never (λ p. refl);
      ends = λ s text ts lie p l h. absurd (omega (arith, h, l));
      sways = λ e text ts other us near s z r. never_sways never;
    }

  pub here_produces : Produces b R any (λ s text ts. here ts)
  unfolding here
  here_produces = record {
    begun = record {
      keeps = λ k text ts other us alike s z r. here_keeps k ts us;
      ends = λ s text ts lie p l h. absurd (omega (arith, h, l));
      sways = λ e text ts other us near s z r. here_sways ts us;
    };
    fill = λ s text ts lie p e. record { other = text; us = ts; goes = goes_nowhere lie; tree = offset ts p.at; end = p; derives = (refl, refl); whole = e };
  }

  pub one_completes : (ks : List Kind) → (b ≡ true → IsEven ks) → Completes b R any (λ s text ts. one ts ks)
  unfolding one
  one_completes ks even = record {
    sways = λ e text ts other us near s z r. one_sways near ks (even e);
    keeps = λ k text ts other us alike s z r. one_keeps alike any ks (λ t u e f. tt);
    ends = λ s text ts lie p l h. elim h [
      | inl e ↦ absurd (omega (arith, e, l))
      | inr x ↦ record { other = text; us = ts; goes = goes_nowhere lie; tree = x.0; end = after p p.used; derives = (x.1, x.2, refl); whole = sym x.3 }
    ];
  }

  pub counted_completes : (limit : ℕ) (ks : List Kind) → IsEven ks → Completes b R any (λ s text ts. counted ts limit ks)
  unfolding counted
  counted_completes limit ks even = record {
    sways = λ e text ts other us near s z r. counted_sways near limit ks even;
    keeps = λ k text ts other us alike s z r. counted_keeps alike limit ks;
    ends = λ s text ts lie p l h. elim h [
      | inl e ↦ absurd (omega (arith, e, l))
      | inr x ↦ record { other = text; us = ts; goes = goes_nowhere lie; tree = x.0; end = after p (p.used + 1); derives = (x.1, x.2, x.3, refl); whole = sym x.4 }
    ];
  }

  -- a token of a kind that a spelling has
  pub one_produces : (ks : List Kind) (k : Kind) (w : List ℕ) (lexed : TokenKind) → has k ks ≡ true → kind_of w lexed ≡ k → has k squares ≡ false → IsEven ks →
      Produces b R any (λ s text ts. one ts ks)
  unfolding one
  one_produces ks k w lexed of is plain even = record {
    begun = one_completes ks (λ e. even);
    fill = λ s text ts lie p e. record {
      other = text ++ 10 ∷ w;
      us = ts ++ next_token text k w ∷ [];
      goes = goes_one k w lexed is plain lie;
      tree = next_token text k w;
      end = after p p.used;
      derives = (get_seam ts (next_token text k w) [] p.at e, of, refl);
      whole = (let l = length-append ts (next_token text k w ∷ []) in omega arith);
    };
  }

  pub same_word_produces : (k : Kind) (w : S → List ℕ) (lexed : TokenKind) → has k (k ∷ []) ≡ true → ((s : S) → kind_of (w s) lexed ≡ k) → has k squares ≡ false →
      ((s z : S) → R.rel s z → w s ≡ w z) → IsEven (k ∷ []) → Produces b R any (λ s text ts. same_word text ts k (w s))
  unfolding same_word
  same_word_produces k w lexed of is plain fit even = record {
    begun = record {
      sways = λ e text ts other us near s z r. subst (λ (v : List ℕ). Sways any (same_word text ts k (w s)) (same_word other us k v)) (fit s z r) (same_word_sways near k (w s) even);
      keeps = λ n text ts other us alike s z r. subst (λ (v : List ℕ). Keeps n any (same_word text ts k (w s)) (same_word other us k v)) (fit s z r) (same_word_keeps alike k (w s));
      ends = λ s text ts lie p l h. elim h [
        | inl e ↦ absurd (omega (arith, e, l))
        | inr x ↦ record { other = text; us = ts; goes = goes_nowhere lie; tree = x.0; end = after p p.used; derives = (x.1, x.2, x.3, refl); whole = sym x.4 }
      ];
    };
    fill = λ s text ts lie p e. record {
      other = text ++ 10 ∷ w s;
      us = ts ++ next_token text k (w s) ∷ [];
      goes = goes_one k (w s) lexed (is s) plain lie;
      tree = next_token text k (w s);
      end = after p p.used;
      derives = (get_seam ts (next_token text k (w s)) [] p.at e, of, next_spelled text k (w s), refl);
      whole = (let l = length-append ts (next_token text k (w s) ∷ []) in omega arith);
    };
  }

-- the same over another tree before it
module _ {b : Bool} {S Z T : Type 0} {R : Likeness S} {P : Likeness Z} {Q : Likeness T} {F : S → List ℕ → List Marked → Rule T} (g : Z → S) (fit : (x y : Z) → P.rel x y → R.rel (g x) (g y)) where
  pub completes_by : Completes b R Q F → Completes b P Q (λ z. F (g z))
  completes_by f = record {
    keeps = λ k text ts other us alike s z r. f.keeps k text ts other us alike (g s) (g z) (fit s z r);
    ends = λ s. f.ends (g s);
    sways = λ e text ts other us near s z r. f.sways e text ts other us near (g s) (g z) (fit s z r);
  }

  pub produces_by : Produces b R Q F → Produces b P Q (λ z. F (g z))
  produces_by f = record { begun = completes_by f.begun; fill = λ s. f.fill (g s) }

module _ {b : Bool} {S A T : Type 0} {R : Likeness S} {P : Likeness A} {Q : Likeness T} {F : S → List ℕ → List Marked → Rule A} (G : S → List ℕ → List Marked → A → Rule T) where
  joined : Completes b R P F → Completes b (pairs R P) Q (λ (e : S × A) text ts. G e.0 text ts e.1) → (s : S) (text : List ℕ) (ts : List Marked) → LieIn text ts →
      (p : Place) (a : A) (m : Place) → m.at ≤ length ts → (F s text ts).derives p a m → Ended (λ text ts. G s text ts a) text ts m →
      Ended (λ text ts. bind (F s text ts) (G s text ts)) text ts p
  unfolding bind
  joined f g s text ts lie p a m l d e =
      let x = (f.keeps (length ts) text ts e.other e.us (alike_goes lie e.goes) s s (R.self s)).derives p a m l d in
      let y = (g.keeps (length e.us) e.other e.us e.other e.us (alike_self (length e.us) e.other e.us) (s, a) (s, x.0) (R.self s, x.1)).derives m e.tree e.end
      (let w = e.whole in omega arith) e.derives in
      record { other = e.other; us = e.us; goes = e.goes; tree = y.0; end = e.end; derives = (x.0, m, x.2, y.2); whole = e.whole }

  filled : Completes b R P F → Produces b (pairs R P) Q (λ (e : S × A) text ts. G e.0 text ts e.1) → (s : S) (text : List ℕ) (ts : List Marked) →
      (p : Place) → Ended (F s) text ts p → Ended (λ text ts. bind (F s text ts) (G s text ts)) text ts p
  filled f g s text ts p d =
      let e = g.fill (s, d.tree) d.other d.us d.goes.lie d.end d.whole in
      let w = d.whole in
      further (λ text ts. bind (F s text ts) (G s text ts)) text ts d.other d.us p d.goes (joined f g.begun s d.other d.us d.goes.lie p d.tree d.end (omega arith) d.derives e)

  ends_bound : Completes b R P F → Produces b (pairs R P) Q (λ (e : S × A) text ts. G e.0 text ts e.1) → (s : S) (text : List ℕ) (ts : List Marked) → LieIn text ts →
      (p : Place) → p.at < length ts → (bind (F s text ts) (G s text ts)).begins p (length ts) → Ended (λ text ts. bind (F s text ts) (G s text ts)) text ts p
  unfolding bind
  ends_bound f g s text ts lie p l h = elim h [
    | inl x ↦ filled f g s text ts p (f.ends s text ts lie p l x)
    | inr x ↦ (let o = (g.begun.keeps (length ts) text ts text ts (alike_self (length ts) text ts) (s, x.0) (s, x.0) (R.self s, P.self x.0)).order x.1 (length ts) x.3 in
        elim (cases_lt (x.1).at (length ts)) [
          | inl b ↦ joined f g.begun s text ts lie p x.0 x.1 o x.2 (g.begun.ends (s, x.0) text ts lie x.1 b x.3)
          | inr b ↦ joined f g.begun s text ts lie p x.0 x.1 o x.2 (g.fill (s, x.0) text ts lie x.1 (omega arith))
        ])
  ]

  pub bind_completes : Completes b R P F → Produces b (pairs R P) Q (λ (e : S × A) text ts. G e.0 text ts e.1) → Completes b R Q (λ s text ts. bind (F s text ts) (G s text ts))
  bind_completes f g = record {
    keeps = λ k text ts other us alike s z r. bind_keeps (f.keeps k text ts other us alike s z r) (λ a b q. g.begun.keeps k text ts other us alike (s, a) (z, b) (r, q));
    ends = λ s text ts lie p l h. ends_bound f g s text ts lie p l h;
    sways = λ e text ts other us near s z r. bind_sways (f.sways e text ts other us near s z r) (λ a b q. g.begun.sways e text ts other us near (s, a) (z, b) (r, q));
  }

  pub bind_produces : Produces b R P F → Produces b (pairs R P) Q (λ (e : S × A) text ts. G e.0 text ts e.1) → Produces b R Q (λ s text ts. bind (F s text ts) (G s text ts))
  bind_produces f g = record {
    begun = bind_completes f.begun g;
    fill = λ s text ts lie p e. filled f.begun g s text ts p (f.fill s text ts lie p e);
  }

to_left : {T : Type 0} (F G : List ℕ → List Marked → Rule T) (text : List ℕ) (ts : List Marked) (p : Place) → Ended F text ts p → Ended (λ text ts. either (F text ts) (G text ts)) text ts p
unfolding either
to_left F G text ts p e = record { other = e.other; us = e.us; goes = e.goes; tree = e.tree; end = e.end; derives = inl e.derives; whole = e.whole }

to_right : {T : Type 0} (F G : List ℕ → List Marked → Rule T) (text : List ℕ) (ts : List Marked) (p : Place) → Ended G text ts p → Ended (λ text ts. either (F text ts) (G text ts)) text ts p
unfolding either
to_right F G text ts p e = record { other = e.other; us = e.us; goes = e.goes; tree = e.tree; end = e.end; derives = inr e.derives; whole = e.whole }

anew : {T : Type 0} (F : List ℕ → List Marked → Rule T) (text : List ℕ) (ts : List Marked) (p : Place) → Ended F text ts (record { at = p.at; used = 0 }) →
    Ended (λ text ts. afresh (F text ts)) text ts p
unfolding afresh
anew F text ts p e = record {
  other = e.other;
  us = e.us;
  goes = e.goes;
  tree = e.tree;
  end = record { at = e.end.at; used = p.used };
  derives = (e.end.used, e.derives, refl);
  whole = e.whole;
}

keeps_allowed : {T : Type 0} {Q : Likeness T} {k : ℕ} {A B : Rule T} (v : Bool) → Keeps k Q A B → Keeps k Q (allow v A) (allow v B)
unfolding never
keeps_allowed true h = h
keeps_allowed {Q = Q} {k = k} false h = never_keeps k Q never (λ p. refl)

sways_allowed : {T : Type 0} {Q : Likeness T} {A B : Rule T} (v : Bool) → Sways Q A B → Sways Q (allow v A) (allow v B)
sways_allowed true h = h
sways_allowed false h = never_sways never

module _ {b : Bool} {S T : Type 0} {R : Likeness S} {Q : Likeness T} {F G : S → List ℕ → List Marked → Rule T} where
  pub either_completes : Completes b R Q F → Completes b R Q G → Completes b R Q (λ s text ts. either (F s text ts) (G s text ts))
  unfolding either
  either_completes f g = record {
    keeps = λ k text ts other us alike s z r. either_keeps (f.keeps k text ts other us alike s z r) (g.keeps k text ts other us alike s z r);
    ends = λ s text ts lie p l h. elim h [
      | inl x ↦ to_left (F s) (G s) text ts p (f.ends s text ts lie p l x)
      | inr x ↦ to_right (F s) (G s) text ts p (g.ends s text ts lie p l x)
    ];
    sways = λ e text ts other us near s z r. either_sways (f.sways e text ts other us near s z r) (g.sways e text ts other us near s z r);
  }

  pub left_produces : Produces b R Q F → Completes b R Q G → Produces b R Q (λ s text ts. either (F s text ts) (G s text ts))
  left_produces f g = record { begun = either_completes f.begun g; fill = λ s text ts lie p e. to_left (F s) (G s) text ts p (f.fill s text ts lie p e) }

  pub right_produces : Completes b R Q F → Produces b R Q G → Produces b R Q (λ s text ts. either (F s text ts) (G s text ts))
  right_produces f g = record { begun = either_completes f g.begun; fill = λ s text ts lie p e. to_right (F s) (G s) text ts p (g.fill s text ts lie p e) }

module _ {b : Bool} {S T : Type 0} {R : Likeness S} {Q : Likeness T} {F : S → List ℕ → List Marked → Rule T} where
  pub afresh_completes : Completes b R Q F → Completes b R Q (λ s text ts. afresh (F s text ts))
  unfolding afresh
  afresh_completes f = record {
    keeps = λ k text ts other us alike s z r. afresh_keeps (f.keeps k text ts other us alike s z r);
    ends = λ s text ts lie p l h. anew (F s) text ts p (f.ends s text ts lie (record { at = p.at; used = 0 }) l h);
    sways = λ e text ts other us near s z r. afresh_sways (f.sways e text ts other us near s z r);
  }

  pub afresh_produces : Produces b R Q F → Produces b R Q (λ s text ts. afresh (F s text ts))
  afresh_produces f = record { begun = afresh_completes f.begun; fill = λ s text ts lie p e. anew (F s) text ts p (f.fill s text ts lie (record { at = p.at; used = 0 }) e) }

  ends_allowed : Completes b R Q F → (v : Bool) (s : S) (text : List ℕ) (ts : List Marked) → LieIn text ts → (p : Place) → p.at < length ts →
      (allow v (F s text ts)).begins p (length ts) → Ended (λ text ts. allow v (F s text ts)) text ts p
  unfolding never
  ends_allowed f true s text ts lie p l h = f.ends s text ts lie p l h
  ends_allowed f false s text ts lie p l h = absurd (omega (arith, h, l))

  pub allow_completes : (w : S → Bool) → ((s z : S) → R.rel s z → w s ≡ w z) → Completes b R Q F → Completes b R Q (λ s text ts. allow (w s) (F s text ts))
  allow_completes w fit f = record {
    keeps = λ k text ts other us alike s z r.
        subst (λ (v : Bool). Keeps k Q (allow (w s) (F s text ts)) (allow v (F z other us))) (fit s z r) (keeps_allowed (w s) (f.keeps k text ts other us alike s z r));
    ends = λ s. ends_allowed f (w s) s;
    sways = λ e text ts other us near s z r.
        subst (λ (v : Bool). Sways Q (allow (w s) (F s text ts)) (allow v (F z other us))) (fit s z r) (sways_allowed (w s) (f.sways e text ts other us near s z r));
  }

module _ {b : Bool} {S U T : Type 0} {R : Likeness S} {F : S → List ℕ → List Marked → Rule T} (f : U → T → U) where
  ended_many : Completes b R any F → (c : ℕ) (acc : U) (s : S) (text : List ℕ) (ts : List Marked) → LieIn text ts → (p : Place) → p.at < length ts →
      (times f (F s text ts) c acc).begins p (length ts) → Ended (λ text ts. many f (F s text ts) acc) text ts p
  unfolding many times bind give
  ended_many all zero acc s text ts lie p l h = absurd (omega (arith, h, l))
  ended_many all (suc c) acc s text ts lie p l h = elim h [
    | inl x ↦ (let d = all.ends s text ts lie p l x in
        record { other = d.other; us = d.us; goes = d.goes; tree = f acc d.tree; end = d.end; derives = (1, (d.tree, d.end, d.derives, (refl, refl))); whole = d.whole })
    | inr x ↦ (let o = (times_keeps f (all.keeps (length ts) text ts text ts (alike_self (length ts) text ts) s s (R.self s)) c (f acc x.0) (f acc x.0)).order x.1 (length ts) x.3 in
        elim (cases_lt (x.1).at (length ts)) [
          | inl b ↦ (let e = ended_many all c (f acc x.0) s text ts lie x.1 b x.3 in
              let y = (all.keeps (length ts) text ts e.other e.us (alike_goes lie e.goes) s s (R.self s)).derives p x.0 x.1 o x.2 in
              let w = e.whole in
              let t = (times_keeps f (all.keeps (length e.us) e.other e.us e.other e.us (alike_self (length e.us) e.other e.us) s s (R.self s)) (e.derives).0 (f acc x.0) (f acc y.0)).derives
              x.1 e.tree e.end (omega arith) (e.derives).1 in
              record { other = e.other; us = e.us; goes = e.goes; tree = t.0; end = e.end; derives = (suc (e.derives).0, (y.0, x.1, y.2, t.2)); whole = e.whole })
          | inr b ↦ record { other = text; us = ts; goes = goes_nowhere lie; tree = f acc x.0; end = x.1; derives = (1, (x.0, x.1, x.2, (refl, refl))); whole = omega arith }
        ])
  ]

  pub many_produces : (acc : S → List ℕ → List Marked → U) → Completes b R any F → Produces b R any (λ s text ts. many f (F s text ts) (acc s text ts))
  unfolding many times give
  many_produces acc all = record {
    begun = record {
      keeps = λ k text ts other us alike s z r. many_keeps f (all.keeps k text ts other us alike s z r) (acc s text ts) (acc z other us);
      ends = λ s text ts lie p l h.
          let e = ended_many all h.0 (acc s text ts) s text ts lie p l h.1 in
          let w = e.whole in
          let y = (many_keeps f (all.keeps (length e.us) e.other e.us e.other e.us (alike_self (length e.us) e.other e.us) s s (R.self s)) (acc s text ts) (acc s e.other e.us)).derives
          p e.tree e.end (omega arith) e.derives in
          record { other = e.other; us = e.us; goes = e.goes; tree = y.0; end = e.end; derives = y.2; whole = e.whole };
      sways = λ e text ts other us near s z r. many_sways f (all.sways e text ts other us near s z r) (acc s text ts) (acc z other us);
    };
    fill = λ s text ts lie p e. record { other = text; us = ts; goes = goes_nowhere lie; tree = acc s text ts; end = p; derives = (0, (refl, refl)); whole = e };
  }

-- what is known of a rule for each mark of a `[` is known of it with its own marks
module _ {b : Bool} {S T : Type 0} {R : Likeness S} {Q : Likeness T} {F : S → List ℕ → List Marked → Rule T} where
  pub as_marked : Produces true R Q F → Produces b R Q F
  as_marked f = record { begun = record { keeps = f.begun.keeps; ends = f.begun.ends; sways = λ e. f.begun.sways refl }; fill = f.fill }
