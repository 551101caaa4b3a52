-- The same of the rules that are made of those: a tree changed, one rule and another, repetitions, what may be left out, words.
use Rattle.std.proofs.Common.{ℕ, List, Option, Some, None, Bool}
use Rattle.cov_grammar.specs.declared.marked.Marked.{Marked}
use Rattle.cov_grammar.specs.Rule.{Rule, give, many, map_to, both, fold, ahead, behind, maybe}
use Rattle.grammar_laws.proofs.Keeps.{Likeness, any, pairs}
use Rattle.grammar_laws.proofs.Completes.{Completes, Produces, give_produces, completes_by, produces_by, bind_completes, bind_produces, left_produces, many_produces}

given : {b : Bool} {S A T : Type 0} (R : Likeness S) (P : Likeness A) (Q : Likeness T) (f : S → List ℕ → List Marked → A → T) →
    ((s z : S) (text other : List ℕ) (ts us : List Marked) (a b : A) → R.rel s z → P.rel a b → Q.rel (f s text ts a) (f z other us b)) →
    Produces b (pairs R P) Q (λ (e : S × A) text ts. give (f e.0 text ts e.1))
given {S = S} {A = A} R P Q f fit = give_produces (λ (e : S × A) text ts. f e.0 text ts e.1) (λ x y text other ts us r. fit x.0 y.0 text other ts us x.1 y.1 r.0 r.1)

module _ {b : Bool} {S A T : Type 0} {R : Likeness S} {P : Likeness A} {Q : Likeness T} {F : S → List ℕ → List Marked → Rule A} (f : S → List ℕ → List Marked → A → T)
    (fit : (s z : S) (text other : List ℕ) (ts us : List Marked) (a b : A) → R.rel s z → P.rel a b → Q.rel (f s text ts a) (f z other us b)) where
  pub map_completes : Completes b R P F → Completes b R Q (λ s text ts. map_to (f s text ts) (F s text ts))
  unfolding map_to
  map_completes h = bind_completes (λ s text ts a. give (f s text ts a)) h (given R P Q f fit)

  pub map_produces : Produces b R P F → Produces b R Q (λ s text ts. map_to (f s text ts) (F s text ts))
  unfolding map_to
  map_produces h = bind_produces (λ s text ts a. give (f s text ts a)) h (given R P Q f fit)

second : {b : Bool} {S A B T : Type 0} (R : Likeness S) (P : Likeness A) {O : Likeness B} (Q : Likeness T) {G : S → List ℕ → List Marked → Rule B} (f : S → List ℕ → List Marked → A → B → T) →
    ((s z : S) (text other : List ℕ) (ts us : List Marked) (a b : A) (c d : B) → R.rel s z → P.rel a b → O.rel c d → Q.rel (f s text ts a c) (f z other us b d)) →
    Produces b R O G → Produces b (pairs R P) Q (λ (e : S × A) text ts. map_to (f e.0 text ts e.1) (G e.0 text ts))
second {S = S} {A = A} R P Q f fit g =
    map_produces (λ (e : S × A) text ts b. f e.0 text ts e.1 b) (λ x y text other ts us c d r q. fit x.0 y.0 text other ts us x.1 y.1 c d r.0 r.1 q)
    (produces_by (λ (e : S × A). e.0) (λ x y r. r.0) g)

module _ {b : Bool} {S A B T : Type 0} {R : Likeness S} {P : Likeness A} {O : Likeness B} {Q : Likeness T} {F : S → List ℕ → List Marked → Rule A} {G : S → List ℕ → List Marked → Rule B}
    (f : S → List ℕ → List Marked → A → B → T)
    (fit : (s z : S) (text other : List ℕ) (ts us : List Marked) (a b : A) (c d : B) → R.rel s z → P.rel a b → O.rel c d → Q.rel (f s text ts a c) (f z other us b d)) where
  pub both_completes : Completes b R P F → Produces b R O G → Completes b R Q (λ s text ts. both (f s text ts) (F s text ts) (G s text ts))
  unfolding both
  both_completes h g = bind_completes (λ s text ts a. map_to (f s text ts a) (G s text ts)) h (second R P Q f fit g)

  pub both_produces : Produces b R P F → Produces b R O G → Produces b R Q (λ s text ts. both (f s text ts) (F s text ts) (G s text ts))
  unfolding both
  both_produces h g = bind_produces (λ s text ts a. map_to (f s text ts a) (G s text ts)) h (second R P Q f fit g)

module _ {b : Bool} {S A B : Type 0} {R : Likeness S} {P : Likeness A} {Q : Likeness B} {F : S → List ℕ → List Marked → Rule A} {G : S → List ℕ → List Marked → Rule B} where
  pub ahead_completes : Completes b R P F → Produces b R Q G → Completes b R Q (λ s text ts. ahead (F s text ts) (G s text ts))
  ahead_completes = both_completes (λ s text ts a b. b) (λ s z text other ts us a b c d r p q. q)

  pub ahead_produces : Produces b R P F → Produces b R Q G → Produces b R Q (λ s text ts. ahead (F s text ts) (G s text ts))
  ahead_produces = both_produces (λ s text ts a b. b) (λ s z text other ts us a b c d r p q. q)

  pub behind_completes : Completes b R P F → Produces b R Q G → Completes b R P (λ s text ts. behind (F s text ts) (G s text ts))
  behind_completes = both_completes (λ s text ts a b. a) (λ s z text other ts us a b c d r p q. p)

  pub behind_produces : Produces b R P F → Produces b R Q G → Produces b R P (λ s text ts. behind (F s text ts) (G s text ts))
  behind_produces = both_produces (λ s text ts a b. a) (λ s z text other ts us a b c d r p q. p)

-- where nothing of the tree is asked for
module _ {b : Bool} {S A T : Type 0} {R : Likeness S} {P : Likeness A} {F : S → List ℕ → List Marked → Rule A} (f : S → List ℕ → List Marked → A → T) where
  pub mapped_completes : Completes b R P F → Completes b R any (λ s text ts. map_to (f s text ts) (F s text ts))
  mapped_completes = map_completes f (λ s z text other ts us a b r p. tt)

  pub mapped_produces : Produces b R P F → Produces b R any (λ s text ts. map_to (f s text ts) (F s text ts))
  mapped_produces = map_produces f (λ s z text other ts us a b r p. tt)

module _ {b : Bool} {S A B T : Type 0} {R : Likeness S} {P : Likeness A} {O : Likeness B} {F : S → List ℕ → List Marked → Rule A} {G : S → List ℕ → List Marked → Rule B}
    (f : S → List ℕ → List Marked → A → B → T) where
  pub pair_completes : Completes b R P F → Produces b R O G → Completes b R any (λ s text ts. both (f s text ts) (F s text ts) (G s text ts))
  pair_completes = both_completes f (λ s z text other ts us a b c d r p q. tt)

  pub pair_produces : Produces b R P F → Produces b R O G → Produces b R any (λ s text ts. both (f s text ts) (F s text ts) (G s text ts))
  pair_produces = both_produces f (λ s z text other ts us a b c d r p q. tt)

repeated : {b : Bool} {S U B : Type 0} (R : Likeness S) (P : Likeness U) {G : S → List ℕ → List Marked → Rule B} (f : U → B → U) → Completes b R any G →
    Produces b (pairs R P) any (λ (e : S × U) text ts. many f (G e.0 text ts) e.1)
repeated {S = S} {U = U} R P f g = many_produces f (λ (e : S × U) text ts. e.1) (completes_by (λ (e : S × U). e.0) (λ x y r. r.0) g)

module _ {b : Bool} {S U B : Type 0} {R : Likeness S} {P : Likeness U} {F : S → List ℕ → List Marked → Rule U} {G : S → List ℕ → List Marked → Rule B} (f : U → B → U) where
  pub fold_completes : Completes b R P F → Completes b R any G → Completes b R any (λ s text ts. fold f (F s text ts) (G s text ts))
  unfolding fold
  fold_completes h g = bind_completes (λ s text ts a. many f (G s text ts) a) h (repeated R P f g)

  pub fold_produces : Produces b R P F → Completes b R any G → Produces b R any (λ s text ts. fold f (F s text ts) (G s text ts))
  unfolding fold
  fold_produces h g = bind_produces (λ s text ts a. many f (G s text ts) a) h (repeated R P f g)

module _ {b : Bool} {S T : Type 0} {R : Likeness S} {P : Likeness T} {F : S → List ℕ → List Marked → Rule T} where
  -- what is seen of what may be left out
  pub optional : (Q : Likeness (Option T)) → ((a b : T) → P.rel a b → Q.rel (Some a) (Some b)) → Completes b R P F → Produces b R Q (λ s text ts. maybe (F s text ts))
  unfolding maybe
  optional Q fit h = left_produces (give_produces (λ s text ts. None) (λ s z text other ts us r. Q.self None))
      (map_completes (λ s text ts. Some) (λ s z text other ts us a b r p. fit a b p) h)

  pub maybe_produces : Completes b R P F → Produces b R any (λ s text ts. maybe (F s text ts))
  maybe_produces = optional any (λ a b p. tt)
