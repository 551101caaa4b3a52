-- What the two marks of a `[` begin at the end of a step.
use Rattle.std.proofs.Common.{◌≡◌, ℕ, ◌+◌, List, [], ◌∷◌, Some, false, inl, inr, refl, sym, ◌∙◌, ap, arith, slice_get}
use Rattle.std.proofs.lemmas.Bool.{cases_lt}
use Rattle.cov_lexer.specs.declared.kind.Kind.{Kind}
use Rattle.cov_lexer.specs.declared.kind.Kind.TheVariants.{OpenIndex, OpenSquare}
use Rattle.cov_grammar.specs.declared.marked.Marked.{Marked}
use Rattle.cov_grammar.specs.declared.place.Place.{Place}
use Rattle.cov_grammar.specs.declared.place.Room.{Room}
use Rattle.cov_grammar.specs.declared.place.Standing.TheVariants.{StepEnd}
use Rattle.cov_lexer.specs.Kinds.{has}
use Rattle.cov_grammar.specs.Rule.{Rule, one, bind, both, never}
use Rattle.cov_grammar.specs.Expressions.{index_in, inner_at}
use Rattle.cov_grammar.specs.Bins.{repetition}
use Rattle.cov_grammar.proofs.Lawful.{Lawful, facts_of}
use Rattle.cov_grammar.proofs.ExprLaws.{index_lawful}
use Rattle.cov_grammar.proofs.BinsLaws.{repetition_lawful}

some_same : (a b : Marked) → Some a ≡ Some b → a ≡ b
some_same a b h = cc

-- a rule that a token of this kind can't begin
not_begun : {T : Type 0} {ts : List Marked} {F : Room → Rule T} (l : Lawful ts F) (r : Room) (p : Place) (t : Marked) → slice_get ts p.at ≡ Some t → has t.kind l.first ≡ false →
    (n : ℕ) → (F r).begins p n → n ≡ p.at
not_begun {ts = ts} l r p t h none n b =
    let f = facts_of l r in
    let o = f.order p n b in
    elim (cases_lt p.at n) [
      | inl m ↦ absurd (let s = f.starts p n b m in
          let e = ap (λ (z : Marked). has z.kind l.first) (some_same s.token t (sym s.stands ∙ h)) in
          let k = s.of in cc)
      | inr m ↦ omega arith
    ]

module _ (text : List ℕ) (ts : List Marked) (r : Room) (p : Place) (t : Marked) (stands : slice_get ts p.at ≡ Some t) where
  pub index_no_repetition : t.kind ≡ OpenIndex → (n : ℕ) → (repetition text ts r).begins p n → n ≡ p.at
  index_no_repetition k = not_begun (repetition_lawful text ts) r p t stands (ap (λ (z : Kind). has z (OpenSquare ∷ [])) k)

  pub square_repetition : t.kind ≡ OpenSquare → (repetition text ts r).begins p (p.at + 1)
  unfolding repetition both bind one
  square_repetition k = inl (inr (t, stands, ap (λ (z : Kind). has z (OpenSquare ∷ [])) k, refl))

  pub square_no_index : t.kind ≡ OpenSquare → (n : ℕ) → (index_in text ts StepEnd (inner_at text ts r.operators StepEnd r.levels)).begins p n → n ≡ p.at
  square_no_index k = not_begun (index_lawful text ts StepEnd) r p t stands (ap (λ (z : Kind). has z (OpenIndex ∷ [])) k)

pub no_level_no_index : (text : List ℕ) (ts : List Marked) (limit : ℕ) (p : Place) (n : ℕ) → (index_in text ts StepEnd (inner_at text ts limit StepEnd 0)).begins p n → n ≡ p.at
unfolding index_in inner_at never
no_level_no_index text ts limit p n h = h
