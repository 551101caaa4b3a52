-- Begun expressions can be completed, and where one can begin, one can stand.
use Rattle.std.proofs.Common.{◌≡◌, ℕ, ◌+◌, inl, inr, ap, ◌∙◌, arith, slice_get, zero, suc, List, Some, Bool, true, false, refl}
use Rattle.cov_tree.specs.declared.expr.Expr.{Expr}
use Rattle.cov_lexer.specs.declared.kind.Kind.{Kind}
use Rattle.cov_lexer.specs.declared.kind.Kind.TheVariants.{OpenIndex, Colon, CloseSquare}
use Rattle.cov_grammar.specs.declared.marked.Marked.{Marked}
use Rattle.cov_grammar.specs.declared.place.Place.{Place}
use Rattle.cov_grammar.specs.declared.place.Room.{Room}
use Rattle.cov_grammar.specs.declared.place.Standing.{Standing}
use Rattle.cov_grammar.specs.declared.place.Standing.TheVariants.{Plain, StepEnd}
use Rattle.cov_grammar.specs.Rule.{Rule, after, one, map_to, bind, give, word, never, both, maybe, ◌▸◌, ◌◂◌, allow}
use Rattle.std.proofs.lemmas.Bool.{cases_lt}
use Rattle.cov_lexer.specs.Kinds.{has}
use Rattle.cov_grammar.specs.Marking.{expr_kinds}
use Rattle.cov_grammar.proofs.Lawful.{facts_of}
use Rattle.cov_grammar.proofs.ExprLaws.{part_expr_lawful}
use Rattle.cov_grammar.specs.Operators.{unary_kinds, level_kinds}
use Rattle.cov_grammar.specs.Expressions.{Inner, pair, index_kinds, number_rule, index_in, named_in, paren_in, list_in, concat_in, primary_in, signed_in, unary_in, binary_in, branches_in, expr_in, inner_at, whole_expr, expr}
use Rattle.grammar_laws.proofs.Keeps.{Likeness, any, IsEven, IsFlipped, opened_sways}
use Rattle.grammar_laws.proofs.Completes.{Completes, Produces, as_marked, here_produces, never_completes, one_completes, counted_completes, completes_by, produces_by, bind_produces, either_completes, left_produces, right_produces, afresh_produces}
use Rattle.grammar_laws.proofs.Combine.{mapped_produces, pair_completes, pair_produces, ahead_completes, ahead_produces, behind_produces, fold_produces, maybe_produces}
use Rattle.grammar_laws.proofs.Words.{ident_token, numeral, open_paren, close_paren, close_square, open_brace, close_brace, comma, colon, question}

pub allow_if : {S T : Type 0} {R : Likeness S} {Q : Likeness T} {F : S → List ℕ → List Marked → Rule T} (b : Bool) → (b ≡ true → Completes true R Q F) →
    Completes true R Q (λ s text ts. allow b (F s text ts))
allow_if true h = h refl
allow_if false h = never_completes

level_even : (level : ℕ) → IsEven (level_kinds level)
level_even zero = refl
level_even (suc zero) = refl
level_even (suc (suc zero)) = refl
level_even (suc (suc (suc zero))) = refl
level_even (suc (suc (suc (suc zero)))) = refl
level_even (suc (suc (suc (suc (suc zero))))) = refl
level_even (suc (suc (suc (suc (suc (suc zero)))))) = refl
level_even (suc (suc (suc (suc (suc (suc (suc zero))))))) = refl
level_even (suc (suc (suc (suc (suc (suc (suc (suc zero)))))))) = refl
level_even (suc (suc (suc (suc (suc (suc (suc (suc (suc zero))))))))) = refl
level_even (suc (suc (suc (suc (suc (suc (suc (suc (suc (suc n)))))))))) = refl

-- a rule that sees nothing of what came before
abbrev pub Everywhere : {T : Type 0} → (List ℕ → List Marked → Rule T) → Type 0
Everywhere X = Produces {S = Unit {0}} true any any (λ s text ts. X text ts)

pub wherever : {S T : Type 0} {R : Likeness S} {X : List ℕ → List Marked → Rule T} → Everywhere X → Produces true R any (λ (_ : S) text ts. X text ts)
wherever h = produces_by (λ s. tt) (λ x y r. tt) h

module _ {S : Type 0} {R : Likeness S} where
  pub number_produces : Produces true R any (λ s text ts. number_rule text ts)
  unfolding number_rule
  number_produces = mapped_produces _ numeral

  pub list_produces : {E : List ℕ → List Marked → Rule Expr} → Produces true R any (λ s text ts. E text ts) → Produces true R any (λ s text ts. list_in text ts (E text ts))
  unfolding list_in
  list_produces e = fold_produces _ (mapped_produces _ e) (ahead_completes comma.begun e)

-- a token that can begin an expression stands there
abbrev Starts : List Marked → Place → Type 0
Starts ts p = (x : Marked) × (slice_get ts p.at ≡ Some x) × (has x.kind expr_kinds ≡ true)

expr_starts : (limit d : ℕ) (text : List ℕ) (ts : List Marked) (p : Place) (t : Expr) (q : Place) →
    (expr_in text ts limit Plain (inner_at text ts limit Plain d)).derives p t q → Starts ts p
expr_starts limit d text ts p t q h =
    let r : Room = record { levels = d; operators = limit } in
    let f = facts_of (part_expr_lawful text ts Plain) r in
    let b = f.whole p t q h in
    let l = f.order p q.at b in
    elim (cases_lt p.at q.at) [
      | inl m ↦ (let s = f.starts p q.at b m in (s.token, s.stands, s.of))
      | inr m ↦ absurd (let e = (f.blank p t q h (omega arith)).0 in cc)
    ]

index_has : (s : Standing) → has OpenIndex (index_kinds s) ≡ true
index_has Plain = refl
index_has StepEnd = refl

-- the mark of an index fits where an expression stands behind it
fits : {ts : List Marked} {i : ℕ} (s : Standing) (t u : Marked) → has t.kind (index_kinds s) ≡ true → IsFlipped ts t u i →
    (((x : Marked) → slice_get ts (i + 1) ≡ Some x → has x.kind expr_kinds ≡ false) → ⊥) → has u.kind (index_kinds s) ≡ true
fits s t u h flip none = elim flip.how [
  | inl x ↦ (let e : has u.kind (index_kinds s) ≡ has OpenIndex (index_kinds s) = ap (λ (z : Kind). has z (index_kinds s)) x.1 in e ∙ index_has s)
  | inr x ↦ absurd (none x.2)
]

-- what stands inside, where there is room
abbrev made : Bool → (X Y Z : List ℕ → List Marked → Rule Expr) → List ℕ → List Marked → Inner
made b X Y Z text ts = record { room = b; inside = X text ts; operand = Y text ts; last = Z text ts }

module _ {S : Type 0} {R : Likeness S} (limit : ℕ) (b : Bool) (X Y Z : List ℕ → List Marked → Rule Expr)
    (inside : b ≡ true → Everywhere X) (operand : b ≡ true → Everywhere Y) (last : b ≡ true → Everywhere Z)
    (starts : b ≡ true → (text : List ℕ) (ts : List Marked) (p : Place) (t : Expr) (q : Place) → (X text ts).derives p t q → Starts ts p) where
  behind_square : b ≡ true → Produces true R any (λ (_ : S) text ts. both pair (X text ts) (maybe (word ts Colon ▸ X text ts)) ◂ word ts CloseSquare)
  behind_square e = behind_produces (pair_produces _ (wherever (inside e)) (maybe_produces (ahead_completes colon.begun (wherever (inside e))))) close_square

  opened : (s : Standing) (e : b ≡ true) → Completes true R any (λ (_ : S) text ts. one ts (index_kinds s) ▸ both pair (X text ts) (maybe (word ts Colon ▸ X text ts)) ◂ word ts CloseSquare)
  unfolding both map_to bind give
  opened s e =
      let base = ahead_completes {b = false} (one_completes (index_kinds s) (λ f. absurd (cc))) (as_marked (behind_square e)) in
      record {
        keeps = base.keeps;
        ends = base.ends;
        sways = λ f text ts other us near x z r.
            opened_sways near (index_kinds s) (both pair (X text ts) (maybe (word ts Colon ▸ X text ts)) ◂ word ts CloseSquare) _ ((behind_square e).begun.sways refl text ts other us near x z r)
            (λ p t u y q h flip d. fits s t u h flip (λ n. let a = starts e text ts (after p p.used) d.2.0 d.2.1 d.2.2 in let m = n a.0 a.1 in let k = a.2 in absurd (cc)));
      }

  index_completes : (s : Standing) → Completes true R any (λ (_ : S) text ts. index_in text ts s (made b X Y Z text ts))
  unfolding index_in
  index_completes s = allow_if b (opened s)

  named_completes : (s : Standing) → Completes true R any (λ (_ : S) text ts. named_in text ts s (made b X Y Z text ts))
  unfolding named_in
  named_completes s = pair_completes _ ident_token.begun (maybe_produces (index_completes s))

  paren_completes : Completes true R any (λ (_ : S) text ts. paren_in text ts (made b X Y Z text ts))
  unfolding paren_in
  paren_completes = allow_if b (λ e. ahead_completes open_paren.begun (behind_produces (wherever (inside e)) close_paren))

  concat_completes : Completes true R any (λ (_ : S) text ts. concat_in text ts (made b X Y Z text ts))
  unfolding concat_in
  concat_completes = allow_if b (λ e. pair_completes _ open_brace.begun (behind_produces (list_produces (wherever (inside e))) close_brace))

  primary_produces : (s : Standing) → Produces true R any (λ (_ : S) text ts. primary_in text ts s (made b X Y Z text ts))
  unfolding primary_in
  primary_produces s = left_produces number_produces (either_completes (named_completes s) (either_completes paren_completes concat_completes))

  signed_completes : Completes true R any (λ (_ : S) text ts. signed_in text ts (made b X Y Z text ts))
  unfolding signed_in
  signed_completes = allow_if b (λ e. pair_completes _ (one_completes unary_kinds (λ e. refl)) (wherever (operand e)))

  pub unary_produces : (s : Standing) → Produces true R any (λ (_ : S) text ts. unary_in text ts s (made b X Y Z text ts))
  unfolding unary_in
  unary_produces s = right_produces signed_completes (primary_produces s)

  binary_produces : (s : Standing) (level : ℕ) → Produces true R any (λ (_ : S) text ts. binary_in text ts limit s (made b X Y Z text ts) level)
  unfolding binary_in
  binary_produces s zero = unary_produces s
  binary_produces s (suc level) =
      fold_produces _ (binary_produces s level) (pair_completes _ (counted_completes limit (level_kinds level) (level_even level)) (binary_produces s level))

  branches_completes : Completes true R any (λ (_ : S) text ts. branches_in text ts (made b X Y Z text ts))
  unfolding branches_in
  branches_completes = allow_if b (λ e. ahead_completes question.begun (pair_produces _ (wherever (inside e)) (ahead_produces colon (wherever (last e)))))

  pub expr_in_produces : (s : Standing) → Produces true R any (λ (_ : S) text ts. expr_in text ts limit s (made b X Y Z text ts))
  unfolding expr_in
  expr_in_produces s = bind_produces _ here_produces (pair_produces _ (produces_by (λ (e : S × ℕ). e.0) (λ x y r. r.0) (binary_produces s 10))
      (maybe_produces (completes_by (λ (e : S × ℕ). e.0) (λ x y r. r.0) branches_completes)))

-- an expression and an operand with so many levels left
record Deep (limit : ℕ) (s : Standing) (d : ℕ) : Type 0 where
  all : Everywhere (λ text ts. expr_in text ts limit s (inner_at text ts limit s d))
  one : Everywhere (λ text ts. unary_in text ts s (inner_at text ts limit s d))

pub nothing : {A : Type 0} → false ≡ true → A
nothing e = absurd (cc)

deep : (limit : ℕ) (d : ℕ) (s : Standing) → Deep limit s d
unfolding inner_at
deep limit zero s = record {
  all = expr_in_produces limit false (λ text ts. never) (λ text ts. never) (λ text ts. never) nothing nothing nothing nothing s;
  one = unary_produces limit false (λ text ts. never) (λ text ts. never) (λ text ts. never) nothing nothing nothing nothing s;
}
deep limit (suc d) s =
    let plain = deep limit d Plain in
    let same = deep limit d s in
    let X = λ (text : List ℕ) (ts : List Marked). expr_in text ts limit Plain (inner_at text ts limit Plain d) in
    let Y = λ (text : List ℕ) (ts : List Marked). unary_in text ts s (inner_at text ts limit s d) in
    let Z = λ (text : List ℕ) (ts : List Marked). expr_in text ts limit s (inner_at text ts limit s d) in
    record {
      all = expr_in_produces limit true X Y Z (λ e. plain.all) (λ e. same.one) (λ e. same.all) (λ e. expr_starts limit d) s;
      one = unary_produces limit true X Y Z (λ e. plain.all) (λ e. same.one) (λ e. same.all) (λ e. expr_starts limit d) s;
    }

module _ {S : Type 0} {R : Likeness S} where
  pub whole_expr_produces : (s : Standing) (r : Room) → Produces true R any (λ (_ : S) text ts. whole_expr text ts s r)
  unfolding whole_expr
  whole_expr_produces s r = afresh_produces (wherever (deep r.operators r.levels s).all)

  pub expr_produces : (r : Room) → Produces true R any (λ (_ : S) text ts. expr text ts r)
  expr_produces r = whole_expr_produces Plain r
