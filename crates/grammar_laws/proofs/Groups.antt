-- Begun selections, points, crosses and members can be completed.
use Rattle.std.proofs.Common.{◌≡◌, ℕ, zero, suc, List, [], ◌∷◌, Option, Bool, true, false, refl}
use Rattle.cov_tree.specs.declared.groups.Sel.{Sel}
use Rattle.cov_lexer.specs.declared.kind.Kind.TheVariants.{AndAnd, OrOr}
use Rattle.cov_grammar.specs.declared.marked.Marked.{Marked}
use Rattle.cov_grammar.specs.declared.place.Room.{Room}
use Rattle.cov_grammar.specs.declared.place.Standing.TheVariants.{Plain}
use Rattle.cov_grammar.specs.Rule.{Rule, never}
use Rattle.cov_grammar.specs.Groups.{SelInner, binsof_in, not_in, sel_paren_in, sunary_in, sand_in, sel_in, sel_inner_at, sel, cross_bins, body, point, crossed, cross, label, item, member}
use Rattle.grammar_laws.proofs.Keeps.{Likeness, any}
use Rattle.grammar_laws.proofs.Completes.{Completes, Produces, here_produces, counted_completes, bind_produces, either_completes, left_produces, right_produces, afresh_produces, many_produces}
use Rattle.grammar_laws.proofs.Combine.{mapped_completes, mapped_produces, pair_produces, ahead_completes, ahead_produces, behind_produces, fold_produces, maybe_produces}
use Rattle.grammar_laws.proofs.Words.{coverpoint_word, cross_word, binsof_word, intersect_word, open_paren, close_paren, open_brace, close_brace, comma, semi, colon, dot, assign, bang}
use Rattle.grammar_laws.proofs.Expressions.{allow_if, Everywhere, wherever, nothing, expr_produces}
use Rattle.grammar_laws.proofs.Bins.{ident_any, ident_produces, guard_produces, elems_produces, one_bins_word, bins_produces, optset_produces}

module _ {S : Type 0} {R : Likeness S} where
  binsof_produces : (r : Room) → Produces true R any (λ s text ts. binsof_in text ts r)
  unfolding binsof_in
  binsof_produces r = pair_produces _ binsof_word
      (pair_produces _ (ahead_produces open_paren (behind_produces (pair_produces _ ident_produces (maybe_produces (ahead_completes dot.begun ident_produces))) close_paren))
      (maybe_produces (ahead_completes intersect_word.begun (ahead_produces open_brace (behind_produces (elems_produces Plain r) close_brace)))))

-- what stands inside, where there is room
abbrev made : Bool → (X Y : List ℕ → List Marked → Rule Sel) → List ℕ → List Marked → SelInner
made b X Y text ts = record { room = b; inside = X text ts; operand = Y text ts }

module _ {S : Type 0} {R : Likeness S} (r : Room) (b : Bool) (X Y : List ℕ → List Marked → Rule Sel) (inside : b ≡ true → Everywhere X) (operand : b ≡ true → Everywhere Y) where
  not_completes : Completes true R any (λ (_ : S) text ts. not_in text ts (made b X Y text ts))
  unfolding not_in
  not_completes = allow_if b (λ e. mapped_completes _ (ahead_completes bang.begun (wherever (operand e))))

  paren_completes : Completes true R any (λ (_ : S) text ts. sel_paren_in text ts (made b X Y text ts))
  unfolding sel_paren_in
  paren_completes = allow_if b (λ e. ahead_completes open_paren.begun (behind_produces (wherever (inside e)) close_paren))

  sunary_produces : Produces true R any (λ (_ : S) text ts. sunary_in text ts r (made b X Y text ts))
  unfolding sunary_in
  sunary_produces = right_produces not_completes (right_produces paren_completes (binsof_produces r))

  sand_produces : Produces true R any (λ (_ : S) text ts. sand_in text ts r (made b X Y text ts))
  unfolding sand_in
  sand_produces = fold_produces _ sunary_produces (ahead_completes (counted_completes r.operators (AndAnd ∷ []) refl) sunary_produces)

  sel_in_produces : Produces true R any (λ (_ : S) text ts. sel_in text ts r (made b X Y text ts))
  unfolding sel_in
  sel_in_produces = fold_produces _ sand_produces (ahead_completes (counted_completes r.operators (OrOr ∷ []) refl) sand_produces)

-- a selection and an operand with so many levels left
record Deep (limit d : ℕ) : Type 0 where
  all : Everywhere (λ text ts. sel_in text ts (record { levels = d; operators = limit }) (sel_inner_at text ts limit d))
  one : Everywhere (λ text ts. sunary_in text ts (record { levels = d; operators = limit }) (sel_inner_at text ts limit d))

deep : (limit : ℕ) (d : ℕ) → Deep limit d
unfolding sel_inner_at
deep limit zero =
    let r : Room = record { levels = 0; operators = limit } in
    record {
      all = sel_in_produces r false (λ text ts. never) (λ text ts. never) nothing nothing;
      one = sunary_produces r false (λ text ts. never) (λ text ts. never) nothing nothing;
    }
deep limit (suc d) =
    let h = deep limit d in
    let r : Room = record { levels = suc d; operators = limit } in
    let X = λ (text : List ℕ) (ts : List Marked). sel_in text ts (record { levels = d; operators = limit }) (sel_inner_at text ts limit d) in
    let Y = λ (text : List ℕ) (ts : List Marked). sunary_in text ts (record { levels = d; operators = limit }) (sel_inner_at text ts limit d) in
    record {
      all = sel_in_produces r true X Y (λ e. h.all) (λ e. h.one);
      one = sunary_produces r true X Y (λ e. h.all) (λ e. h.one);
    }

module _ {S : Type 0} {R : Likeness S} where
  sel_produces : (r : Room) → Produces true R any (λ (_ : S) text ts. sel text ts r)
  unfolding sel
  sel_produces r = afresh_produces (wherever (deep r.operators r.levels).all)

  cross_bins_produces : (r : Room) → Produces true R any (λ (_ : S) text ts. cross_bins text ts r)
  unfolding cross_bins
  cross_bins_produces r = pair_produces _ one_bins_word
      (behind_produces (pair_produces _ (pair_produces _ ident_produces (ahead_produces assign (sel_produces r))) (maybe_produces (guard_produces r).begun)) semi)

  body_produces : {A : Type 0} {X : List ℕ → List Marked → Rule A} → Completes true R any (λ (_ : S) text ts. X text ts) → (r : Room) → Produces true R any (λ (_ : S) text ts. body text ts (X text ts) r)
  unfolding body
  body_produces x r = left_produces (mapped_produces _ semi)
      (ahead_completes open_brace.begun (behind_produces (many_produces _ _ (either_completes (mapped_completes _ (optset_produces r).begun) (mapped_completes _ x))) close_brace))

  point_produces : (g : S → ℕ) (l : S → Option (List ℕ)) (r : Room) → Produces true R any (λ s text ts. point text ts (g s) (l s) r)
  unfolding point
  point_produces g l r = pair_produces _ (ahead_produces coverpoint_word (pair_produces _ (expr_produces r) (maybe_produces (guard_produces r).begun))) (body_produces (bins_produces r).begun r)

  crossed_produces : Produces true R any (λ (_ : S) text ts. crossed text ts)
  unfolding crossed
  crossed_produces = fold_produces _ (pair_produces _ ident_produces (ahead_produces comma ident_produces)) (ahead_completes comma.begun ident_any)

  cross_produces : (g : S → ℕ) (l : S → Option (List ℕ)) (r : Room) → Produces true R any (λ s text ts. cross text ts (g s) (l s) r)
  unfolding cross
  cross_produces g l r = pair_produces _ (ahead_produces cross_word (pair_produces _ crossed_produces (maybe_produces (guard_produces r).begun))) (body_produces (cross_bins_produces r).begun r)

  label_produces : Produces true R any (λ (_ : S) text ts. label text ts)
  unfolding label
  label_produces = behind_produces ident_any colon

module _ {S : Type 0} {R : Likeness S} where
  item_produces : (r : Room) → Produces true R any (λ (_ : S) text ts. item text ts r)
  unfolding item
  item_produces r = bind_produces _ (pair_produces _ here_produces (maybe_produces label_produces.begun))
      (left_produces (point_produces (λ (e : S × (ℕ × Option (List ℕ))). e.1.0) (λ e. e.1.1) r) (cross_produces (λ e. e.1.0) (λ e. e.1.1) r).begun)

  pub member_produces : (r : Room) → Produces true R any (λ (_ : S) text ts. member text ts r)
  unfolding member
  member_produces r = right_produces (mapped_completes _ (optset_produces r).begun) (right_produces (mapped_completes _ (item_produces r).begun) (mapped_produces _ semi))
