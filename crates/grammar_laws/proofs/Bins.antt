-- Begun values, sequences, bins and options can be completed.
use Rattle.std.proofs.Common.{◌≡◌, ℕ, ◌+◌, List, [], ◌∷◌, Option, Some, None, Bool, true, false, not, ◌&&◌, inl, inr, slice_get, refl, sym, ◌∙◌, ap, arith, codes}
use Rattle.cov_tree.specs.declared.expr.Expr.{Expr}
use Rattle.cov_tree.specs.declared.bins.Size.{Size}
use Rattle.cov_lexer.specs.declared.token.TokenKind.TheVariants as lexed
use Rattle.cov_lexer.specs.declared.kind.Kind.{Kind}
use Rattle.cov_lexer.specs.declared.kind.Kind.TheVariants.{Ident, BinsWord, OptionWord, TypeOptionWord, OpenSquare, CloseSquare, Colon, Star, ThinArrow, Assign}
use Rattle.cov_grammar.specs.declared.marked.Marked.{Marked}
use Rattle.cov_grammar.specs.declared.place.Place.{Place}
use Rattle.cov_grammar.specs.declared.place.Room.{Room}
use Rattle.cov_grammar.specs.declared.place.Standing.{Standing}
use Rattle.cov_grammar.specs.declared.place.Standing.TheVariants.{Plain, StepEnd}
use Rattle.cov_lexer.specs.Kinds.{has}
use Rattle.cov_grammar.specs.Rule.{one, word, bind, give, map_to, both, maybe, ◌▸◌, ◌◂◌}
use Rattle.cov_grammar.specs.Expressions.{spelled, pair, expr}
use Rattle.cov_lexer.specs.Spellings.{words, operators}
use Rattle.cov_grammar.specs.Bins.{squares, bins_words, size_of, is_scalar, is_fixed, is_some, BinsHead, repeated, ident, guard, range_end, span, elem, elems, repetition, step, seq, seqs, keep, values, size, bins_word, bins_head, default_right, right, bins, option_value, optset}
use Rattle.grammar_laws.specs.Tables.{repetition_kinds}
use Rattle.grammar_laws.specs.Continuations.{AreAlike}
use Rattle.grammar_laws.proofs.Keeps.{Likeness, any, same, pairs, seen, Keeps, AreNear, IsFlipped, Sways, spelled_sways, opened_sways}
use Rattle.grammar_laws.proofs.Completes.{Completes, Produces, as_marked, here_produces, one_completes, one_produces, bind_produces, left_produces, right_produces, allow_completes}
use Rattle.grammar_laws.proofs.Combine.{map_produces, both_produces, optional, mapped_completes, mapped_produces, pair_completes, pair_produces, ahead_completes, ahead_produces, behind_produces, fold_produces, maybe_produces}
use Rattle.grammar_laws.proofs.Words.{ident_token, quoted, wildcard_word, iff_word, default_word, sequence_word, with_word, open_paren, close_paren, close_square, open_brace, close_brace, comma, semi, colon, dot, assign, fat_arrow, dollar_sign}
use Rattle.grammar_laws.proofs.Expressions.{whole_expr_produces, expr_produces}

ident_keeps : {k : ℕ} {text : List ℕ} {ts : List Marked} {other : List ℕ} {us : List Marked} → AreAlike k text ts other us →
    Keeps k any (ident text ts) (ident other us) → Keeps k same (ident text ts) (ident other us)
unfolding ident map_to one bind give
ident_keeps alike h = record {
  order = h.order;
  span = h.span;
  empty = h.empty;
  derives = λ p t q l d.
      let e : q.at ≡ p.at + 1 = ap (λ (x : Place). x.at) (d.3.1 ∙ d.2.2) in
      let w = alike.like p.at d.0 (omega (arith, e, l)) d.2.0 in
      (spelled _ w.token, d.3.0 ∙ sym w.spelling, (w.token, d.1, (w.stands, ap (λ (z : Kind). has z (Ident ∷ [])) w.kind ∙ d.2.1, d.2.2), (refl, d.3.1)));
  begins = h.begins;
}

ident_sways : {text : List ℕ} {ts : List Marked} {other : List ℕ} {us : List Marked} → AreNear text ts other us → Sways same (ident text ts) (ident other us)
unfolding ident
ident_sways near = spelled_sways near Ident refl

-- what bins see of their size
abbrev pub shape : Size → Bool × Bool
shape s = (is_scalar s, is_fixed s)

-- the mark of a repetition fits where one of its operators stands behind it
fits : {ts : List Marked} {i : ℕ} (t u : Marked) → has t.kind (OpenSquare ∷ []) ≡ true → IsFlipped ts t u i →
    (((x : Marked) → slice_get ts (i + 1) ≡ Some x → has x.kind repetition_kinds ≡ false) → ⊥) → has u.kind (OpenSquare ∷ []) ≡ true
fits t u h flip none = elim flip.how [
  | inl x ↦ absurd (none x.2)
  | inr x ↦ ap (λ (z : Kind). has z (OpenSquare ∷ [])) x.1
]

sized : (a b : Option Expr) → is_some a ≡ is_some b → shape (size_of (Some a)) ≡ shape (size_of (Some b))
sized None None h = refl
sized None (Some b) h = absurd (cc)
sized (Some a) None h = absurd (cc)
sized (Some a) (Some b) h = refl

both_same : {a b : Bool} (x y : Size) → a ≡ b → shape x ≡ shape y → (not a && not (is_fixed x)) ≡ (not b && not (is_fixed y))
both_same {b = b} x y e f = ap (λ (z : Bool). not z && not (is_fixed x)) e ∙ ap (λ (z : Bool × Bool). not b && not z.1) f

module _ {S : Type 0} {R : Likeness S} where
  pub ident_any : Produces true R any (λ s text ts. ident text ts)
  unfolding ident
  ident_any = mapped_produces _ ident_token

  pub ident_produces : Produces true R same (λ s text ts. ident text ts)
  ident_produces = record {
    begun = record {
      keeps = λ k text ts other us alike s z r. ident_keeps alike (ident_any.begun.keeps k text ts other us alike s z r);
      ends = ident_any.begun.ends;
      sways = λ e text ts other us near s z r. ident_sways near;
    };
    fill = ident_any.fill;
  }

  pub guard_produces : (r : Room) → Produces true R any (λ s text ts. guard text ts r)
  unfolding guard
  guard_produces r = ahead_produces iff_word (ahead_produces open_paren (behind_produces (expr_produces r) close_paren))

  range_end_produces : (r : Room) → Produces true R any (λ s text ts. range_end text ts r)
  unfolding range_end
  range_end_produces r = left_produces (mapped_produces _ (expr_produces r)) (mapped_completes _ dollar_sign.begun)

  span_completes : (r : Room) → Completes true R any (λ s text ts. span text ts r)
  unfolding span
  span_completes r = pair_completes _ (one_completes squares (λ e. refl)) (behind_produces (pair_produces _ (range_end_produces r) (ahead_produces colon (range_end_produces r))) close_square)

  elem_produces : (s : Standing) (r : Room) → Produces true R any (λ _ text ts. elem text ts s r)
  unfolding elem
  elem_produces s r = left_produces (mapped_produces _ (whole_expr_produces s r)) (span_completes r)

  pub elems_produces : (s : Standing) (r : Room) → Produces true R any (λ _ text ts. elems text ts s r)
  unfolding elems
  elems_produces s r = fold_produces _ (mapped_produces _ (elem_produces s r)) (ahead_completes comma.begun (elem_produces s r))

  repeats : Produces true R any (λ s text ts. one ts (Star ∷ ThinArrow ∷ Assign ∷ []))
  unfolding words operators
  repeats = one_produces (Star ∷ ThinArrow ∷ Assign ∷ []) Star (codes "*") lexed.Operator refl refl refl refl

  repeated_to : (r : Room) → Produces true R any (λ s text ts. both repeated (one ts repetition_kinds) (both pair (expr text ts r) (maybe (word ts Colon ▸ expr text ts r))) ◂ word ts CloseSquare)
  repeated_to r = behind_produces (pair_produces _ repeats (pair_produces _ (expr_produces r) (maybe_produces (ahead_completes colon.begun (expr_produces r))))) close_square

  repetition_completes : (r : Room) → Completes true R any (λ s text ts. repetition text ts r)
  unfolding repetition both map_to bind give one
  repetition_completes r =
      let base = ahead_completes {b = false} (one_completes (OpenSquare ∷ []) (λ f. absurd (cc))) (as_marked (repeated_to r)) in
      record {
        keeps = base.keeps;
        ends = base.ends;
        sways = λ f text ts other us near x z q.
            opened_sways near (OpenSquare ∷ []) (both repeated (one ts repetition_kinds) (both pair (expr text ts r) (maybe (word ts Colon ▸ expr text ts r))) ◂ word ts CloseSquare) _
            ((repeated_to r).begun.sways refl text ts other us near x z q)
            (λ p t u y m h flip d. fits t u h flip (λ n. let e = n d.2.0 d.2.2.0 in let k = d.2.2.1 in absurd (cc)));
      }

module _ {S : Type 0} {R : Likeness S} where
  step_produces : (r : Room) → Produces true R any (λ s text ts. step text ts r)
  unfolding step
  step_produces r = bind_produces _ here_produces (pair_produces _ (elems_produces StepEnd r) (maybe_produces (repetition_completes r)))

  seq_produces : (r : Room) → Produces true R any (λ s text ts. seq text ts r)
  unfolding seq
  seq_produces r = ahead_produces open_paren
      (behind_produces (fold_produces _ (mapped_produces _ (step_produces r)) (ahead_completes fat_arrow.begun (step_produces r))) close_paren)

  seqs_produces : (r : Room) → Produces true R any (λ s text ts. seqs text ts r)
  unfolding seqs
  seqs_produces r = fold_produces _ (mapped_produces _ (seq_produces r)) (ahead_completes comma.begun (seq_produces r))

  keep_produces : (r : Room) → Produces true R any (λ s text ts. keep text ts r)
  unfolding keep
  keep_produces r = ahead_produces with_word (ahead_produces open_paren (behind_produces (expr_produces r) close_paren))

  values_produces : (r : Room) → Produces true R any (λ s text ts. values text ts r)
  unfolding values
  values_produces r = left_produces
      (pair_produces _ (ahead_produces open_brace (behind_produces (elems_produces Plain r) close_brace)) (maybe_produces (keep_produces r).begun))
      (pair_completes _ ident_produces.begun (keep_produces r))

  size_produces : (r : Room) → Produces true R (seen shape) (λ s text ts. size text ts r)
  unfolding size
  size_produces r = map_produces _ (λ s z text other ts us a b q h. h)
      (optional (seen (λ o. shape (size_of o))) sized
      (ahead_completes (one_completes squares (λ e. refl)) (behind_produces (optional (seen is_some) (λ a b h. refl) (expr_produces r).begun) close_square)))

  pub one_bins_word : Produces true R any (λ s text ts. one ts bins_words)
  unfolding words operators
  one_bins_word = one_produces bins_words BinsWord (codes "bins") lexed.Keyword refl refl refl refl

  bins_word_produces : Produces true R any (λ s text ts. bins_word text ts)
  unfolding bins_word
  bins_word_produces = mapped_produces _ one_bins_word

module _ {S : Type 0} {R : Likeness S} where
  bins_head_produces : Produces true R (seen (λ (h : BinsHead). h.wildcard)) (λ s text ts. bins_head text ts)
  unfolding bins_head
  bins_head_produces = bind_produces _ here_produces
      (both_produces _ (λ s z text other ts us a b c d r p q. p) (optional (seen is_some) (λ a b h. refl) wildcard_word.begun) (pair_produces _ bins_word_produces ident_produces))

  default_right_produces : (g : S → Size) → ((s z : S) → R.rel s z → is_scalar (g s) ≡ is_scalar (g z)) → Produces true R any (λ s text ts. default_right text ts (g s))
  unfolding default_right
  default_right_produces g fit = pair_produces _ default_word (maybe_produces (allow_completes (λ s. is_scalar (g s)) fit sequence_word.begun))

  right_rule_produces : (w : S → Bool) (g : S → Size) → ((s z : S) → R.rel s z → w s ≡ w z) → ((s z : S) → R.rel s z → shape (g s) ≡ shape (g z)) → (r : Room) →
      Produces true R any (λ s text ts. right text ts (w s) (g s) r)
  unfolding right
  right_rule_produces w g wild sized r = right_produces
      (allow_completes (λ s. not (w s) && not (is_fixed (g s))) (λ s z e. both_same (g s) (g z) (wild s z e) (sized s z e))
      (default_right_produces g (λ s z e. ap (λ (x : Bool × Bool). x.0) (sized s z e))).begun)
      (left_produces (values_produces r) (allow_completes (λ s. not (is_fixed (g s))) (λ s z e. ap (λ (x : Bool × Bool). not x.1) (sized s z e)) (mapped_completes _ (seqs_produces r).begun)))

module _ {S : Type 0} {R : Likeness S} where
  pub bins_produces : (r : Room) → Produces true R any (λ s text ts. bins text ts r)
  unfolding bins
  bins_produces r = bind_produces _ (both_produces {P = seen (λ (h : BinsHead). h.wildcard)} {O = seen shape} {Q = pairs (seen (λ (h : BinsHead). h.wildcard)) (seen shape)} _
      (λ s z text other ts us a b c d r p q. (p, q)) bins_head_produces (size_produces r))
      (pair_produces _ (ahead_produces assign (right_rule_produces (λ (e : S × (BinsHead × Size)). e.1.0.wildcard) (λ e. e.1.1) (λ s z e. e.1.0) (λ s z e. e.1.1) r))
      (behind_produces (maybe_produces (guard_produces r).begun) semi))

  option_value_produces : (r : Room) → Produces true R any (λ s text ts. option_value text ts r)
  unfolding option_value
  option_value_produces r = left_produces (mapped_produces _ quoted) (mapped_completes _ (expr_produces r).begun)

  options : Produces true R any (λ s text ts. one ts (OptionWord ∷ TypeOptionWord ∷ []))
  unfolding words operators
  options = one_produces (OptionWord ∷ TypeOptionWord ∷ []) OptionWord (codes "option") lexed.Keyword refl refl refl refl

  pub optset_produces : (r : Room) → Produces true R any (λ s text ts. optset text ts r)
  unfolding optset
  optset_produces r = pair_produces _ options
      (ahead_produces dot (pair_produces _ ident_produces (ahead_produces assign (behind_produces (option_value_produces r) semi))))
