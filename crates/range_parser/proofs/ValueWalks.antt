-- Where a reader of ranges and values stands, from one part of a rule to the next.
use Rattle.std.proofs.Common.{ℕ, List, [], ◌∷◌, Some, None, refl}
use Rattle.cov_tree.specs.declared.expr.Expr.{Expr}
use Rattle.cov_tree.specs.declared.bins.End.TheVariants.{Value, Dollar}
use Rattle.cov_tree.specs.declared.bins.Elem.TheVariants.{One, Span}
use Rattle.cov_tree.specs.declared.bins.Right.TheVariants.{Ranges, Whole}
use Rattle.cov_lexer.specs.declared.kind.Kind.{Kind}
use Rattle.cov_lexer.specs.declared.kind.Kind.TheVariants.{WithWord, OpenParen, CloseParen, CloseSquare, OpenBrace, CloseBrace, Colon, DollarSign}
use Rattle.cov_grammar.specs.declared.marked.Marked.{Marked}
use Rattle.cov_grammar.specs.declared.place.Place.{Place}
use Rattle.cov_grammar.specs.declared.place.Room.{Room}
use Rattle.cov_grammar.specs.declared.place.Standing.{Standing}
use Rattle.cov_grammar.specs.declared.place.Standing.TheVariants.{Plain}
use Rattle.cov_grammar.specs.declared.place.Stop.{Stop}
use Rattle.cov_grammar.specs.Rule.{In, one, word, both, map_to, ahead, behind, maybe}
use Rattle.cov_grammar.specs.Parses.{Reads, Fails}
use Rattle.cov_grammar.specs.Expressions.{pair, expr, whole_expr}
use Rattle.cov_grammar.specs.Bins.{squares, ident, range_end, span, elem, elems, keep, values}
use Rattle.cov_grammar.proofs.Sets.{In_apart}
use Rattle.cov_grammar.proofs.Lawful.{Lawful, lawful_one, lawful_word, lawful_map, lawful_maybe, lawful_both}
use Rattle.cov_grammar.proofs.Compose.{map_reads, map_fails, both_reads, both_fails, both_then_fails, left_reads, left_fails, right_reads}
use Rattle.cov_grammar.proofs.Steps.{Leads, leads_self, right}
use Rattle.cov_grammar.proofs.Steps as walk
use Rattle.cov_grammar.proofs.ExprLaws.{expr_firsts, whole_expr_lawful, expr_lawful}
use Rattle.cov_grammar.proofs.BinsLaws.{ident_lawful, range_end_lawful, span_lawful, elems_lawful, keep_lawful}
use Rattle.token_reader.proofs.Chains.{no_part, part}

module _ (text : List ℕ) (ts : List Marked) where
  abbrev pub w : (k : Kind) → Lawful ts (λ _. one ts (k ∷ []))
  w k = lawful_word ts k

  -- an expression in parentheses
  abbrev pub close_lawful : Lawful ts (λ r. behind (expr text ts r) (word ts CloseParen))
  close_lawful = lawful_both _ (expr_lawful text ts) (w CloseParen) refl

  abbrev pub parens_lawful : Lawful ts (λ r. ahead (word ts OpenParen) (behind (expr text ts r) (word ts CloseParen)))
  parens_lawful = lawful_both _ (w OpenParen) close_lawful refl

  -- an end of a range
  value_lawful : Lawful ts (λ r. map_to Value (expr text ts r))
  value_lawful = lawful_map (expr_lawful text ts) Value

  dollar_lawful : Lawful ts (λ _. map_to (λ (t : Marked). Dollar t.at) (word ts DollarSign))
  dollar_lawful = lawful_map (w DollarSign) (λ (t : Marked). Dollar t.at)

  pub value_reads : {d : Room} {p : Place} {t : Expr} {q : Place} → (In ts p.at (DollarSign ∷ []) → ⊥) → Reads (expr text ts) d p t q → Reads (range_end text ts) d p (Value t) q
  unfolding range_end value_lawful dollar_lawful
  value_reads h r = left_reads value_lawful dollar_lawful refl refl h (map_reads Value (expr_lawful text ts) r)

  pub value_fails : {d : Room} {p : Place} {s : Stop} → (In ts p.at (DollarSign ∷ []) → ⊥) → Fails (expr text ts) d p s → Fails (range_end text ts) d p s
  unfolding range_end value_lawful dollar_lawful
  value_fails h f = left_fails value_lawful dollar_lawful refl refl h (map_fails Value (expr_lawful text ts) f)

  pub dollar_reads : {d : Room} {p : Place} {t : Marked} {q : Place} → In ts p.at (DollarSign ∷ []) → Reads (λ _. word ts DollarSign) d p t q → Reads (range_end text ts) d p (Dollar t.at) q
  unfolding range_end value_lawful dollar_lawful
  dollar_reads {p = p} h r = right_reads value_lawful dollar_lawful refl refl (λ k. In_apart ts p.at expr_firsts (DollarSign ∷ []) refl k h) (map_reads (λ (t : Marked). Dollar t.at) (w DollarSign) r)

  -- an element
  abbrev pub second_lawful : Lawful ts (λ r. ahead (word ts Colon) (range_end text ts r))
  second_lawful = lawful_both _ (w Colon) (range_end_lawful text ts) refl

  abbrev pub two_ends_lawful : Lawful ts (λ r. both pair (range_end text ts r) (ahead (word ts Colon) (range_end text ts r)))
  two_ends_lawful = lawful_both pair (range_end_lawful text ts) second_lawful refl

  abbrev pub span_rest_lawful : Lawful ts (λ r. behind (both pair (range_end text ts r) (ahead (word ts Colon) (range_end text ts r))) (word ts CloseSquare))
  span_rest_lawful = lawful_both _ two_ends_lawful (w CloseSquare) refl

  module _ (s : Standing) where
    single_lawful : Lawful ts (λ r. map_to One (whole_expr text ts s r))
    single_lawful = lawful_map (whole_expr_lawful text ts s) One

    pub single_reads : {d : Room} {p : Place} {t : Expr} {q : Place} → (In ts p.at squares → ⊥) → Reads (whole_expr text ts s) d p t q → Reads (elem text ts s) d p (One t) q
    unfolding elem single_lawful
    single_reads h r = left_reads single_lawful (span_lawful text ts) refl refl h (map_reads One (whole_expr_lawful text ts s) r)

    pub single_fails : {d : Room} {p : Place} {e : Stop} → (In ts p.at squares → ⊥) → Fails (whole_expr text ts s) d p e → Fails (elem text ts s) d p e
    unfolding elem single_lawful
    single_fails h f = left_fails single_lawful (span_lawful text ts) refl refl h (map_fails One (whole_expr_lawful text ts s) f)

    spans : {d : Room} {p : Place} → In ts p.at squares → Leads (span text ts) d p (elem text ts s) d p (λ x. x)
    unfolding elem single_lawful
    spans {d = d} {p = p} h = right single_lawful (span_lawful text ts) refl refl (leads_self (elem text ts s) d p) refl (λ k. In_apart ts p.at expr_firsts squares refl k h)

    pub span_leads : {d : Room} {p : Place} {k : Marked} {m : Place} → Reads (λ _. one ts squares) d p k m → In ts p.at squares →
        Leads (λ r. behind (both pair (range_end text ts r) (ahead (word ts Colon) (range_end text ts r))) (word ts CloseSquare)) d m (elem text ts s) d p (λ x. Span x.0 x.1 k.at)
    unfolding span
    span_leads r h = walk.step _ (lawful_one ts squares) span_rest_lawful refl (spans h) r

  -- "with" "(" expr ")"
  pub keep_reads : {d : Room} {p : Place} {k : Marked} {m : Place} {t : Expr} {q : Place} → Reads (λ _. word ts WithWord) d p k m → Reads (λ r. ahead (word ts OpenParen) (behind (expr text ts r) (word ts CloseParen))) d m t q → Reads (keep text ts) d p t q
  unfolding keep
  keep_reads r t = both_reads _ (w WithWord) parens_lawful refl r t

  pub keep_unread : {d : Room} {p : Place} {s : Stop} → Fails (λ _. word ts WithWord) d p s → Fails (keep text ts) d p s
  unfolding keep
  keep_unread f = both_fails _ (w WithWord) parens_lawful refl f

  pub keep_breaks : {d : Room} {p : Place} {k : Marked} {m : Place} {s : Stop} → Reads (λ _. word ts WithWord) d p k m → Fails (λ r. ahead (word ts OpenParen) (behind (expr text ts r) (word ts CloseParen))) d m s → Fails (keep text ts) d p s
  unfolding keep
  keep_breaks r f = both_then_fails _ (w WithWord) parens_lawful refl r f

  pub no_keep : {d : Room} {p : Place} → (In ts p.at (WithWord ∷ []) → ⊥) → Reads (λ r. maybe (keep text ts r)) d p None p
  unfolding keep
  no_keep h = no_part (WithWord ∷ []) parens_lawful h

  pub keep_part : {d : Room} {p : Place} {k : Marked} {m : Place} → Reads (λ _. word ts WithWord) d p k m → Leads (λ r. ahead (word ts OpenParen) (behind (expr text ts r) (word ts CloseParen))) d m (λ r. maybe (keep text ts r)) d p (λ x. Some x)
  unfolding keep
  keep_part r = part (WithWord ∷ []) parens_lawful r

  -- values
  abbrev pub elems_close_lawful : Lawful ts (λ r. behind (elems text ts Plain r) (word ts CloseBrace))
  elems_close_lawful = lawful_both _ (elems_lawful text ts Plain) (w CloseBrace) refl

  abbrev pub braces_lawful : Lawful ts (λ r. ahead (word ts OpenBrace) (behind (elems text ts Plain r) (word ts CloseBrace)))
  braces_lawful = lawful_both _ (w OpenBrace) elems_close_lawful refl

  abbrev pub ranges_lawful : Lawful ts (λ r. both Ranges (ahead (word ts OpenBrace) (behind (elems text ts Plain r) (word ts CloseBrace))) (maybe (keep text ts r)))
  ranges_lawful = lawful_both Ranges braces_lawful (lawful_maybe (keep_lawful text ts) refl) refl

  abbrev pub named_lawful : Lawful ts (λ r. both Whole (ident text ts) (keep text ts r))
  named_lawful = lawful_both Whole (ident_lawful text ts) (keep_lawful text ts) refl

  pub named_leads : {d : Room} {p : Place} → (In ts p.at (OpenBrace ∷ []) → ⊥) → Leads (λ r. both Whole (ident text ts) (keep text ts r)) d p (values text ts) d p (λ x. x)
  unfolding values
  named_leads {d = d} {p = p} h = right ranges_lawful named_lawful refl refl (leads_self (values text ts) d p) refl h

  pub ranges_leads : {d : Room} {p : Place} → In ts p.at (OpenBrace ∷ []) → Leads (λ r. both Ranges (ahead (word ts OpenBrace) (behind (elems text ts Plain r) (word ts CloseBrace))) (maybe (keep text ts r))) d p (values text ts) d p (λ x. x)
  unfolding values
  ranges_leads {d = d} {p = p} h = walk.left ranges_lawful named_lawful refl refl (leads_self (values text ts) d p) h
