-- Where a reader of types stands, from one part of a rule to the next.
use Rattle.std.proofs.Common.{ℕ, List, [], ◌∷◌, ◌++◌, Option, Some, None, refl, arith}
use Rattle.cov_tree.specs.declared.expr.Expr.{Expr}
use Rattle.cov_lexer.specs.declared.kind.Kind.{Kind}
use Rattle.cov_lexer.specs.declared.kind.Kind.TheVariants.{Ident, CloseSquare, Colon}
use Rattle.cov_grammar.specs.declared.marked.Marked.{Marked}
use Rattle.cov_grammar.specs.declared.place.Place.{Place}
use Rattle.cov_grammar.specs.declared.place.Room.{Room}
use Rattle.cov_grammar.specs.declared.place.Stop.{Stop}
use Rattle.cov_grammar.specs.declared.place.Stop.TheVariants.{Syntax}
use Rattle.cov_grammar.specs.Rule.{Rule, In, one, word, both, ahead, behind, maybe}
use Rattle.cov_grammar.specs.Parses.{Reads, Fails}
use Rattle.cov_grammar.specs.Expressions.{pair, expr}
use Rattle.cov_grammar.specs.Bins.{squares}
use Rattle.cov_grammar.specs.Designs.{vector_words, fixed_words, vector_of, fixed_of, named_type, sign, vector_span, vector, fixed, built_in, type_text}
use Rattle.cov_grammar.proofs.Sets.{In_apart}
use Rattle.cov_grammar.proofs.Lawful.{Lawful, lawful_word, lawful_one, lawful_map, lawful_maybe, lawful_both}
use Rattle.cov_grammar.proofs.Compose.{map_reads, both_reads, both_fails, both_then_fails, left_reads, left_fails, right_reads, maybe_some}
use Rattle.cov_grammar.proofs.Steps.{Leads, leads_self, no_start, step, ends, without, maybe_step, one_next}
use Rattle.cov_grammar.proofs.ExprLaws.{expr_lawful}
use Rattle.cov_grammar.proofs.DesignLaws.{signs, sign_lawful, vector_span_lawful, vector_lawful, fixed_lawful, built_in_lawful}

module _ (text : List ℕ) (ts : List Marked) where
  abbrev w : (k : Kind) → Lawful ts (λ _. one ts (k ∷ []))
  w k = lawful_word ts k

  -- [ sign ]
  pub signed : {d : Room} {p : Place} {t : Marked} {q : Place} → Reads (λ _. one ts signs) d p t q → Reads (λ _. sign text ts) d p (Some t) q
  unfolding sign
  signed r = maybe_some (lawful_one ts signs) refl r

  pub unsigned : {d : Room} {p : Place} → (In ts p.at signs → ⊥) → Reads (λ _. sign text ts) d p None p
  unfolding sign
  unsigned {d = d} {p = p} n = without (lawful_one ts signs) refl (leads_self (λ _. sign text ts) d p) n

  -- [ "[" expr ":" expr "]" ]
  abbrev pub maybe_span : Room → Rule (Option (Expr × Expr))
  maybe_span r = maybe (vector_span text ts r)

  abbrev maybe_span_lawful : Lawful ts maybe_span
  maybe_span_lawful = lawful_maybe (vector_span_lawful text ts) refl

  pub no_span : {d : Room} {p : Place} → (In ts p.at squares → ⊥) → Reads maybe_span d p None p
  no_span {d = d} {p = p} n = without (vector_span_lawful text ts) refl (leads_self maybe_span d p) n

  abbrev low_lawful : Lawful ts (λ r. ahead (word ts Colon) (expr text ts r))
  low_lawful = lawful_both _ (w Colon) (expr_lawful text ts) refl

  abbrev pub two_ends : Room → Rule (Expr × Expr)
  two_ends r = both pair (expr text ts r) (ahead (word ts Colon) (expr text ts r))

  abbrev two_ends_lawful : Lawful ts two_ends
  two_ends_lawful = lawful_both pair (expr_lawful text ts) low_lawful refl

  abbrev span_end_lawful : Lawful ts (λ r. behind (two_ends r) (word ts CloseSquare))
  span_end_lawful = lawful_both _ two_ends_lawful (w CloseSquare) refl

  pub span_opens : {d : Room} {p : Place} {t : Marked} {q : Place} → Reads (λ _. one ts squares) d p t q → Leads (λ r. behind (two_ends r) (word ts CloseSquare)) d q maybe_span d p (λ x. Some x)
  unfolding vector_span
  span_opens {d = d} {p = p} r = maybe_step (vector_span_lawful text ts) refl span_end_lawful (leads_self maybe_span d p)
      (step _ (lawful_one ts squares) span_end_lawful refl (leads_self (vector_span text ts) d p) r)
      (let n = (one_next ts squares r).0 in omega arith)

  pub span_no_high : {d : Room} {p : Place} {t : Marked} {q : Place} {e : Stop} → Reads (λ _. one ts squares) d p t q → Fails (expr text ts) d q e → Fails maybe_span d p e
  span_no_high r f = ends _ two_ends_lawful (w CloseSquare) refl (span_opens r) (both_fails pair (expr_lawful text ts) low_lawful refl f)

  pub span_no_colon : {d : Room} {p : Place} {t : Marked} {q : Place} {x : Expr} {m : Place} {e : Stop} → Reads (λ _. one ts squares) d p t q → Reads (expr text ts) d q x m → Fails (λ _. word ts Colon) d m e → Fails maybe_span d p e
  span_no_colon r s f = ends _ two_ends_lawful (w CloseSquare) refl (span_opens r) (both_then_fails pair (expr_lawful text ts) low_lawful refl s (both_fails _ (w Colon) (expr_lawful text ts) refl f))

  pub span_no_low : {d : Room} {p : Place} {t : Marked} {q : Place} {x : Expr} {m : Place} {u : Marked} {k : Place} {e : Stop} → Reads (λ _. one ts squares) d p t q → Reads (expr text ts) d q x m → Reads (λ _. word ts Colon) d m u k → Fails (expr text ts) d k e → Fails maybe_span d p e
  span_no_low r s c f = ends _ two_ends_lawful (w CloseSquare) refl (span_opens r) (both_then_fails pair (expr_lawful text ts) low_lawful refl s (both_then_fails _ (w Colon) (expr_lawful text ts) refl c f))

  pub span_closes : {d : Room} {p : Place} {t : Marked} {q : Place} {x : Expr} {m : Place} {u : Marked} {k : Place} {y : Expr} {n : Place} → Reads (λ _. one ts squares) d p t q → Reads (expr text ts) d q x m → Reads (λ _. word ts Colon) d m u k → Reads (expr text ts) d k y n →
      Leads (λ _. word ts CloseSquare) d n maybe_span d p (λ _. Some (x, y))
  span_closes r s c y = step _ two_ends_lawful (w CloseSquare) refl (span_opens r) (both_reads pair (expr_lawful text ts) low_lawful refl s (both_reads _ (w Colon) (expr_lawful text ts) refl c y))

  -- vector
  abbrev vector_rest_lawful : Lawful ts (λ r. both pair (sign text ts) (maybe_span r))
  vector_rest_lawful = lawful_both pair (sign_lawful text ts) maybe_span_lawful refl

  pub no_vector : {d : Room} {p : Place} → (In ts p.at vector_words → ⊥) → Fails (vector text ts) d p (Syntax p.at)
  no_vector n = no_start (vector_lawful text ts) refl n

  pub vector_spans : {d : Room} {p : Place} {t : Marked} {q : Place} {s : Option Marked} {m : Place} → Reads (λ _. one ts vector_words) d p t q → Reads (λ _. sign text ts) d q s m → Leads maybe_span d m (vector text ts) d p (λ x. vector_of t (s, x))
  unfolding vector
  vector_spans {d = d} {p = p} r s = step pair (sign_lawful text ts) maybe_span_lawful refl
      (step vector_of (lawful_one ts vector_words) vector_rest_lawful refl (leads_self (vector text ts) d p) r) s

  -- vector | fixed
  pub not_fixed : {d : Room} {p : Place} → (In ts p.at fixed_words → ⊥) → Leads (vector text ts) d p (built_in text ts) d p (λ t. t)
  unfolding built_in
  not_fixed n = record { reads = λ r. left_reads (vector_lawful text ts) (fixed_lawful text ts) refl refl n r; fails = λ f. left_fails (vector_lawful text ts) (fixed_lawful text ts) refl refl n f }

  pub fixed_read : {d : Room} {p : Place} {t : Marked} {q : Place} {s : Option Marked} {m : Place} → In ts p.at fixed_words → Reads (λ _. one ts fixed_words) d p t q → Reads (λ _. sign text ts) d q s m → Reads (built_in text ts) d p (fixed_of t s) m
  unfolding built_in fixed
  fixed_read h r s = right_reads (vector_lawful text ts) (fixed_lawful text ts) refl refl (λ v. In_apart ts _ fixed_words vector_words refl h v) (both_reads fixed_of (lawful_one ts fixed_words) (sign_lawful text ts) refl r s)

  -- type
  pub not_named : {d : Room} {p : Place} → (In ts p.at (Ident ∷ []) → ⊥) → Leads (built_in text ts) d p (type_text text ts) d p (λ t. t)
  unfolding type_text
  not_named n = record {
    reads = λ r. left_reads (built_in_lawful text ts) (lawful_map (w Ident) (named_type text)) refl refl n r;
    fails = λ f. left_fails (built_in_lawful text ts) (lawful_map (w Ident) (named_type text)) refl refl n f;
  }

  pub named_read : {d : Room} {p : Place} {t : Marked} {q : Place} → In ts p.at (Ident ∷ []) → Reads (λ _. word ts Ident) d p t q → Reads (type_text text ts) d p (named_type text t) q
  unfolding type_text
  named_read h r = right_reads (built_in_lawful text ts) (lawful_map (w Ident) (named_type text)) refl refl (λ v. In_apart ts _ (Ident ∷ []) (vector_words ++ fixed_words) refl h v) (map_reads (named_type text) (w Ident) r)
