-- Where a reader of coverpoints and crosses stands, from one part of a rule to the next.
use Rattle.std.proofs.Common.{◌≡◌, ℕ, List, [], ◌∷◌, Option, Some, true, false, refl, sym, ◌∙◌, subst}
use Rattle.cov_tree.specs.declared.expr.Expr.{Expr}
use Rattle.cov_lexer.specs.declared.kind.Kind.{Kind}
use Rattle.cov_lexer.specs.declared.kind.Kind.TheVariants.{CoverpointWord, CrossWord, Comma}
use Rattle.cov_grammar.specs.declared.marked.Marked.{Marked}
use Rattle.cov_grammar.specs.declared.place.Place.{Place}
use Rattle.cov_grammar.specs.declared.place.Room.{Room}
use Rattle.cov_grammar.specs.declared.place.Stop.{Stop}
use Rattle.cov_lexer.specs.Kinds.{has}
use Rattle.cov_grammar.specs.Rule.{Rule, In, one, word, both, many, ahead, maybe}
use Rattle.cov_grammar.specs.Parses.{Reads, Fails}
use Rattle.cov_grammar.specs.Expressions.{pair, snoc, expr}
use Rattle.cov_grammar.specs.Bins.{ident, guard, bins}
use Rattle.cov_grammar.specs.Groups.{point_of, cross_of, cross_bins, body, point, crossed, cross}
use Rattle.cov_grammar.proofs.Lawful.{Lawful, lawful_word, lawful_maybe, lawful_both}
use Rattle.cov_grammar.proofs.Compose.{both_reads, both_fails, both_then_fails}
use Rattle.cov_grammar.proofs.Steps.{Leads, leads_self, step, ends, fold_starts, fold_fails}
use Rattle.cov_grammar.proofs.ExprLaws.{expr_lawful}
use Rattle.cov_grammar.proofs.BinsLaws.{ident_lawful, guard_lawful}
use Rattle.cov_grammar.proofs.GroupLaws.{point_body_lawful, cross_body_lawful, crossed_lawful}

-- the token that was read is of these kinds, or of none of them
pub is_of : (ts : List Marked) (ks ls : List Kind) {d : Room} {p : Place} {t : Marked} {q : Place} → Reads (λ _. one ts ks) d p t q → has t.kind ls ≡ true → In ts p.at ls
unfolding one
is_of ts ks ls {t = t} r h = record { token = t; stands = r.derives.0; of = h }

pub is_not_of : (ts : List Marked) (ks ls : List Kind) {d : Room} {p : Place} {t : Marked} {q : Place} → Reads (λ _. one ts ks) d p t q → has t.kind ls ≡ false → In ts p.at ls → ⊥
unfolding one
is_not_of ts ks ls {t = t} r h x =
    let same : Some x.token ≡ Some t = sym x.stands ∙ r.derives.0 in
    let eq : x.token ≡ t = cc in
    let of : has t.kind ls ≡ true = subst (λ (u : Marked). has u.kind ls ≡ true) eq x.of in
    cc

module _ (text : List ℕ) (ts : List Marked) where
  abbrev w : (k : Kind) → Lawful ts (λ _. one ts (k ∷ []))
  w k = lawful_word ts k

  abbrev pub maybe_guard : Room → Rule (Option Expr)
  maybe_guard r = maybe (guard text ts r)

  abbrev maybe_guard_lawful : Lawful ts maybe_guard
  maybe_guard_lawful = lawful_maybe (guard_lawful text ts) refl

  -- "coverpoint" expr [ guard ], and behind it
  abbrev tested_lawful : Lawful ts (λ r. both pair (expr text ts r) (maybe_guard r))
  tested_lawful = lawful_both pair (expr_lawful text ts) maybe_guard_lawful refl

  abbrev pub point_head : Room → Rule (Expr × Option Expr)
  point_head r = ahead (word ts CoverpointWord) (both pair (expr text ts r) (maybe_guard r))

  abbrev point_head_lawful : Lawful ts point_head
  point_head_lawful = lawful_both _ (w CoverpointWord) tested_lawful refl

  pub point_unnamed : {d : Room} {p : Place} {e : Stop} → Fails (λ _. word ts CoverpointWord) d p e → Fails point_head d p e
  point_unnamed {d = d} {p = p} f = ends _ (w CoverpointWord) tested_lawful refl (leads_self point_head d p) f

  pub point_tests : {d : Room} {p : Place} {t : Marked} {q : Place} → Reads (λ _. word ts CoverpointWord) d p t q → Leads (λ r. both pair (expr text ts r) (maybe_guard r)) d q point_head d p (λ x. x)
  point_tests {d = d} {p = p} r = step _ (w CoverpointWord) tested_lawful refl (leads_self point_head d p) r

  pub point_untested : {d : Room} {p : Place} {t : Marked} {q : Place} {e : Stop} → Reads (λ _. word ts CoverpointWord) d p t q → Fails (expr text ts) d q e → Fails point_head d p e
  point_untested r f = ends pair (expr_lawful text ts) maybe_guard_lawful refl (point_tests r) f

  pub point_guards : {d : Room} {p : Place} {t : Marked} {q : Place} {x : Expr} {m : Place} → Reads (λ _. word ts CoverpointWord) d p t q → Reads (expr text ts) d q x m → Leads maybe_guard d m point_head d p (λ y. (x, y))
  point_guards r s = step pair (expr_lawful text ts) maybe_guard_lawful refl (point_tests r) s

  pub point_ends : {d : Room} {p : Place} {e : Stop} (start : ℕ) (label : Option (List ℕ)) → Fails point_head d p e → Fails (point text ts start label) d p e
  unfolding point
  point_ends {d = d} {p = p} start label f = ends (point_of start label) point_head_lawful (point_body_lawful text ts) refl (leads_self (point text ts start label) d p) f

  pub point_steps : {d : Room} {p : Place} {x : Expr × Option Expr} {q : Place} (start : ℕ) (label : Option (List ℕ)) → Reads point_head d p x q →
      Leads (λ r. body text ts (bins text ts r) r) d q (point text ts start label) d p (point_of start label x)
  unfolding point
  point_steps {d = d} {p = p} start label r = step (point_of start label) point_head_lawful (point_body_lawful text ts) refl (leads_self (point text ts start label) d p) r

  -- "cross" ident "," ident { "," ident } [ guard ], and behind it
  abbrev names_lawful : Lawful ts (λ r. both pair (crossed text ts) (maybe_guard r))
  names_lawful = lawful_both pair (crossed_lawful text ts) maybe_guard_lawful refl

  abbrev pub cross_head : Room → Rule (List (List ℕ) × Option Expr)
  cross_head r = ahead (word ts CrossWord) (both pair (crossed text ts) (maybe_guard r))

  abbrev cross_head_lawful : Lawful ts cross_head
  cross_head_lawful = lawful_both _ (w CrossWord) names_lawful refl

  pub cross_unnamed : {d : Room} {p : Place} {e : Stop} → Fails (λ _. word ts CrossWord) d p e → Fails cross_head d p e
  cross_unnamed {d = d} {p = p} f = ends _ (w CrossWord) names_lawful refl (leads_self cross_head d p) f

  cross_names : {d : Room} {p : Place} {t : Marked} {q : Place} → Reads (λ _. word ts CrossWord) d p t q → Leads (λ r. both pair (crossed text ts) (maybe_guard r)) d q cross_head d p (λ x. x)
  cross_names {d = d} {p = p} r = step _ (w CrossWord) names_lawful refl (leads_self cross_head d p) r

  pub cross_nameless : {d : Room} {p : Place} {t : Marked} {q : Place} {e : Stop} → Reads (λ _. word ts CrossWord) d p t q → Fails (λ _. crossed text ts) d q e → Fails cross_head d p e
  cross_nameless r f = ends pair (crossed_lawful text ts) maybe_guard_lawful refl (cross_names r) f

  pub cross_guards : {d : Room} {p : Place} {t : Marked} {q : Place} {x : List (List ℕ)} {m : Place} → Reads (λ _. word ts CrossWord) d p t q → Reads (λ _. crossed text ts) d q x m → Leads maybe_guard d m cross_head d p (λ y. (x, y))
  cross_guards r s = step pair (crossed_lawful text ts) maybe_guard_lawful refl (cross_names r) s

  pub cross_ends : {d : Room} {p : Place} {e : Stop} (start : ℕ) (label : Option (List ℕ)) → Fails cross_head d p e → Fails (cross text ts start label) d p e
  unfolding cross
  cross_ends {d = d} {p = p} start label f = ends (cross_of start label) cross_head_lawful (cross_body_lawful text ts) refl (leads_self (cross text ts start label) d p) f

  pub cross_steps : {d : Room} {p : Place} {x : List (List ℕ) × Option Expr} {q : Place} (start : ℕ) (label : Option (List ℕ)) → Reads cross_head d p x q →
      Leads (λ r. body text ts (cross_bins text ts r) r) d q (cross text ts start label) d p (cross_of start label x)
  unfolding cross
  cross_steps {d = d} {p = p} start label r = step (cross_of start label) cross_head_lawful (cross_body_lawful text ts) refl (leads_self (cross text ts start label) d p) r

  -- ident "," ident { "," ident }
  abbrev more_lawful : Lawful ts (λ _. ahead (word ts Comma) (ident text ts))
  more_lawful = lawful_both _ (w Comma) (ident_lawful text ts) refl

  abbrev two_of : List ℕ → List ℕ → List (List ℕ)
  two_of a b = a ∷ b ∷ []

  abbrev two : Rule (List (List ℕ))
  two = both two_of (ident text ts) (ahead (word ts Comma) (ident text ts))

  abbrev two_lawful : Lawful ts (λ _. two)
  two_lawful = lawful_both two_of (ident_lawful text ts) more_lawful refl

  abbrev pub Names : Room → Place → List (List ℕ) → Place → Type 0
  Names d o names p = Leads (λ _. many snoc (ahead (word ts Comma) (ident text ts)) names) d p (λ _. crossed text ts) d o (λ x. x)

  pub no_first : {d : Room} {p : Place} {e : Stop} → Fails (λ _. ident text ts) d p e → Fails (λ _. crossed text ts) d p e
  unfolding crossed
  no_first f = fold_fails snoc two_lawful more_lawful refl refl refl (both_fails two_of (ident_lawful text ts) more_lawful refl f)

  pub no_comma_behind : {d : Room} {p : Place} {x : List ℕ} {q : Place} {e : Stop} → Reads (λ _. ident text ts) d p x q → Fails (λ _. word ts Comma) d q e → Fails (λ _. crossed text ts) d p e
  unfolding crossed
  no_comma_behind r f = fold_fails snoc two_lawful more_lawful refl refl refl (both_then_fails two_of (ident_lawful text ts) more_lawful refl r
      (both_fails _ (w Comma) (ident_lawful text ts) refl f))

  pub no_second : {d : Room} {p : Place} {x : List ℕ} {q : Place} {t : Marked} {m : Place} {e : Stop} → Reads (λ _. ident text ts) d p x q → Reads (λ _. word ts Comma) d q t m → Fails (λ _. ident text ts) d m e → Fails (λ _. crossed text ts) d p e
  unfolding crossed
  no_second r s f = fold_fails snoc two_lawful more_lawful refl refl refl (both_then_fails two_of (ident_lawful text ts) more_lawful refl r
      (both_then_fails _ (w Comma) (ident_lawful text ts) refl s f))

  pub two_names : {d : Room} {p : Place} {x : List ℕ} {q : Place} {t : Marked} {m : Place} {y : List ℕ} {k : Place} → Reads (λ _. ident text ts) d p x q → Reads (λ _. word ts Comma) d q t m → Reads (λ _. ident text ts) d m y k → Names d p (x ∷ y ∷ []) k
  unfolding crossed
  two_names r s u = fold_starts snoc two_lawful more_lawful refl refl refl (both_reads two_of (ident_lawful text ts) more_lawful refl r (both_reads _ (w Comma) (ident_lawful text ts) refl s u))
