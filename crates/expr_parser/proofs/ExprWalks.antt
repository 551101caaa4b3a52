-- Where a reader of expressions stands, from one part of a rule to the next.
use Rattle.std.proofs.Common.{◌≡◌, ℕ, zero, suc, ◌+◌, ◌-◌, ◌<◌, ◌≤◌, List, [], ◌∷◌, ◌++◌, Option, Some, None, IfSome, IfNone, true, false, inl, inr, length, refl, sym, ◌∙◌, subst, arith, append-nil}
use Rattle.std.proofs.lemmas.Bool.{cases_lt}
use Rattle.cov_tree.specs.declared.expr.Expr.{Expr}
use Rattle.cov_tree.specs.Exprs.{number, concatenation, choice}
use Rattle.cov_lexer.specs.Literals.{literal_of}
use Rattle.cov_lexer.specs.declared.kind.Kind.{Kind}
use Rattle.cov_lexer.specs.declared.kind.Kind.TheVariants.{Ident, Numeral, OpenParen, CloseParen, CloseSquare, OpenBrace, CloseBrace, Comma, Colon, Question}
use Rattle.cov_grammar.specs.declared.marked.Marked.{Marked}
use Rattle.cov_grammar.specs.declared.place.Place.{Place}
use Rattle.cov_grammar.specs.declared.place.Room.{Room}
use Rattle.cov_grammar.specs.declared.place.Standing.{Standing}
use Rattle.cov_grammar.specs.declared.place.Standing.TheVariants.{Plain}
use Rattle.cov_grammar.specs.declared.place.Stop.{Stop}
use Rattle.cov_grammar.specs.declared.place.Stop.TheVariants.{Syntax, TooDeep}
use Rattle.cov_grammar.specs.Rule.{In, one, word, counted, offset, both, either, many, ahead, behind, maybe}
use Rattle.cov_grammar.specs.Parses.{Reads, Fails}
use Rattle.cov_grammar.specs.Operators.{unary_kinds, level_kinds}
use Rattle.cov_grammar.specs.Expressions.{index_kinds, number_rule, index_in, named_in, paren_in, list_in, concat_in, primary_in, signed_in, unary_in, binary_in, branches_in, expr_in, inner_at, part_expr, whole_expr, pair, snoc, spelled, literal_or, selected, before_one, joined, test_or_choice}
use Rattle.cov_grammar.proofs.Sets.{disjoint, In_apart}
use Rattle.cov_grammar.proofs.Sound.{Under, Sound}
use Rattle.cov_grammar.proofs.Lawful.{Lawful, Lawfuls, lawful_one, lawful_word, lawful_here, lawful_counted, lawful_map, lawful_maybe, lawful_both, lawful_either, lawful_fold}
use Rattle.cov_grammar.proofs.Compose.{counting_anew, map_reads, map_fails, maybe_fails, afresh_reads, afresh_fails}
use Rattle.cov_grammar.proofs.Steps.{Leads, leads_self, then, here_reads, both_opens, no_start, step, ends, bind_step, without, maybe_step, left, right, deep_leads, deep_sinks, fold_starts, fold_fails, item_read, item_fails, item_sinks, no_item, one_next, reads_order, item_falls}
use Rattle.cov_grammar.proofs.ExprLaws.{on_binary, apart, no_question, inner, number_lawful, index_lawful, named_lawful, paren_lawful, concat_lawful, primary_lawful, signed_lawful, unary_lawful, binary_lawful, branches_lawful, part_expr_lawful}

module _ (text : List ℕ) (ts : List Marked) where
  -- an expression of its own count
  pub whole_reads : (s : Standing) {d : Room} {p : Place} {t : Expr} {q : Place} → Reads (part_expr text ts s) d (counting_anew p) t q → Reads (whole_expr text ts s) d p t (record { at = q.at; used = p.used })
  unfolding whole_expr
  whole_reads s r = afresh_reads (part_expr text ts s) _ r refl

  pub whole_fails : (s : Standing) {d : Room} {p : Place} {e : Stop} → Fails (part_expr text ts s) d (counting_anew p) e → Fails (whole_expr text ts s) d p e
  unfolding whole_expr
  whole_fails s f = afresh_fails (part_expr text ts s) f

  -- ":" expr, or nothing
  abbrev pub colon_lawful : (s : Standing) → Lawful ts (λ r. ahead (word ts Colon) (part_expr text ts s r))
  colon_lawful s = lawful_both _ (lawful_word ts Colon) (part_expr_lawful text ts s) refl

  pub no_colon : {d : Room} {p : Place} → (In ts p.at (Colon ∷ []) → ⊥) → Reads (λ r. maybe (ahead (word ts Colon) (part_expr text ts Plain r))) d p None p
  no_colon h = without (colon_lawful Plain) refl (leads_self (λ r. maybe (ahead (word ts Colon) (part_expr text ts Plain r))) _ _) h

  pub colon_leads : {d : Room} {p : Place} {t : Marked} {q : Place} → Reads (λ _. word ts Colon) d p t q →
      Leads (part_expr text ts Plain) d q (λ r. maybe (ahead (word ts Colon) (part_expr text ts Plain r))) d p (λ x. Some x)
  colon_leads {d = d} {p = p} r = maybe_step (colon_lawful Plain) refl (part_expr_lawful text ts Plain) (leads_self (λ r. maybe (ahead (word ts Colon) (part_expr text ts Plain r))) d p)
      (step _ (lawful_word ts Colon) (part_expr_lawful text ts Plain) refl (leads_self (λ r. ahead (word ts Colon) (part_expr text ts Plain r)) d p) r)
      (let n = (one_next ts (Colon ∷ []) r).0 in omega arith)

  -- expr { "," expr }
  abbrev pub comma_lawful : Lawful ts (λ r. ahead (word ts Comma) (part_expr text ts Plain r))
  comma_lawful = lawful_both _ (lawful_word ts Comma) (part_expr_lawful text ts Plain) refl

  pub list_starts : {d : Room} {p : Place} {t : Expr} {q : Place} → Reads (part_expr text ts Plain) d p t q →
      Leads (λ r. many snoc (ahead (word ts Comma) (part_expr text ts Plain r)) (t ∷ [])) d q (λ r. list_in text ts (part_expr text ts Plain r)) d p (λ xs. xs)
  unfolding list_in
  list_starts r = fold_starts snoc (lawful_map (part_expr_lawful text ts Plain) _) comma_lawful refl refl refl (map_reads _ (part_expr_lawful text ts Plain) r)

  -- what follows in a list leads to the whole list
  abbrev pub Lists : Room → Place → List Expr → Place → Type 0
  Lists d o parts p = Leads (λ r. many snoc (ahead (word ts Comma) (part_expr text ts Plain r)) parts) d p (λ r. list_in text ts (part_expr text ts Plain r)) d o (λ x. x)

  pub list_fails : {d : Room} {p : Place} {e : Stop} → Fails (part_expr text ts Plain) d p e → Fails (λ r. list_in text ts (part_expr text ts Plain r)) d p e
  unfolding list_in
  list_fails f = fold_fails snoc (lawful_map (part_expr_lawful text ts Plain) _) comma_lawful refl refl refl (map_fails _ (part_expr_lawful text ts Plain) f)

  pub list_next : {d : Room} {o : Place} (parts : List Expr) {p : Place} {t : Marked} {q : Place} {x : Expr} {k : Place} → Lists d o parts p → Reads (λ _. word ts Comma) d p t q → Reads (part_expr text ts Plain) d q x k → Lists d o (snoc parts x) k
  list_next parts l r n = item_read snoc (λ _ b. b) (lawful_word ts Comma) (part_expr_lawful text ts Plain) refl refl refl parts l r n

  pub list_breaks : {d : Room} {o : Place} (parts : List Expr) {p : Place} {t : Marked} {q : Place} {e : Stop} → Lists d o parts p → Reads (λ _. word ts Comma) d p t q → Fails (part_expr text ts Plain) d q e → Fails (λ r. list_in text ts (part_expr text ts Plain r)) d o e
  list_breaks parts l r n = item_fails snoc (λ _ b. b) (lawful_word ts Comma) (part_expr_lawful text ts Plain) refl refl refl parts l r (let e = (one_next ts (Comma ∷ []) r).0 in omega arith) n

  pub list_ends : {d : Room} {o : Place} (parts : List Expr) {p : Place} → Lists d o parts p → (In ts p.at (Comma ∷ []) → ⊥) → Reads (λ r. list_in text ts (part_expr text ts Plain r)) d o parts p
  list_ends parts l n = no_item snoc (λ _ b. b) (lawful_word ts Comma) (part_expr_lawful text ts Plain) refl refl refl parts l n

  pub list_falls : {d : Room} {p : Place} {t : Marked} {q : Place} {x : Expr} {k : Place} → Reads (λ _. word ts Comma) d p t q → Reads (part_expr text ts Plain) d q x k → length ts - k.at < length ts - p.at
  list_falls r n = item_falls (part_expr_lawful text ts Plain) (Comma ∷ []) r refl n

  pub list_sound : (d e : Room) → Under d e → Sound ts (list_in text ts (part_expr text ts Plain d)) (list_in text ts (part_expr text ts Plain e))
      (lawful_fold snoc (lawful_map (part_expr_lawful text ts Plain) (λ x. x ∷ [])) comma_lawful refl refl refl).first (lawful_fold snoc (lawful_map (part_expr_lawful text ts Plain) (λ x. x ∷ [])) comma_lawful refl refl refl).cont false
  unfolding list_in
  list_sound d e h = (lawful_fold snoc (lawful_map (part_expr_lawful text ts Plain) (λ x. x ∷ [])) comma_lawful refl refl refl).sound d e h

  abbrev pub list_lawful : Lawful ts (λ r. list_in text ts (part_expr text ts Plain r))
  list_lawful = record {
    first = (lawful_fold snoc (lawful_map (part_expr_lawful text ts Plain) (λ x. x ∷ [])) comma_lawful refl refl refl).first;
    cont = (lawful_fold snoc (lawful_map (part_expr_lawful text ts Plain) (λ x. x ∷ [])) comma_lawful refl refl refl).cont;
    null = false;
    sound = list_sound;
  }

module _ (text : List ℕ) (ts : List Marked) (s : Standing) where
  -- expr behind its operands
  rest_lawful : (at : ℕ) → Lawful ts (λ r. both (test_or_choice at) (binary_in text ts r.operators s (inner text ts s r) 10) (maybe (branches_in text ts (inner text ts s r))))
  rest_lawful at = lawful_both (test_or_choice at) (binary_lawful text ts s 10) (lawful_maybe (branches_lawful text ts s) refl) (no_question s)

  abbrev rest_lawfuls : Lawfuls ts (λ r at. both (test_or_choice at) (binary_in text ts r.operators s (inner text ts s r) 10) (maybe (branches_in text ts (inner text ts s r))))
  rest_lawfuls = record {
    first = (lawful_both (test_or_choice 0) (binary_lawful text ts s 10) (lawful_maybe (branches_lawful text ts s) refl) (no_question s)).first;
    cont = (lawful_both (test_or_choice 0) (binary_lawful text ts s 10) (lawful_maybe (branches_lawful text ts s) refl) (no_question s)).cont;
    null = false;
    sound = λ at d e h. (lawful_both (test_or_choice at) (binary_lawful text ts s 10) (lawful_maybe (branches_lawful text ts s) refl) (no_question s)).sound d e h;
  }

  begun : (d : Room) (p : Place) → Leads (λ r. both (test_or_choice (offset ts p.at)) (binary_in text ts r.operators s (inner text ts s r) 10) (maybe (branches_in text ts (inner text ts s r)))) d p (part_expr text ts s) d p (λ x. x)
  unfolding expr_in
  begun d p = bind_step (lawful_here ts) rest_lawfuls refl (leads_self (part_expr text ts s) d p) (here_reads ts d p)

  pub tested : {d : Room} {p : Place} {t : Expr} {q : Place} → Reads (λ r. binary_in text ts r.operators s (inner text ts s r) 10) d p t q →
      Leads (λ r. maybe (branches_in text ts (inner text ts s r))) d q (part_expr text ts s) d p (test_or_choice (offset ts p.at) t)
  tested {d = d} {p = p} r = step _ (binary_lawful text ts s 10) (lawful_maybe (branches_lawful text ts s) refl) (no_question s) (begun d p) r

  pub test_fails : {d : Room} {p : Place} {e : Stop} → Fails (λ r. binary_in text ts r.operators s (inner text ts s r) 10) d p e → Fails (part_expr text ts s) d p e
  test_fails {d = d} {p = p} f = ends _ (binary_lawful text ts s 10) (lawful_maybe (branches_lawful text ts s) refl) (no_question s) (begun d p) f

  pub no_branches : {d : Room} {p : Place} {t : Expr} {q : Place} → Reads (λ r. binary_in text ts r.operators s (inner text ts s r) 10) d p t q → (In ts q.at (Question ∷ []) → ⊥) → Reads (part_expr text ts s) d p t q
  no_branches r h = without (branches_lawful text ts s) refl (tested r) h

  -- and behind "?"
  abbrev pub no_lawful : Lawful ts (λ r. ahead (word ts Colon) (part_expr text ts s r))
  no_lawful = colon_lawful text ts s

  abbrev pub pair_lawful : Lawful ts (λ r. both pair (part_expr text ts Plain r) (ahead (word ts Colon) (part_expr text ts s r)))
  pair_lawful = lawful_both pair (part_expr_lawful text ts Plain) no_lawful refl

  question_lawful : Lawful ts (λ r. ahead (word ts Question) (both pair (part_expr text ts Plain r) (ahead (word ts Colon) (part_expr text ts s r))))
  question_lawful = lawful_both _ (lawful_word ts Question) pair_lawful refl

  pub asked : {b d : Room} {p : Place} {t : Expr} {q : Place} {k : Marked} {m : Place} → Reads (λ r. binary_in text ts r.operators s (inner text ts s r) 10) d p t q → Reads (λ _. word ts Question) b q k m →
      b.levels + 1 ≡ d.levels → b.operators ≡ d.operators →
      Leads (λ r. both pair (part_expr text ts Plain r) (ahead (word ts Colon) (part_expr text ts s r))) b m (part_expr text ts s) d p (λ x. choice t x.0 x.1 (offset ts p.at))
  unfolding branches_in inner_at question_lawful
  asked r q e o = maybe_step (branches_lawful text ts s) refl pair_lawful (tested r)
      (step _ (lawful_word ts Question) pair_lawful refl (deep_leads question_lawful (λ r. branches_in text ts (inner text ts s r)) (λ n. refl) (λ m n. refl) e o) q)
      (let n = (one_next ts (Question ∷ []) q).0 in omega arith)

  pub no_room_to_ask : {d : Room} {p : Place} {t : Expr} {q : Place} → Reads (λ r. binary_in text ts r.operators s (inner text ts s r) 10) d p t q → In ts q.at (Question ∷ []) → d.levels ≡ 0 → Fails (part_expr text ts s) d p (TooDeep q.at)
  unfolding branches_in inner_at question_lawful
  no_room_to_ask {q = q} r h e = (tested r).fails (maybe_fails (branches_lawful text ts s) refl tt
      (deep_sinks question_lawful (λ r. branches_in text ts (inner text ts s r)) (λ n. refl) (λ m n. refl) e (λ o. both_opens _ ts _ _ q h)))

  -- A { op A }
  pub again : (level : ℕ) → disjoint (on_binary s level ++ []) (level_kinds level ++ []) ≡ true
  again level = rw (append-nil (on_binary s level), append-nil (level_kinds level)) (apart s level)

  item_lawful : (level : ℕ) → Lawful ts (λ r. both pair (counted ts r.operators (level_kinds level)) (binary_in text ts r.operators s (inner text ts s r) level))
  item_lawful level = lawful_both pair (lawful_counted ts (level_kinds level)) (binary_lawful text ts s level) refl

  first_apart : (level : ℕ) → disjoint (on_binary s level) (level_kinds level ++ []) ≡ true
  first_apart level = rw (append-nil (level_kinds level)) (apart s level)

  pub binary_starts : (level : ℕ) {d : Room} {p : Place} {t : Expr} {q : Place} → Reads (λ r. binary_in text ts r.operators s (inner text ts s r) level) d p t q →
      Leads (λ r. many joined (both pair (counted ts r.operators (level_kinds level)) (binary_in text ts r.operators s (inner text ts s r) level)) t) d q (λ r. binary_in text ts r.operators s (inner text ts s r) (suc level)) d p (λ x. x)
  unfolding binary_in item_lawful
  binary_starts level r = fold_starts joined (binary_lawful text ts s level) (item_lawful level) refl (first_apart level) (again level) r

  pub binary_fails : (level : ℕ) {d : Room} {p : Place} {e : Stop} → Fails (λ r. binary_in text ts r.operators s (inner text ts s r) level) d p e → Fails (λ r. binary_in text ts r.operators s (inner text ts s r) (suc level)) d p e
  unfolding binary_in item_lawful
  binary_fails level r = fold_fails joined (binary_lawful text ts s level) (item_lawful level) refl (first_apart level) (again level) r

  -- what follows in a chain leads to the whole chain
  abbrev pub Joins : Room → ℕ → ℕ → Place → Expr → Place → Type 0
  Joins d below level o left p = Leads (λ r. many joined (both pair (counted ts r.operators (level_kinds below)) (binary_in text ts r.operators s (inner text ts s r) below)) left) d p (λ r. binary_in text ts r.operators s (inner text ts s r) level) d o (λ x. x)

  pub joins_first : (below level : ℕ) → suc below ≡ level → {d : Room} {p : Place} {t : Expr} {q : Place} → Reads (λ r. binary_in text ts r.operators s (inner text ts s r) below) d p t q → Joins d below level p t q
  joins_first below level e {d = d} {p = p} {t = t} {q = q} r = subst (λ n. Joins d below n p t q) e (binary_starts below r)

  pub joins_fails : (below level : ℕ) → suc below ≡ level → {d : Room} {p : Place} {e : Stop} → Fails (λ r. binary_in text ts r.operators s (inner text ts s r) below) d p e → Fails (λ r. binary_in text ts r.operators s (inner text ts s r) level) d p e
  joins_fails below level e {d = d} {p = p} {e = x} f = subst (λ n. Fails (λ r. binary_in text ts r.operators s (inner text ts s r) n) d p x) e (binary_fails below f)

  pub joins_next : (below level : ℕ) (ks : List Kind) → ks ≡ level_kinds below → {d : Room} {o : Place} (left : Expr) {p : Place} {t : Marked} {q : Place} {x : Expr} {k : Place} → Joins d below level o left p →
      Reads (λ r. counted ts r.operators ks) d p t q → Reads (λ r. binary_in text ts r.operators s (inner text ts s r) below) d q x k → Joins d below level o (joined left (t, x)) k
  joins_next below level ks same {d = d} left {p = p} {t = t} {q = q} l r n =
      item_read joined pair (lawful_counted ts (level_kinds below)) (binary_lawful text ts s below) refl refl (again below) left l (subst (λ ks. Reads (λ r. counted ts r.operators ks) d p t q) same r) n

  pub joins_breaks : (below level : ℕ) (ks : List Kind) → ks ≡ level_kinds below → {d : Room} {o : Place} (left : Expr) {p : Place} {t : Marked} {q : Place} {e : Stop} → Joins d below level o left p →
      Reads (λ r. counted ts r.operators ks) d p t q → q.at ≡ p.at + 1 → Fails (λ r. binary_in text ts r.operators s (inner text ts s r) below) d q e → Fails (λ r. binary_in text ts r.operators s (inner text ts s r) level) d o e
  joins_breaks below level ks same {d = d} left {p = p} {t = t} {q = q} l r more n =
      item_fails joined pair (lawful_counted ts (level_kinds below)) (binary_lawful text ts s below) refl refl (again below) left l (subst (λ ks. Reads (λ r. counted ts r.operators ks) d p t q) same r) (omega arith) n

  pub joins_sinks : (below level : ℕ) (ks : List Kind) → ks ≡ level_kinds below → {d : Room} {o : Place} (left : Expr) {p : Place} (e : Stop) → Joins d below level o left p →
      e ≡ TooDeep p.at → Fails (λ r. counted ts r.operators ks) d p e → Fails (λ r. binary_in text ts r.operators s (inner text ts s r) level) d o e
  joins_sinks below level ks same {d = d} {o = o} left {p = p} e l is f =
      subst (λ e. Fails (λ r. binary_in text ts r.operators s (inner text ts s r) level) d o e) (sym is)
      (item_sinks joined pair (lawful_counted ts (level_kinds below)) (binary_lawful text ts s below) refl refl (again below) left l
      (subst (λ ks. Fails (λ r. counted ts r.operators ks) d p (TooDeep p.at)) same (subst (λ e. Fails (λ r. counted ts r.operators ks) d p e) is f)))

  pub joins_ends : (below level : ℕ) (ks : List Kind) → ks ≡ level_kinds below → {d : Room} {o : Place} (left : Expr) {p : Place} → Joins d below level o left p →
      (In ts p.at ks → ⊥) → Reads (λ r. binary_in text ts r.operators s (inner text ts s r) level) d o left p
  joins_ends below level ks same left {p = p} l n =
      no_item joined pair (lawful_counted ts (level_kinds below)) (binary_lawful text ts s below) refl refl (again below) left l
      (λ h. n (subst (λ ks. In ts p.at ks) (append-nil (level_kinds below) ∙ sym same) h))

  pub joins_falls : (below : ℕ) (p : Place) {d : Room} {q : Place} {x : Expr} {k : Place} → q.at ≡ p.at + 1 → p.at < length ts → Reads (λ r. binary_in text ts r.operators s (inner text ts s r) below) d q x k → length ts - k.at < length ts - p.at
  joins_falls below p e l r = let o = reads_order (binary_lawful text ts s below) r in omega arith

  -- the same by what the look for an operator answered
  pub found_next : (below level : ℕ) (ks : List Kind) → ks ≡ level_kinds below → {d : Room} {o : Place} (left : Expr) {p : Place} (t : Marked) (q : Place) (f : Option (Marked × Place)) {x : Expr} {k : Place} → f ≡ Some (t, q) → Joins d below level o left p →
      IfSome f (λ y. Reads (λ r. counted ts r.operators ks) d p y.0 y.1) → Reads (λ r. binary_in text ts r.operators s (inner text ts s r) below) d q x k → Joins d below level o (joined left (t, x)) k
  found_next below level ks same {d = d} left {p = p} t q f is l r n =
      joins_next below level ks same left l (subst (λ f. IfSome f (λ y. Reads (λ r. counted ts r.operators ks) d p y.0 y.1)) is r) n

  pub found_breaks : (below level : ℕ) (ks : List Kind) → ks ≡ level_kinds below → {d : Room} {o : Place} (left : Expr) {p : Place} (t : Marked) (q : Place) (f : Option (Marked × Place)) {e : Stop} → f ≡ Some (t, q) → Joins d below level o left p →
      IfSome f (λ y. Reads (λ r. counted ts r.operators ks) d p y.0 y.1) → IfSome f (λ y. y.1.at ≡ p.at + 1) → Fails (λ r. binary_in text ts r.operators s (inner text ts s r) below) d q e → Fails (λ r. binary_in text ts r.operators s (inner text ts s r) level) d o e
  found_breaks below level ks same {d = d} left {p = p} t q f is l r more n =
      joins_breaks below level ks same left l (subst (λ f. IfSome f (λ y. Reads (λ r. counted ts r.operators ks) d p y.0 y.1)) is r) (subst (λ (f : Option (Marked × Place)). IfSome f (λ y. y.1.at ≡ p.at + 1)) is more) n

  pub found_falls : (below : ℕ) (p : Place) {d : Room} (t : Marked) (q : Place) (f : Option (Marked × Place)) {x : Expr} {k : Place} → f ≡ Some (t, q) → IfSome f (λ y. y.1.at ≡ p.at + 1) → IfSome f (λ y. p.at < length ts) →
      Reads (λ r. binary_in text ts r.operators s (inner text ts s r) below) d q x k → length ts - k.at < length ts - p.at
  found_falls below p t q f is more less n =
      joins_falls below p (subst (λ (f : Option (Marked × Place)). IfSome f (λ y. y.1.at ≡ p.at + 1)) is more) (subst (λ (f : Option (Marked × Place)). IfSome f (λ y. p.at < length ts)) is less) n

  pub found_none : (below level : ℕ) (ks : List Kind) → ks ≡ level_kinds below → {d : Room} {o : Place} (left : Expr) {p : Place} (f : Option (Marked × Place)) → f ≡ None → Joins d below level o left p →
      IfNone f (In ts p.at ks → ⊥) → Reads (λ r. binary_in text ts r.operators s (inner text ts s r) level) d o left p
  found_none below level ks same left {p = p} f is l n = joins_ends below level ks same left l (subst (λ (f : Option (Marked × Place)). IfNone f (In ts p.at ks → ⊥)) is n)

  pub operand_fails : {d : Room} {p : Place} {e : Stop} → Fails (λ r. unary_in text ts s (inner text ts s r)) d p e → Fails (λ r. binary_in text ts r.operators s (inner text ts s r) 0) d p e
  unfolding binary_in
  operand_fails f = f

  -- no operator of the levels between stands behind it
  pub climbs : (n m : ℕ) → n ≤ m → {d : Room} {p : Place} {t : Expr} {q : Place} → ((l : ℕ) → n ≤ l → l < m → In ts q.at (level_kinds l) → ⊥) →
      Reads (λ r. binary_in text ts r.operators s (inner text ts s r) n) d p t q → Reads (λ r. binary_in text ts r.operators s (inner text ts s r) m) d p t q
  climbs n zero h {d = d} {p = p} {t = t} {q = q} none r = let e : n ≡ zero = omega arith in subst (λ k. Reads (λ r. binary_in text ts r.operators s (inner text ts s r) k) d p t q) e r
  climbs n (suc m) h {d = d} {p = p} {t = t} {q = q} none r = elim (cases_lt m n) [
    | inl l ↦ (let e : n ≡ suc m = omega arith in subst (λ k. Reads (λ r. binary_in text ts r.operators s (inner text ts s r) k) d p t q) e r)
    | inr l ↦ joins_ends m (suc m) (level_kinds m) refl t (joins_first m (suc m) refl (climbs n m l (λ k a b. none k a (omega arith)) r)) (none m l (omega arith))
  ]

  pub climbs_fails : (n m : ℕ) → n ≤ m → {d : Room} {p : Place} {e : Stop} →
      Fails (λ r. binary_in text ts r.operators s (inner text ts s r) n) d p e → Fails (λ r. binary_in text ts r.operators s (inner text ts s r) m) d p e
  climbs_fails n zero h {d = d} {p = p} {e = x} f = let e : n ≡ zero = omega arith in subst (λ k. Fails (λ r. binary_in text ts r.operators s (inner text ts s r) k) d p x) e f
  climbs_fails n (suc m) h {d = d} {p = p} {e = x} f = elim (cases_lt m n) [
    | inl l ↦ (let e : n ≡ suc m = omega arith in subst (λ k. Fails (λ r. binary_in text ts r.operators s (inner text ts s r) k) d p x) e f)
    | inr l ↦ binary_fails m (climbs_fails n m l f)
  ]

  pub operand : {d : Room} {p : Place} {t : Expr} {q : Place} → Reads (λ r. unary_in text ts s (inner text ts s r)) d p t q → Reads (λ r. binary_in text ts r.operators s (inner text ts s r) 0) d p t q
  unfolding binary_in
  operand r = r

  -- signed | primary
  sign_lawful : Lawful ts (λ r. both before_one (one ts unary_kinds) (unary_in text ts s (inner text ts s r)))
  sign_lawful = lawful_both _ (lawful_one ts unary_kinds) (unary_lawful text ts s) refl

  pub unsigned : {d : Room} {p : Place} → (In ts p.at unary_kinds → ⊥) → Leads (λ r. primary_in text ts s (inner text ts s r)) d p (λ r. unary_in text ts s (inner text ts s r)) d p (λ t. t)
  unfolding unary_in
  unsigned {d = d} {p = p} h = right (signed_lawful text ts s) (primary_lawful text ts s) refl refl (leads_self (λ r. unary_in text ts s (inner text ts s r)) d p) refl h

  with_sign : {d : Room} {p : Place} → In ts p.at unary_kinds → Leads (λ r. signed_in text ts (inner text ts s r)) d p (λ r. unary_in text ts s (inner text ts s r)) d p (λ t. t)
  unfolding unary_in
  with_sign {d = d} {p = p} h = left (signed_lawful text ts s) (primary_lawful text ts s) refl refl (leads_self (λ r. unary_in text ts s (inner text ts s r)) d p) h

  pub signed : {b d : Room} {p : Place} {k : Marked} {m : Place} → Reads (λ _. one ts unary_kinds) b p k m → In ts p.at unary_kinds → b.levels + 1 ≡ d.levels → b.operators ≡ d.operators →
      Leads (λ r. unary_in text ts s (inner text ts s r)) b m (λ r. unary_in text ts s (inner text ts s r)) d p (before_one k)
  unfolding signed_in inner_at sign_lawful
  signed q h e o = then (with_sign h)
      (step _ (lawful_one ts unary_kinds) (unary_lawful text ts s) refl (deep_leads sign_lawful (λ r. signed_in text ts (inner text ts s r)) (λ n. refl) (λ m n. refl) e o) q)

  pub no_room_to_sign : {d : Room} {p : Place} → In ts p.at unary_kinds → d.levels ≡ 0 → Fails (λ r. unary_in text ts s (inner text ts s r)) d p (TooDeep p.at)
  unfolding signed_in inner_at sign_lawful
  no_room_to_sign {p = p} h e = (with_sign h).fails (deep_sinks sign_lawful (λ r. signed_in text ts (inner text ts s r)) (λ n. refl) (λ m n. refl) e (λ o. both_opens _ ts _ _ p h))

  -- number | named | "(" expr ")" | "{" expr { "," expr } "}"
  bracket_lawful : Lawful ts (λ r. either (paren_in text ts (inner text ts s r)) (concat_in text ts (inner text ts s r)))
  bracket_lawful = lawful_either (paren_lawful text ts s) (concat_lawful text ts s) refl refl

  abbrev not_number_lawful : Lawful ts (λ r. either (named_in text ts s (inner text ts s r)) (either (paren_in text ts (inner text ts s r)) (concat_in text ts (inner text ts s r))))
  not_number_lawful = lawful_either (named_lawful text ts s) (lawful_either (paren_lawful text ts s) (concat_lawful text ts s) refl refl) refl refl

  pub number_read : {d : Room} {p : Place} {k : Marked} {m : Place} → Reads (λ _. word ts Numeral) d p k m → In ts p.at (Numeral ∷ []) →
      Reads (λ r. primary_in text ts s (inner text ts s r)) d p (number (literal_or (literal_of (spelled text k))) k.at) m
  unfolding primary_in number_rule
  number_read {d = d} {p = p} r h = (left (number_lawful text ts s) not_number_lawful refl refl (leads_self (λ r. primary_in text ts s (inner text ts s r)) d p) h).reads (map_reads _ (lawful_word ts Numeral) r)

  pub number_operand : {d : Room} {p : Place} {k : Marked} {m : Place} → Reads (λ _. word ts Numeral) d p k m → In ts p.at (Numeral ∷ []) →
      Reads (λ r. unary_in text ts s (inner text ts s r)) d p (number (literal_or (literal_of (spelled text k))) k.at) m
  number_operand {p = p} r h = (unsigned (λ u. In_apart ts p.at (Numeral ∷ []) unary_kinds refl h u)).reads (number_read r h)

  no_number : {d : Room} {p : Place} → (In ts p.at (Numeral ∷ []) → ⊥) →
      Leads (λ r. either (named_in text ts s (inner text ts s r)) (either (paren_in text ts (inner text ts s r)) (concat_in text ts (inner text ts s r)))) d p (λ r. primary_in text ts s (inner text ts s r)) d p (λ t. t)
  unfolding primary_in
  no_number {d = d} {p = p} n = right (number_lawful text ts s) not_number_lawful refl refl (leads_self (λ r. primary_in text ts s (inner text ts s r)) d p) refl n

  pub name_read : {d : Room} {p : Place} {k : Marked} {m : Place} → Reads (λ _. word ts Ident) d p k m → (In ts p.at (Numeral ∷ []) → ⊥) → In ts p.at (Ident ∷ []) →
      Leads (λ r. maybe (index_in text ts s (inner text ts s r))) d m (λ r. primary_in text ts s (inner text ts s r)) d p (selected text k)
  unfolding named_in
  name_read r n h = step _ (lawful_word ts Ident) (lawful_maybe (index_lawful text ts s) refl) refl (left (named_lawful text ts s) (lawful_either (paren_lawful text ts s) (concat_lawful text ts s) refl refl) refl refl (no_number n) h) r

  no_name : {d : Room} {p : Place} → (In ts p.at (Numeral ∷ []) → ⊥) → (In ts p.at (Ident ∷ []) → ⊥) →
      Leads (λ r. either (paren_in text ts (inner text ts s r)) (concat_in text ts (inner text ts s r))) d p (λ r. primary_in text ts s (inner text ts s r)) d p (λ t. t)
  no_name n m = right (named_lawful text ts s) (lawful_either (paren_lawful text ts s) (concat_lawful text ts s) refl refl) refl refl (no_number n) refl m

  with_paren : {d : Room} {p : Place} → (In ts p.at (Numeral ∷ []) → ⊥) → (In ts p.at (Ident ∷ []) → ⊥) → In ts p.at (OpenParen ∷ []) →
      Leads (λ r. paren_in text ts (inner text ts s r)) d p (λ r. primary_in text ts s (inner text ts s r)) d p (λ t. t)
  with_paren n m h = left (paren_lawful text ts s) (concat_lawful text ts s) refl refl (no_name n m) h

  no_paren : {d : Room} {p : Place} → (In ts p.at (Numeral ∷ []) → ⊥) → (In ts p.at (Ident ∷ []) → ⊥) → (In ts p.at (OpenParen ∷ []) → ⊥) →
      Leads (λ r. concat_in text ts (inner text ts s r)) d p (λ r. primary_in text ts s (inner text ts s r)) d p (λ t. t)
  no_paren n m h = right (paren_lawful text ts s) (concat_lawful text ts s) refl refl (no_name n m) refl h

  pub no_primary : {d : Room} {p : Place} → (In ts p.at (Numeral ∷ []) → ⊥) → (In ts p.at (Ident ∷ []) → ⊥) → (In ts p.at (OpenParen ∷ []) → ⊥) → (In ts p.at (OpenBrace ∷ []) → ⊥) →
      Fails (λ r. primary_in text ts s (inner text ts s r)) d p (Syntax p.at)
  no_primary n m h b = (no_paren n m h).fails (no_start (concat_lawful text ts s) refl b)

  abbrev pub close_lawful : Lawful ts (λ r. behind (part_expr text ts Plain r) (word ts CloseParen))
  close_lawful = lawful_both _ (part_expr_lawful text ts Plain) (lawful_word ts CloseParen) refl

  open_lawful : Lawful ts (λ r. ahead (word ts OpenParen) (behind (part_expr text ts Plain r) (word ts CloseParen)))
  open_lawful = lawful_both _ (lawful_word ts OpenParen) close_lawful refl

  pub opened : {b d : Room} {p : Place} {k : Marked} {m : Place} → Reads (λ _. word ts OpenParen) b p k m → (In ts p.at (Numeral ∷ []) → ⊥) → (In ts p.at (Ident ∷ []) → ⊥) → In ts p.at (OpenParen ∷ []) →
      b.levels + 1 ≡ d.levels → b.operators ≡ d.operators →
      Leads (λ r. behind (part_expr text ts Plain r) (word ts CloseParen)) b m (λ r. primary_in text ts s (inner text ts s r)) d p (λ t. t)
  unfolding paren_in inner_at open_lawful
  opened q n m h e o = then (with_paren n m h)
      (step _ (lawful_word ts OpenParen) close_lawful refl (deep_leads open_lawful (λ r. paren_in text ts (inner text ts s r)) (λ n. refl) (λ m n. refl) e o) q)

  pub no_room_to_open : {d : Room} {p : Place} → (In ts p.at (Numeral ∷ []) → ⊥) → (In ts p.at (Ident ∷ []) → ⊥) → In ts p.at (OpenParen ∷ []) → d.levels ≡ 0 →
      Fails (λ r. primary_in text ts s (inner text ts s r)) d p (TooDeep p.at)
  unfolding paren_in inner_at open_lawful
  no_room_to_open {p = p} n m h e = (with_paren n m h).fails (deep_sinks open_lawful (λ r. paren_in text ts (inner text ts s r)) (λ n. refl) (λ m n. refl) e (λ o. both_opens _ ts _ _ p h))

  abbrev pub list_end_lawful : Lawful ts (λ r. behind (list_in text ts (part_expr text ts Plain r)) (word ts CloseBrace))
  list_end_lawful = lawful_both _ (list_lawful text ts) (lawful_word ts CloseBrace) refl

  brace_lawful : Lawful ts (λ r. both (λ (t : Marked) parts. concatenation parts t.at) (word ts OpenBrace) (behind (list_in text ts (part_expr text ts Plain r)) (word ts CloseBrace)))
  brace_lawful = lawful_both _ (lawful_word ts OpenBrace) list_end_lawful refl

  pub braced : {b d : Room} {p : Place} {k : Marked} {m : Place} → Reads (λ _. word ts OpenBrace) b p k m → (In ts p.at (Numeral ∷ []) → ⊥) → (In ts p.at (Ident ∷ []) → ⊥) → (In ts p.at (OpenParen ∷ []) → ⊥) →
      b.levels + 1 ≡ d.levels → b.operators ≡ d.operators →
      Leads (λ r. behind (list_in text ts (part_expr text ts Plain r)) (word ts CloseBrace)) b m (λ r. primary_in text ts s (inner text ts s r)) d p (λ parts. concatenation parts k.at)
  unfolding concat_in inner_at brace_lawful
  braced q n m h e o = then (no_paren n m h)
      (step _ (lawful_word ts OpenBrace) list_end_lawful refl (deep_leads brace_lawful (λ r. concat_in text ts (inner text ts s r)) (λ n. refl) (λ m n. refl) e o) q)

  pub no_room_to_brace : {d : Room} {p : Place} → (In ts p.at (Numeral ∷ []) → ⊥) → (In ts p.at (Ident ∷ []) → ⊥) → (In ts p.at (OpenParen ∷ []) → ⊥) → In ts p.at (OpenBrace ∷ []) → d.levels ≡ 0 →
      Fails (λ r. primary_in text ts s (inner text ts s r)) d p (TooDeep p.at)
  unfolding concat_in inner_at brace_lawful
  no_room_to_brace {p = p} n m h k e = (no_paren n m h).fails (deep_sinks brace_lawful (λ r. concat_in text ts (inner text ts s r)) (λ n. refl) (λ m n. refl) e (λ o. both_opens _ ts _ _ p k))

  -- "[" expr [ ":" expr ] "]"
  abbrev pub ends_lawful : Lawful ts (λ r. both pair (part_expr text ts Plain r) (maybe (ahead (word ts Colon) (part_expr text ts Plain r))))
  ends_lawful = lawful_both pair (part_expr_lawful text ts Plain) (lawful_maybe (colon_lawful text ts Plain) refl) refl

  abbrev pub index_end_lawful : Lawful ts (λ r. behind (both pair (part_expr text ts Plain r) (maybe (ahead (word ts Colon) (part_expr text ts Plain r)))) (word ts CloseSquare))
  index_end_lawful = lawful_both _ ends_lawful (lawful_word ts CloseSquare) refl

  square_lawful : Lawful ts (λ r. ahead (one ts (index_kinds s)) (behind (both pair (part_expr text ts Plain r) (maybe (ahead (word ts Colon) (part_expr text ts Plain r)))) (word ts CloseSquare)))
  square_lawful = lawful_both _ (lawful_one ts (index_kinds s)) index_end_lawful refl

  no_bracket : {d : Room} {p : Place} → (In ts p.at (index_kinds s) → ⊥) → Reads (λ r. maybe (index_in text ts s (inner text ts s r))) d p None p
  no_bracket {d = d} {p = p} h = without (index_lawful text ts s) refl (leads_self (λ r. maybe (index_in text ts s (inner text ts s r))) d p) h

  bracket : {b d : Room} {p : Place} {k : Marked} {m : Place} → Reads (λ _. one ts (index_kinds s)) b p k m → b.levels + 1 ≡ d.levels → b.operators ≡ d.operators →
      Leads (λ r. behind (both pair (part_expr text ts Plain r) (maybe (ahead (word ts Colon) (part_expr text ts Plain r)))) (word ts CloseSquare)) b m (λ r. maybe (index_in text ts s (inner text ts s r))) d p (λ t. Some t)
  unfolding index_in inner_at square_lawful
  bracket {d = d} {p = p} q e o = maybe_step (index_lawful text ts s) refl index_end_lawful (leads_self (λ r. maybe (index_in text ts s (inner text ts s r))) d p)
      (step _ (lawful_one ts (index_kinds s)) index_end_lawful refl (deep_leads square_lawful (λ r. index_in text ts s (inner text ts s r)) (λ n. refl) (λ m n. refl) e o) q)
      (let n = (one_next ts (index_kinds s) q).0 in omega arith)

  no_room : {d : Room} {p : Place} → In ts p.at (index_kinds s) → d.levels ≡ 0 → Fails (λ r. maybe (index_in text ts s (inner text ts s r))) d p (TooDeep p.at)
  unfolding index_in inner_at square_lawful
  no_room {p = p} h e = maybe_fails (index_lawful text ts s) refl tt
      (deep_sinks square_lawful (λ r. index_in text ts s (inner text ts s r)) (λ n. refl) (λ m n. refl) e (λ o. both_opens _ ts _ _ p h))

  -- the same by a list of these kinds
  pub no_index : (ks : List Kind) → ks ≡ index_kinds s → {d : Room} {p : Place} → (In ts p.at ks → ⊥) → Reads (λ r. maybe (index_in text ts s (inner text ts s r))) d p None p
  no_index ks same {p = p} h = no_bracket (λ k. h (subst (λ ks. In ts p.at ks) (sym same) k))

  pub bracketed : (ks : List Kind) → ks ≡ index_kinds s → {b d : Room} {p : Place} {k : Marked} {m : Place} → Reads (λ _. one ts ks) b p k m → b.levels + 1 ≡ d.levels → b.operators ≡ d.operators →
      Leads (λ r. behind (both pair (part_expr text ts Plain r) (maybe (ahead (word ts Colon) (part_expr text ts Plain r)))) (word ts CloseSquare)) b m (λ r. maybe (index_in text ts s (inner text ts s r))) d p (λ t. Some t)
  bracketed ks same {b = b} {p = p} {k = k} {m = m} q e o = bracket (subst (λ ks. Reads (λ _. one ts ks) b p k m) same q) e o

  pub no_room_to_index : (ks : List Kind) → ks ≡ index_kinds s → {d : Room} {p : Place} → In ts p.at ks → d.levels ≡ 0 → Fails (λ r. maybe (index_in text ts s (inner text ts s r))) d p (TooDeep p.at)
  no_room_to_index ks same {p = p} h e = no_room (subst (λ ks. In ts p.at ks) same h) e
