-- Where a reader of selections stands, from one part of a rule to the next.
use Rattle.std.proofs.Common.{◌≡◌, ℕ, ◌+◌, ◌-◌, ◌<◌, List, [], ◌∷◌, Option, Some, None, IfSome, IfNone, length, refl, sym, subst, inl, arith}
use Rattle.cov_tree.specs.declared.bins.Elem.{Elem}
use Rattle.cov_tree.specs.declared.groups.Sel.{Sel}
use Rattle.cov_tree.specs.Exprs.{none_of, both_of, either_of}
use Rattle.cov_lexer.specs.declared.kind.Kind.{Kind}
use Rattle.cov_lexer.specs.declared.kind.Kind.TheVariants.{BinsofWord, IntersectWord, OpenParen, CloseParen, OpenBrace, CloseBrace, Dot, Bang, AndAnd, OrOr}
use Rattle.cov_grammar.specs.declared.marked.Marked.{Marked}
use Rattle.cov_grammar.specs.declared.place.Place.{Place}
use Rattle.cov_grammar.specs.declared.place.Room.{Room}
use Rattle.cov_grammar.specs.declared.place.Standing.TheVariants.{Plain}
use Rattle.cov_grammar.specs.declared.place.Stop.{Stop}
use Rattle.cov_grammar.specs.declared.place.Stop.TheVariants.{TooDeep}
use Rattle.cov_grammar.specs.Rule.{Rule, In, one, word, counted, both, bind, either, many, map_to, ahead, behind, maybe}
use Rattle.cov_grammar.specs.Parses.{Reads, Fails}
use Rattle.cov_grammar.specs.Expressions.{pair}
use Rattle.cov_grammar.specs.Bins.{ident, elems}
use Rattle.cov_grammar.specs.Groups.{bins_of_token, binsof_in, not_in, sel_paren_in, sunary_in, sand_in, sel_in, sel_inner_at, part_sel, sel}
use Rattle.cov_grammar.proofs.Lawful.{Lawful, lawful_word, lawful_counted, lawful_map, lawful_maybe, lawful_both, lawful_either}
use Rattle.cov_grammar.proofs.Compose.{counting_anew, both_reads, both_fails, both_then_fails, afresh_reads, afresh_fails}
use Rattle.cov_grammar.proofs.Steps.{Leads, leads_self, then, both_opens, step, ends, map_leads, without, maybe_step, left, right, deep_leads, deep_sinks, fold_starts, fold_fails, item_read, item_fails, item_sinks, no_item, one_next, reads_order}
use Rattle.cov_grammar.proofs.BinsLaws.{ident_lawful, elems_lawful}
use Rattle.cov_grammar.proofs.GroupLaws.{sel_inner, dotted_lawful, binsof_lawful, not_lawful, sel_paren_lawful, sunary_lawful, sand_lawful, part_sel_lawful}

module _ (text : List ℕ) (ts : List Marked) where
  abbrev w : (k : Kind) → Lawful ts (λ _. one ts (k ∷ []))
  w k = lawful_word ts k

  -- the rules of the levels, in a room
  abbrev pub sunary_at : Room → Rule Sel
  sunary_at r = sunary_in text ts r (sel_inner text ts r)

  abbrev pub sand_at : Room → Rule Sel
  sand_at r = sand_in text ts r (sel_inner text ts r)

  -- a selection of its own count
  pub sel_reads : {d : Room} {p : Place} {t : Sel} {q : Place} → Reads (part_sel text ts) d (counting_anew p) t q → Reads (sel text ts) d p t (record { at = q.at; used = p.used })
  unfolding sel
  sel_reads r = afresh_reads (part_sel text ts) _ r refl

  pub sel_fails : {d : Room} {p : Place} {e : Stop} → Fails (part_sel text ts) d (counting_anew p) e → Fails (sel text ts) d p e
  unfolding sel
  sel_fails f = afresh_fails (part_sel text ts) f

  -- sand { "||" sand }
  abbrev pub or_lawful : Lawful ts (λ r. ahead (counted ts r.operators (OrOr ∷ [])) (sand_at r))
  or_lawful = lawful_both _ (lawful_counted ts (OrOr ∷ [])) (sand_lawful text ts) refl

  abbrev pub Ors : Room → Place → Sel → Place → Type 0
  Ors d o left p = Leads (λ r. many either_of (ahead (counted ts r.operators (OrOr ∷ [])) (sand_at r)) left) d p (part_sel text ts) d o (λ x. x)

  pub ors_start : {d : Room} {p : Place} {t : Sel} {q : Place} → Reads sand_at d p t q → Ors d p t q
  unfolding sel_in
  ors_start r = fold_starts either_of (sand_lawful text ts) or_lawful refl refl refl r

  pub ors_fail : {d : Room} {p : Place} {e : Stop} → Fails sand_at d p e → Fails (part_sel text ts) d p e
  unfolding sel_in
  ors_fail f = fold_fails either_of (sand_lawful text ts) or_lawful refl refl refl f

  pub or_read : {d : Room} {o : Place} (sofar : Sel) {p : Place} {t : Marked} {q : Place} {x : Sel} {k : Place} → Ors d o sofar p → Reads (λ r. counted ts r.operators (OrOr ∷ [])) d p t q → Reads sand_at d q x k → Ors d o (either_of sofar x) k
  or_read sofar l r s = item_read either_of (λ _ b. b) (lawful_counted ts (OrOr ∷ [])) (sand_lawful text ts) refl refl refl sofar l r s

  pub or_fails : {d : Room} {o : Place} (sofar : Sel) {p : Place} {t : Marked} {q : Place} {e : Stop} → Ors d o sofar p → Reads (λ r. counted ts r.operators (OrOr ∷ [])) d p t q → q.at ≡ p.at + 1 → Fails sand_at d q e → Fails (part_sel text ts) d o e
  or_fails sofar l r a f = item_fails either_of (λ _ b. b) (lawful_counted ts (OrOr ∷ [])) (sand_lawful text ts) refl refl refl sofar l r (omega (arith, a)) f

  pub or_sinks : {d : Room} {o : Place} (sofar : Sel) {p : Place} {k : ℕ} → Ors d o sofar p → Fails (λ r. counted ts r.operators (OrOr ∷ [])) d p (TooDeep k) → Fails (part_sel text ts) d o (TooDeep k)
  or_sinks sofar l f = item_sinks either_of (λ _ b. b) (lawful_counted ts (OrOr ∷ [])) (sand_lawful text ts) refl refl refl sofar l f

  pub no_or : {d : Room} {o : Place} {left : Sel} {p : Place} → Ors d o left p → (In ts p.at (OrOr ∷ []) → ⊥) → Reads (part_sel text ts) d o left p
  no_or {left = left} l n = no_item either_of (λ _ b. b) (lawful_counted ts (OrOr ∷ [])) (sand_lawful text ts) refl refl refl left l n

  -- sunary { "&&" sunary }
  abbrev pub and_lawful : Lawful ts (λ r. ahead (counted ts r.operators (AndAnd ∷ [])) (sunary_at r))
  and_lawful = lawful_both _ (lawful_counted ts (AndAnd ∷ [])) (sunary_lawful text ts) refl

  abbrev pub Ands : Room → Place → Sel → Place → Type 0
  Ands d o left p = Leads (λ r. many both_of (ahead (counted ts r.operators (AndAnd ∷ [])) (sunary_at r)) left) d p sand_at d o (λ x. x)

  pub ands_start : {d : Room} {p : Place} {t : Sel} {q : Place} → Reads sunary_at d p t q → Ands d p t q
  unfolding sand_in
  ands_start r = fold_starts both_of (sunary_lawful text ts) and_lawful refl refl refl r

  pub ands_fail : {d : Room} {p : Place} {e : Stop} → Fails sunary_at d p e → Fails sand_at d p e
  unfolding sand_in
  ands_fail f = fold_fails both_of (sunary_lawful text ts) and_lawful refl refl refl f

  pub and_read : {d : Room} {o : Place} (sofar : Sel) {p : Place} {t : Marked} {q : Place} {x : Sel} {k : Place} → Ands d o sofar p → Reads (λ r. counted ts r.operators (AndAnd ∷ [])) d p t q → Reads sunary_at d q x k → Ands d o (both_of sofar x) k
  and_read sofar l r s = item_read both_of (λ _ b. b) (lawful_counted ts (AndAnd ∷ [])) (sunary_lawful text ts) refl refl refl sofar l r s

  pub and_fails : {d : Room} {o : Place} (sofar : Sel) {p : Place} {t : Marked} {q : Place} {e : Stop} → Ands d o sofar p → Reads (λ r. counted ts r.operators (AndAnd ∷ [])) d p t q → q.at ≡ p.at + 1 → Fails sunary_at d q e → Fails sand_at d o e
  and_fails sofar l r a f = item_fails both_of (λ _ b. b) (lawful_counted ts (AndAnd ∷ [])) (sunary_lawful text ts) refl refl refl sofar l r (omega (arith, a)) f

  pub and_sinks : {d : Room} {o : Place} (sofar : Sel) {p : Place} {k : ℕ} → Ands d o sofar p → Fails (λ r. counted ts r.operators (AndAnd ∷ [])) d p (TooDeep k) → Fails sand_at d o (TooDeep k)
  and_sinks sofar l f = item_sinks both_of (λ _ b. b) (lawful_counted ts (AndAnd ∷ [])) (sunary_lawful text ts) refl refl refl sofar l f

  pub no_and : {d : Room} {o : Place} {left : Sel} {p : Place} → Ands d o left p → (In ts p.at (AndAnd ∷ []) → ⊥) → Reads sand_at d o left p
  no_and {left = left} l n = no_item both_of (λ _ b. b) (lawful_counted ts (AndAnd ∷ [])) (sunary_lawful text ts) refl refl refl left l n

  -- "!" sunary
  abbrev not_there : Lawful ts (λ r. map_to none_of (ahead (word ts Bang) (sunary_at r)))
  not_there = lawful_map (lawful_both _ (w Bang) (sunary_lawful text ts) refl) none_of

  abbrev after_not : Lawful ts (λ r. either (sel_paren_in text ts (sel_inner text ts r)) (binsof_in text ts r))
  after_not = lawful_either (sel_paren_lawful text ts) (binsof_lawful text ts) refl refl

  at_bang : {d : Room} {p : Place} → In ts p.at (Bang ∷ []) → Leads (λ r. not_in text ts (sel_inner text ts r)) d p sunary_at d p (λ t. t)
  unfolding sunary_in
  at_bang {d = d} {p = p} h = left (not_lawful text ts) after_not refl refl (leads_self sunary_at d p) h

  pub negated : (d : Room) {b : Room} {p : Place} {t : Marked} {q : Place} → In ts p.at (Bang ∷ []) → Reads (λ _. word ts Bang) b p t q → b.levels + 1 ≡ d.levels → b.operators ≡ d.operators →
      Leads sunary_at b q sunary_at d p none_of
  unfolding not_in sel_inner_at
  negated d {b = b} {p = p} h r e f = step _ (w Bang) (sunary_lawful text ts) refl
      (map_leads none_of (lawful_both _ (w Bang) (sunary_lawful text ts) refl)
      (then (at_bang h) (deep_leads not_there (λ r. not_in text ts (sel_inner text ts r)) (λ n. refl) (λ m n. refl) e f))) r

  pub no_room_to_negate : {d : Room} {p : Place} → In ts p.at (Bang ∷ []) → d.levels ≡ 0 → Fails sunary_at d p (TooDeep p.at)
  unfolding not_in sel_inner_at map_to bind
  no_room_to_negate {p = p} h e = (at_bang h).fails (deep_sinks not_there (λ r. not_in text ts (sel_inner text ts r)) (λ n. refl) (λ m n. refl) e (λ o. inl (both_opens _ ts _ _ p h)))

  -- "(" sel ")"
  abbrev sel_end_lawful : Lawful ts (λ r. behind (part_sel text ts r) (word ts CloseParen))
  sel_end_lawful = lawful_both _ (part_sel_lawful text ts) (w CloseParen) refl

  abbrev paren_there : Lawful ts (λ r. ahead (word ts OpenParen) (behind (part_sel text ts r) (word ts CloseParen)))
  paren_there = lawful_both _ (w OpenParen) sel_end_lawful refl

  no_bang : {d : Room} {p : Place} → (In ts p.at (Bang ∷ []) → ⊥) → Leads (λ r. either (sel_paren_in text ts (sel_inner text ts r)) (binsof_in text ts r)) d p sunary_at d p (λ t. t)
  unfolding sunary_in
  no_bang {d = d} {p = p} n = right (not_lawful text ts) after_not refl refl (leads_self sunary_at d p) refl n

  at_paren : {d : Room} {p : Place} → (In ts p.at (Bang ∷ []) → ⊥) → In ts p.at (OpenParen ∷ []) → Leads (λ r. sel_paren_in text ts (sel_inner text ts r)) d p sunary_at d p (λ t. t)
  at_paren n h = left (sel_paren_lawful text ts) (binsof_lawful text ts) refl refl (no_bang n) h

  pub no_paren : {d : Room} {p : Place} → (In ts p.at (Bang ∷ []) → ⊥) → (In ts p.at (OpenParen ∷ []) → ⊥) → Leads (binsof_in text ts) d p sunary_at d p (λ t. t)
  no_paren n m = right (sel_paren_lawful text ts) (binsof_lawful text ts) refl refl (no_bang n) refl m

  pub enclosed : (d : Room) {b : Room} {p : Place} {t : Marked} {q : Place} → (In ts p.at (Bang ∷ []) → ⊥) → In ts p.at (OpenParen ∷ []) → Reads (λ _. word ts OpenParen) b p t q → b.levels + 1 ≡ d.levels → b.operators ≡ d.operators →
      Leads (λ r. behind (part_sel text ts r) (word ts CloseParen)) b q sunary_at d p (λ t. t)
  unfolding sel_paren_in sel_inner_at
  enclosed d n h r e f = step _ (w OpenParen) sel_end_lawful refl
      (then (at_paren n h) (deep_leads paren_there (λ r. sel_paren_in text ts (sel_inner text ts r)) (λ n. refl) (λ m n. refl) e f)) r

  pub no_room_to_enclose : {d : Room} {p : Place} → (In ts p.at (Bang ∷ []) → ⊥) → In ts p.at (OpenParen ∷ []) → d.levels ≡ 0 → Fails sunary_at d p (TooDeep p.at)
  unfolding sel_paren_in sel_inner_at
  no_room_to_enclose {p = p} n h e = (at_paren n h).fails (deep_sinks paren_there (λ r. sel_paren_in text ts (sel_inner text ts r)) (λ n. refl) (λ m n. refl) e (λ o. both_opens _ ts _ _ p h))

  pub closes : {b : Room} {q : Place} {d : Room} {p : Place} {t : Sel} {m : Place} → Leads (λ r. behind (part_sel text ts r) (word ts CloseParen)) b q sunary_at d p (λ t. t) → Reads (part_sel text ts) b q t m →
      Leads (λ _. word ts CloseParen) b m sunary_at d p (λ _. t)
  closes l r = step _ (part_sel_lawful text ts) (w CloseParen) refl l r

  pub inside_fails : {b : Room} {q : Place} {d : Room} {p : Place} {e : Stop} → Leads (λ r. behind (part_sel text ts r) (word ts CloseParen)) b q sunary_at d p (λ t. t) → Fails (part_sel text ts) b q e → Fails sunary_at d p e
  inside_fails l f = ends _ (part_sel_lawful text ts) (w CloseParen) refl l f

  -- "." ident, or nothing
  abbrev pub dot_lawful : Lawful ts (λ _. ahead (word ts Dot) (ident text ts))
  dot_lawful = lawful_both _ (w Dot) (ident_lawful text ts) refl

  abbrev pub maybe_dot : Room → Rule (Option (List ℕ))
  maybe_dot r = maybe (ahead (word ts Dot) (ident text ts))

  pub no_dot : {d : Room} {p : Place} → (In ts p.at (Dot ∷ []) → ⊥) → Reads maybe_dot d p None p
  no_dot {d = d} {p = p} n = without dot_lawful refl (leads_self maybe_dot d p) n

  pub dotted : {d : Room} {p : Place} {t : Marked} {q : Place} → Reads (λ _. word ts Dot) d p t q → Leads (λ _. ident text ts) d q maybe_dot d p (λ x. Some x)
  dotted {d = d} {p = p} r = maybe_step dot_lawful refl (ident_lawful text ts) (leads_self maybe_dot d p)
      (step _ (w Dot) (ident_lawful text ts) refl (leads_self (λ _. ahead (word ts Dot) (ident text ts)) d p) r)
      (let n = (one_next ts (Dot ∷ []) r).0 in omega arith)

  -- "intersect" "{" elems "}", or nothing
  abbrev pub braces_lawful : Lawful ts (λ r. ahead (word ts OpenBrace) (behind (elems text ts Plain r) (word ts CloseBrace)))
  braces_lawful = lawful_both _ (w OpenBrace) (lawful_both _ (elems_lawful text ts Plain) (w CloseBrace) refl) refl

  abbrev pub meets_lawful : Lawful ts (λ r. ahead (word ts IntersectWord) (ahead (word ts OpenBrace) (behind (elems text ts Plain r) (word ts CloseBrace))))
  meets_lawful = lawful_both _ (w IntersectWord) braces_lawful refl

  abbrev pub maybe_meets : Room → Rule (Option (List Elem))
  maybe_meets r = maybe (ahead (word ts IntersectWord) (ahead (word ts OpenBrace) (behind (elems text ts Plain r) (word ts CloseBrace))))

  pub no_meets : {d : Room} {p : Place} → (In ts p.at (IntersectWord ∷ []) → ⊥) → Reads maybe_meets d p None p
  no_meets {d = d} {p = p} n = without meets_lawful refl (leads_self maybe_meets d p) n

  pub met : {d : Room} {p : Place} {t : Marked} {q : Place} → Reads (λ _. word ts IntersectWord) d p t q →
      Leads (λ r. ahead (word ts OpenBrace) (behind (elems text ts Plain r) (word ts CloseBrace))) d q maybe_meets d p (λ x. Some x)
  met {d = d} {p = p} r = maybe_step meets_lawful refl braces_lawful (leads_self maybe_meets d p)
      (step _ (w IntersectWord) braces_lawful refl (leads_self (λ r. ahead (word ts IntersectWord) (ahead (word ts OpenBrace) (behind (elems text ts Plain r) (word ts CloseBrace)))) d p) r)
      (let n = (one_next ts (IntersectWord ∷ []) r).0 in omega arith)

  abbrev elems_end : Lawful ts (λ r. behind (elems text ts Plain r) (word ts CloseBrace))
  elems_end = lawful_both _ (elems_lawful text ts Plain) (w CloseBrace) refl

  -- inside its braces
  pub met_opens : {d : Room} {p : Place} {t : Marked} {q : Place} {u : Marked} {m : Place} → Reads (λ _. word ts IntersectWord) d p t q → Reads (λ _. word ts OpenBrace) d q u m →
      Leads (λ r. behind (elems text ts Plain r) (word ts CloseBrace)) d m maybe_meets d p (λ x. Some x)
  met_opens r s = step _ (w OpenBrace) elems_end refl (met r) s

  pub met_unopened : {d : Room} {p : Place} {t : Marked} {q : Place} {e : Stop} → Reads (λ _. word ts IntersectWord) d p t q → Fails (λ _. word ts OpenBrace) d q e → Fails maybe_meets d p e
  met_unopened r f = ends _ (w OpenBrace) elems_end refl (met r) f

  pub met_fails : {d : Room} {p : Place} {m : Place} {e : Stop} → Leads (λ r. behind (elems text ts Plain r) (word ts CloseBrace)) d m maybe_meets d p (λ x. Some x) → Fails (elems text ts Plain) d m e → Fails maybe_meets d p e
  met_fails l f = ends _ (elems_lawful text ts Plain) (w CloseBrace) refl l f

  pub met_closes : {d : Room} {p : Place} {m : Place} {x : List Elem} {k : Place} → Leads (λ r. behind (elems text ts Plain r) (word ts CloseBrace)) d m maybe_meets d p (λ x. Some x) → Reads (elems text ts Plain) d m x k →
      Leads (λ _. word ts CloseBrace) d k maybe_meets d p (λ _. Some x)
  met_closes l r = step _ (elems_lawful text ts Plain) (w CloseBrace) refl l r

  -- binsof ( name .bin ) intersect ..
  abbrev point_lawful : Lawful ts (λ r. both pair (ident text ts) (maybe_dot r))
  point_lawful = lawful_both pair (ident_lawful text ts) (lawful_maybe dot_lawful refl) refl

  abbrev point_end : Lawful ts (λ r. behind (both pair (ident text ts) (maybe_dot r)) (word ts CloseParen))
  point_end = lawful_both _ point_lawful (w CloseParen) refl

  abbrev pub in_parens : Room → Rule (List ℕ × Option (List ℕ))
  in_parens r = ahead (word ts OpenParen) (behind (both pair (ident text ts) (maybe_dot r)) (word ts CloseParen))

  abbrev rest_lawful : Lawful ts (λ r. both pair (in_parens r) (maybe_meets r))
  rest_lawful = lawful_both pair (dotted_lawful text ts) (lawful_maybe meets_lawful refl) refl

  pub at_binsof : {d : Room} {p : Place} {t : Marked} {q : Place} → Reads (λ _. word ts BinsofWord) d p t q → Leads (λ r. both pair (in_parens r) (maybe_meets r)) d q (binsof_in text ts) d p (bins_of_token t)
  unfolding binsof_in
  at_binsof {d = d} {p = p} r = step bins_of_token (w BinsofWord) rest_lawful refl (leads_self (binsof_in text ts) d p) r

  pub no_binsof : {d : Room} {p : Place} {e : Stop} → Fails (λ _. word ts BinsofWord) d p e → Fails (binsof_in text ts) d p e
  unfolding binsof_in
  no_binsof {d = d} {p = p} f = ends bins_of_token (w BinsofWord) rest_lawful refl (leads_self (binsof_in text ts) d p) f

  -- from a place on, the parentheses: opened, with the name read, with the bin read
  pub parens_open : {d : Room} {p : Place} {t : Marked} {q : Place} → Reads (λ _. word ts OpenParen) d p t q → Leads (λ r. behind (both pair (ident text ts) (maybe_dot r)) (word ts CloseParen)) d q in_parens d p (λ x. x)
  parens_open {d = d} {p = p} r = step _ (w OpenParen) point_end refl (leads_self in_parens d p) r

  pub parens_unopened : {d : Room} {p : Place} {e : Stop} → Fails (λ _. word ts OpenParen) d p e → Fails in_parens d p e
  parens_unopened {d = d} {p = p} f = ends _ (w OpenParen) point_end refl (leads_self in_parens d p) f

  pub parens_unnamed : {d : Room} {p : Place} {t : Marked} {q : Place} {e : Stop} → Reads (λ _. word ts OpenParen) d p t q → Fails (λ _. ident text ts) d q e → Fails in_parens d p e
  parens_unnamed r f = ends _ point_lawful (w CloseParen) refl (parens_open r) (both_fails pair (ident_lawful text ts) (lawful_maybe dot_lawful refl) refl f)

  pub parens_undotted : {d : Room} {p : Place} {t : Marked} {q : Place} {x : List ℕ} {m : Place} {e : Stop} → Reads (λ _. word ts OpenParen) d p t q → Reads (λ _. ident text ts) d q x m → Fails maybe_dot d m e → Fails in_parens d p e
  parens_undotted r s f = ends _ point_lawful (w CloseParen) refl (parens_open r) (both_then_fails pair (ident_lawful text ts) (lawful_maybe dot_lawful refl) refl s f)

  pub parens_close : {d : Room} {p : Place} {t : Marked} {q : Place} {x : List ℕ} {m : Place} {y : Option (List ℕ)} {k : Place} → Reads (λ _. word ts OpenParen) d p t q → Reads (λ _. ident text ts) d q x m → Reads maybe_dot d m y k →
      Leads (λ _. word ts CloseParen) d k in_parens d p (λ _. (x, y))
  parens_close r s u = step _ point_lawful (w CloseParen) refl (parens_open r) (both_reads pair (ident_lawful text ts) (lawful_maybe dot_lawful refl) refl s u)

  -- and behind them
  pub binsof_ends : {d : Room} {p : Place} {t : Marked} {q : Place} {e : Stop} → Reads (λ _. word ts BinsofWord) d p t q → Fails in_parens d q e → Fails (binsof_in text ts) d p e
  binsof_ends r f = ends pair (dotted_lawful text ts) (lawful_maybe meets_lawful refl) refl (at_binsof r) f

  pub binsof_meets : {d : Room} {p : Place} {t : Marked} {q : Place} {x : List ℕ × Option (List ℕ)} {m : Place} → Reads (λ _. word ts BinsofWord) d p t q → Reads in_parens d q x m →
      Leads maybe_meets d m (binsof_in text ts) d p (λ y. bins_of_token t (x, y))
  binsof_meets r s = step pair (dotted_lawful text ts) (lawful_maybe meets_lawful refl) refl (at_binsof r) s

  -- the same with what `operator` found
  pub or_next : {d : Room} {o : Place} (sofar : Sel) {p : Place} (t : Marked) (q : Place) (f : Option (Marked × Place)) {x : Sel} {k : Place} → f ≡ Some (t, q) → Ors d o sofar p →
      IfSome f (λ y. Reads (λ r. counted ts r.operators (OrOr ∷ [])) d p y.0 y.1) → Reads sand_at d q x k → Ors d o (either_of sofar x) k
  or_next {d = d} sofar {p = p} t q f is l r n = or_read sofar l (subst (λ f. IfSome f (λ y. Reads (λ r. counted ts r.operators (OrOr ∷ [])) d p y.0 y.1)) is r) n

  pub or_breaks : {d : Room} {o : Place} (sofar : Sel) {p : Place} (t : Marked) (q : Place) (f : Option (Marked × Place)) {e : Stop} → f ≡ Some (t, q) → Ors d o sofar p →
      IfSome f (λ y. Reads (λ r. counted ts r.operators (OrOr ∷ [])) d p y.0 y.1) → IfSome f (λ y. y.1.at ≡ p.at + 1) → Fails sand_at d q e → Fails (part_sel text ts) d o e
  or_breaks {d = d} sofar {p = p} t q f is l r more n =
      or_fails sofar l (subst (λ f. IfSome f (λ y. Reads (λ r. counted ts r.operators (OrOr ∷ [])) d p y.0 y.1)) is r) (subst (λ (f : Option (Marked × Place)). IfSome f (λ y. y.1.at ≡ p.at + 1)) is more) n

  pub or_full : {d : Room} {o : Place} (sofar : Sel) {p : Place} (e : Stop) → Ors d o sofar p → e ≡ TooDeep p.at → Fails (λ r. counted ts r.operators (OrOr ∷ [])) d p e → Fails (part_sel text ts) d o e
  or_full {d = d} {o = o} sofar {p = p} e l same f =
      subst (λ z. Fails (part_sel text ts) d o z) (sym same) (or_sinks sofar l (subst (λ z. Fails (λ r. counted ts r.operators (OrOr ∷ [])) d p z) same f))

  pub ors_end : {d : Room} {o : Place} (sofar : Sel) {p : Place} (f : Option (Marked × Place)) → f ≡ None → Ors d o sofar p → IfNone f (In ts p.at (OrOr ∷ []) → ⊥) → Reads (part_sel text ts) d o sofar p
  ors_end sofar {p = p} f is l n = no_or l (subst (λ (f : Option (Marked × Place)). IfNone f (In ts p.at (OrOr ∷ []) → ⊥)) is n)

  pub and_next : {d : Room} {o : Place} (sofar : Sel) {p : Place} (t : Marked) (q : Place) (f : Option (Marked × Place)) {x : Sel} {k : Place} → f ≡ Some (t, q) → Ands d o sofar p →
      IfSome f (λ y. Reads (λ r. counted ts r.operators (AndAnd ∷ [])) d p y.0 y.1) → Reads sunary_at d q x k → Ands d o (both_of sofar x) k
  and_next {d = d} sofar {p = p} t q f is l r n = and_read sofar l (subst (λ f. IfSome f (λ y. Reads (λ r. counted ts r.operators (AndAnd ∷ [])) d p y.0 y.1)) is r) n

  pub and_breaks : {d : Room} {o : Place} (sofar : Sel) {p : Place} (t : Marked) (q : Place) (f : Option (Marked × Place)) {e : Stop} → f ≡ Some (t, q) → Ands d o sofar p →
      IfSome f (λ y. Reads (λ r. counted ts r.operators (AndAnd ∷ [])) d p y.0 y.1) → IfSome f (λ y. y.1.at ≡ p.at + 1) → Fails sunary_at d q e → Fails sand_at d o e
  and_breaks {d = d} sofar {p = p} t q f is l r more n =
      and_fails sofar l (subst (λ f. IfSome f (λ y. Reads (λ r. counted ts r.operators (AndAnd ∷ [])) d p y.0 y.1)) is r) (subst (λ (f : Option (Marked × Place)). IfSome f (λ y. y.1.at ≡ p.at + 1)) is more) n

  pub and_full : {d : Room} {o : Place} (sofar : Sel) {p : Place} (e : Stop) → Ands d o sofar p → e ≡ TooDeep p.at → Fails (λ r. counted ts r.operators (AndAnd ∷ [])) d p e → Fails sand_at d o e
  and_full {d = d} {o = o} sofar {p = p} e l same f =
      subst (λ z. Fails sand_at d o z) (sym same) (and_sinks sofar l (subst (λ z. Fails (λ r. counted ts r.operators (AndAnd ∷ [])) d p z) same f))

  pub ands_end : {d : Room} {o : Place} (sofar : Sel) {p : Place} (f : Option (Marked × Place)) → f ≡ None → Ands d o sofar p → IfNone f (In ts p.at (AndAnd ∷ []) → ⊥) → Reads sand_at d o sofar p
  ands_end sofar {p = p} f is l n = no_and l (subst (λ (f : Option (Marked × Place)). IfNone f (In ts p.at (AndAnd ∷ []) → ⊥)) is n)

  -- an operand behind an operator takes a token at least, so less is left
  pub less_left : {B : Room → Rule Sel} (lb : Lawful ts B) (p : Place) {d : Room} (t : Marked) (q : Place) (f : Option (Marked × Place)) {x : Sel} {k : Place} → f ≡ Some (t, q) → IfSome f (λ y. y.1.at ≡ p.at + 1) → IfSome f (λ y. p.at < length ts) →
      Reads B d q x k → length ts - k.at < length ts - p.at
  less_left lb p t q f is more less n =
      let a = subst (λ (f : Option (Marked × Place)). IfSome f (λ y. y.1.at ≡ p.at + 1)) is more in
      let b = subst (λ (f : Option (Marked × Place)). IfSome f (λ y. p.at < length ts)) is less in
      let o = reads_order lb n in
      omega arith
