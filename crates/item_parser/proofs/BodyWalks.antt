-- Where a reader of a cross's bins and of a body stands, from one part of a rule to the next.
use Rattle.std.proofs.Common.{◌≡◌, ℕ, ◌-◌, ◌<◌, List, [], ◌∷◌, Option, false, length, inl, inr, refl, sym, subst, arith}
use Rattle.cov_tree.specs.declared.expr.Expr.{Expr}
use Rattle.cov_tree.specs.declared.bins.OptDecl.{OptDecl}
use Rattle.cov_tree.specs.declared.groups.Sel.{Sel}
use Rattle.cov_lexer.specs.declared.kind.Kind.{Kind}
use Rattle.cov_lexer.specs.declared.kind.Kind.TheVariants.{OpenBrace, CloseBrace, Semi, Assign}
use Rattle.cov_grammar.specs.declared.marked.Marked.{Marked}
use Rattle.cov_grammar.specs.declared.place.Place.{Place}
use Rattle.cov_grammar.specs.declared.place.Room.{Room}
use Rattle.cov_grammar.specs.declared.place.Stop.{Stop}
use Rattle.cov_grammar.specs.declared.place.Stop.TheVariants.{Memory, Syntax, TooDeep}
use Rattle.cov_grammar.specs.Rule.{Rule, In, one, word, both, either, many, map_to, ahead, behind, maybe}
use Rattle.cov_grammar.specs.Parses.{Reads, Stops, Fails}
use Rattle.cov_grammar.specs.Expressions.{pair}
use Rattle.cov_grammar.specs.Bins.{bins_words, ident, guard, optset}
use Rattle.cov_grammar.specs.Groups.{Entry, Setting, Counting, put, nothing_put, cross_bins_of, sel, cross_bins, body}
use Rattle.cov_grammar.proofs.Sets.{split, In_apart}
use Rattle.cov_grammar.proofs.Lawful.{Lawful, facts_of, lawful_word, lawful_one, lawful_map, lawful_maybe, lawful_many, lawful_both}
use Rattle.cov_grammar.proofs.Compose.{many_stuck, map_reads, both_reads, both_fails, both_then_fails}
use Rattle.cov_grammar.proofs.Steps.{Leads, leads_self, no_start, step, ends, left, right, map_leads, many_next, many_ends, many_breaks, one_fails, reads_more, reads_inside}
use Rattle.cov_grammar.proofs.BinsLaws.{ident_lawful, guard_lawful, optset_lawful}
use Rattle.cov_grammar.proofs.GroupLaws.{option_words, sel_lawful, cross_bins_lawful}
use Rattle.item_parser.specs.Bodies.{BesideOptions}

abbrev Setting' : (A : Type 0) → OptDecl → Entry A
Setting' A o = Setting o

module _ (text : List ℕ) (ts : List Marked) where
  abbrev w : (k : Kind) → Lawful ts (λ _. one ts (k ∷ []))
  w k = lawful_word ts k

  abbrev pub maybe_guard : Room → Rule (Option Expr)
  maybe_guard r = maybe (guard text ts r)

  abbrev maybe_guard_lawful : Lawful ts maybe_guard
  maybe_guard_lawful = lawful_maybe (guard_lawful text ts) refl

  -- cbins = word ident "=" sel [ guard ] ";"
  abbrev pub cross_rest : Room → Rule ((List ℕ × Sel) × Option Expr)
  cross_rest r = behind (both pair (both pair (ident text ts) (ahead (word ts Assign) (sel text ts r))) (maybe_guard r)) (word ts Semi)

  abbrev assigned_lawful : Lawful ts (λ r. ahead (word ts Assign) (sel text ts r))
  assigned_lawful = lawful_both _ (w Assign) (sel_lawful text ts) refl

  abbrev pub named_sel : Room → Rule (List ℕ × Sel)
  named_sel r = both pair (ident text ts) (ahead (word ts Assign) (sel text ts r))

  abbrev named_sel_lawful : Lawful ts named_sel
  named_sel_lawful = lawful_both pair (ident_lawful text ts) assigned_lawful refl

  abbrev pub guarded_sel : Room → Rule ((List ℕ × Sel) × Option Expr)
  guarded_sel r = both pair (named_sel r) (maybe_guard r)

  abbrev guarded_sel_lawful : Lawful ts guarded_sel
  guarded_sel_lawful = lawful_both pair named_sel_lawful maybe_guard_lawful refl

  abbrev cross_rest_lawful : Lawful ts cross_rest
  cross_rest_lawful = lawful_both _ guarded_sel_lawful (w Semi) refl

  pub no_bins_word : {d : Room} {p : Place} → (In ts p.at bins_words → ⊥) → Fails (cross_bins text ts) d p (Syntax p.at)
  no_bins_word n = no_start (cross_bins_lawful text ts) refl n

  pub cross_rests : {d : Room} {p : Place} {t : Marked} {q : Place} → Reads (λ _. one ts bins_words) d p t q → Leads cross_rest d q (cross_bins text ts) d p (cross_bins_of text t)
  unfolding cross_bins
  cross_rests {d = d} {p = p} r = step (cross_bins_of text) (lawful_one ts bins_words) cross_rest_lawful refl (leads_self (cross_bins text ts) d p) r

  pub named_unnamed : {d : Room} {p : Place} {e : Stop} → Fails (λ _. ident text ts) d p e → Fails cross_rest d p e
  named_unnamed f = both_fails _ guarded_sel_lawful (w Semi) refl (both_fails pair named_sel_lawful maybe_guard_lawful refl (both_fails pair (ident_lawful text ts) assigned_lawful refl f))

  pub named_unassigned : {d : Room} {p : Place} {x : List ℕ} {q : Place} {e : Stop} → Reads (λ _. ident text ts) d p x q → Fails (λ _. word ts Assign) d q e → Fails cross_rest d p e
  named_unassigned r f = both_fails _ guarded_sel_lawful (w Semi) refl (both_fails pair named_sel_lawful maybe_guard_lawful refl (both_then_fails pair (ident_lawful text ts) assigned_lawful refl r (both_fails _ (w Assign) (sel_lawful text ts) refl f)))

  pub named_unselected : {d : Room} {p : Place} {x : List ℕ} {q : Place} {t : Marked} {m : Place} {e : Stop} → Reads (λ _. ident text ts) d p x q → Reads (λ _. word ts Assign) d q t m → Fails (sel text ts) d m e → Fails cross_rest d p e
  named_unselected r s f = both_fails _ guarded_sel_lawful (w Semi) refl (both_fails pair named_sel_lawful maybe_guard_lawful refl (both_then_fails pair (ident_lawful text ts) assigned_lawful refl r (both_then_fails _ (w Assign) (sel_lawful text ts) refl s f)))

  pub named_selects : {d : Room} {p : Place} {x : List ℕ} {q : Place} {t : Marked} {m : Place} {y : Sel} {k : Place} → Reads (λ _. ident text ts) d p x q → Reads (λ _. word ts Assign) d q t m → Reads (sel text ts) d m y k → Reads named_sel d p (x, y) k
  named_selects r s u = both_reads pair (ident_lawful text ts) assigned_lawful refl r (both_reads _ (w Assign) (sel_lawful text ts) refl s u)

  pub named_unguarded : {d : Room} {p : Place} {x : List ℕ × Sel} {q : Place} {e : Stop} → Reads named_sel d p x q → Fails maybe_guard d q e → Fails cross_rest d p e
  named_unguarded r f = both_fails _ guarded_sel_lawful (w Semi) refl (both_then_fails pair named_sel_lawful maybe_guard_lawful refl r f)

  pub named_ends : {d : Room} {p : Place} {x : List ℕ × Sel} {q : Place} {y : Option Expr} {m : Place} → Reads named_sel d p x q → Reads maybe_guard d q y m → Leads (λ _. word ts Semi) d m cross_rest d p (λ _. (x, y))
  named_ends {d = d} {p = p} r s = step _ guarded_sel_lawful (w Semi) refl (leads_self cross_rest d p) (both_reads pair named_sel_lawful maybe_guard_lawful refl r s)

  -- optset | X
  abbrev pub entry : {A : Type 0} → (Room → Rule A) → Room → Rule (Entry A)
  entry X r = either (map_to Setting (optset text ts r)) (map_to Counting (X r))

  -- ";" | "{" { optset | X } "}"
  module _ {A : Type 0} (X : Room → Rule A) where
    abbrev pub whole_body : Room → Rule (List OptDecl × List A)
    whole_body r = body text ts (X r) r

    abbrev pub braces : Room → Rule (List OptDecl × List A)
    braces r = behind (many put (entry X r) nothing_put) (word ts CloseBrace)

    -- in the braces, with these entries read
    pub record InBody (d : Room) (o : Place) (lists : List OptDecl × List A) (p : Place) : Type 0 where
      pub opened : Place
      pub outer : Leads braces d opened whole_body d o (λ x. x)
      pub entries : Leads (λ r. many put (entry X r) lists) d p (λ r. many put (entry X r) nothing_put) d opened (λ x. x)

  module _ {A : Type 0} {X : Room → Rule A} (b : BesideOptions text ts X) where
    abbrev entries_lawful : Lawful ts (λ r. many put (entry X r) nothing_put)
    entries_lawful = lawful_many b.entries put b.filled b.again nothing_put

    abbrev braces_lawful : Lawful ts (braces X)
    braces_lawful = lawful_both _ entries_lawful (w CloseBrace) b.shut

    abbrev braced_lawful : Lawful ts (λ r. ahead (word ts OpenBrace) (braces X r))
    braced_lawful = lawful_both _ (w OpenBrace) braces_lawful refl

    pub body_semi : {d : Room} {p : Place} {t : Marked} {q : Place} → In ts p.at (Semi ∷ []) → Reads (λ _. word ts Semi) d p t q → Reads (whole_body X) d p ([], []) q
    unfolding body
    body_semi {d = d} {p = p} h r = (left (lawful_map (w Semi) _) braced_lawful refl refl (leads_self (whole_body X) d p) h).reads (map_reads _ (w Semi) r)

    no_semi : {d : Room} {p : Place} → (In ts p.at (Semi ∷ []) → ⊥) → Leads (λ r. ahead (word ts OpenBrace) (braces X r)) d p (whole_body X) d p (λ x. x)
    unfolding body
    no_semi {d = d} {p = p} n = right (lawful_map (w Semi) (λ _. nothing_put)) braced_lawful refl refl (leads_self (whole_body X) d p) refl n

    pub no_body : {d : Room} {p : Place} {e : Stop} → (In ts p.at (Semi ∷ []) → ⊥) → Fails (λ _. word ts OpenBrace) d p e → Fails (whole_body X) d p e
    no_body n f = ends _ (w OpenBrace) braces_lawful refl (no_semi n) f

    pub body_opens : {d : Room} {p : Place} {t : Marked} {q : Place} → (In ts p.at (Semi ∷ []) → ⊥) → Reads (λ _. word ts OpenBrace) d p t q → InBody X d p ([], []) q
    body_opens {d = d} {q = q} n r = record {
      opened = q;
      outer = step _ (w OpenBrace) braces_lawful refl (no_semi n) r;
      entries = leads_self (λ r. many put (entry X r) nothing_put) d q;
    }

    pub entry_read : {d : Room} {o : Place} (lists more : List OptDecl × List A) {p : Place} {x : Entry A} {q : Place} → InBody X d o lists p → Reads (entry X) d p x q → more ≡ put lists x → InBody X d o more q
    entry_read {d = d} {o = o} lists more {q = q} i r e =
        subst (λ (m : List OptDecl × List A). InBody X d o m q) (sym e) (record { opened = i.opened; outer = i.outer; entries = many_next put b.entries b.filled b.again lists i.entries r })

    pub entry_stops : {d : Room} {o : Place} (lists : List OptDecl × List A) {p : Place} (e : Stop) → InBody X d o lists p → (In ts p.at (CloseBrace ∷ []) → ⊥) → Fails (entry X) d p e → Fails (whole_body X) d o e
    entry_stops lists Memory i n f = record { cause = tt }
    entry_stops {d = d} {o = o} lists {p = p} (Syntax k) i n f =
        elim (split k p.at ((facts_of b.entries d).order p k f.cause.begins)) [
          | inl e ↦ (let stuck : Stops (entry X) d p p.at = subst (λ m. Stops (entry X) d p m) e f.cause in
              subst (λ m. Fails (whole_body X) d o (Syntax m)) (sym e)
              ((step _ entries_lawful (w CloseBrace) b.shut i.outer (i.entries.reads (many_stuck put b.entries b.filled b.again lists stuck))).fails (one_fails ts (CloseBrace ∷ []) d p n)))
          | inr past ↦ ends _ entries_lawful (w CloseBrace) b.shut i.outer (many_breaks put b.entries b.filled b.again lists i.entries past f)
        ]
    entry_stops lists (TooDeep k) i n f = ends _ entries_lawful (w CloseBrace) b.shut i.outer (many_breaks put b.entries b.filled b.again lists i.entries tt f)

    pub body_closes : {d : Room} {o : Place} (lists : List OptDecl × List A) {p : Place} {t : Marked} {q : Place} → InBody X d o lists p → In ts p.at (CloseBrace ∷ []) → Reads (λ _. word ts CloseBrace) d p t q → Reads (whole_body X) d o lists q
    body_closes lists {p = p} i h r =
        (step _ entries_lawful (w CloseBrace) b.shut i.outer (many_ends put b.entries b.filled b.again lists i.entries (λ k. In_apart ts p.at b.entries.first (CloseBrace ∷ []) b.closed k h))).reads r

    abbrev setting_lawful : Lawful ts (λ r. map_to (Setting' A) (optset text ts r))
    setting_lawful = lawful_map (optset_lawful text ts) (Setting' A)

    abbrev counting_lawful : Lawful ts (λ r. map_to Counting (X r))
    counting_lawful = lawful_map b.lawful Counting

    pub option_leads : {d : Room} {p : Place} → In ts p.at option_words → Leads (optset text ts) d p (entry X) d p (Setting' A)
    option_leads {d = d} {p = p} h = map_leads (Setting' A) (optset_lawful text ts) (left setting_lawful counting_lawful b.full b.other (leads_self (entry X) d p) h)

    pub declaration_leads : {d : Room} {p : Place} → (In ts p.at option_words → ⊥) → Leads X d p (entry X) d p (λ x. Counting x)
    declaration_leads {d = d} {p = p} n = map_leads Counting b.lawful (right setting_lawful counting_lawful b.full b.other (leads_self (entry X) d p) refl n)

  pub entry_falls : {A : Type 0} {X : Room → Rule A} (lx : Lawful ts X) → lx.null ≡ false → {d : Room} {p : Place} {x : A} {q : Place} → Reads X d p x q → length ts - q.at < length ts - p.at
  entry_falls lx full r = let l = reads_more lx full r in let i = reads_inside lx r l in omega arith
