-- Where a reader of declarations stands, from one part of a rule to the next.
use Rattle.std.proofs.Common.{◌≡◌, ℕ, ◌+◌, ◌<◌, List, [], ◌∷◌, ◌++◌, Option, Some, None, Result, false, length, get_or, take, refl, sym, ◌∙◌, ap, subst, inl, inr, arith, IfOk, IfErr}
use Rattle.std.proofs.lemmas.Result.{err_from_is_err_and}
use Rattle.std.specs.Result.{IsErrAnd}
use Rattle.std.proofs.lemmas.List.{map-append, take_more}
use Rattle.cov_tree.specs.declared.expr.Expr.{Expr}
use Rattle.cov_tree.specs.declared.declarations.TypeText.{TypeText}
use Rattle.cov_tree.specs.declared.declarations.Decl.{Decl}
use Rattle.cov_lexer.specs.declared.kind.Kind.{Kind}
use Rattle.cov_lexer.specs.declared.kind.Kind.TheVariants.{Ident, TypedefWord, EnumWord, NewWord, OpenParen, CloseParen, OpenBrace, CloseBrace, Comma, Semi, Assign}
use Rattle.cov_grammar.specs.declared.marked.Marked.{Marked}
use Rattle.cov_grammar.specs.declared.place.Place.{Place}
use Rattle.cov_grammar.specs.declared.place.Room.{Room}
use Rattle.cov_grammar.specs.declared.place.Stop.{Stop}
use Rattle.cov_grammar.specs.declared.place.Stop.TheVariants.{Memory, Syntax, TooDeep}
use Rattle.cov_grammar.specs.Rule.{Rule, In, one, word, both, bind, either, many, fold, map_to, ahead, behind, maybe, give}
use Rattle.cov_grammar.specs.Parses.{Reads, Stops, Fails}
use Rattle.cov_grammar.specs.Expressions.{pair, snoc, expr, list_in}
use Rattle.cov_grammar.specs.Bins.{ident}
use Rattle.cov_grammar.specs.Designs.{vector_words, vector_of, named_type, variables, enum_of, arguments_or, instance_of, vector, built_in, enum_name, enum_names, enum_decl, built_in_decl, arguments, instance_rest, variables_rest, named_decl}
use Rattle.cov_grammar.proofs.Sets.{split, In_apart}
use Rattle.cov_grammar.proofs.Lawful.{Lawful, Lawfuls, facts_of, lawful_word, lawful_map, lawful_maybe, lawful_many, lawful_both, lawful_fold}
use Rattle.cov_grammar.proofs.Compose.{Past, both_reads, both_fails, both_then_fails, maybe_some, maybe_fails}
use Rattle.cov_grammar.proofs.Steps.{Leads, leads_self, both_opens, one_here, one_fails, step, ends, bind_step, bind_ends, map_leads, without, maybe_step, left, right, one_next}
use Rattle.cov_grammar.proofs.ExprLaws.{expr_firsts}
use Rattle.cov_grammar.proofs.BinsLaws.{ident_lawful}
use Rattle.cov_grammar.proofs.DesignLaws.{vector_lawful, built_in_lawful, value_lawful, enum_names_lawful, enum_body_lawful, enum_rest_lawful, more_name_lawful, expr_list_lawful, arguments_lawful, instance_rest_lawful, variables_rest_lawful, two_names_lawful, named_rest_lawful}
use Rattle.token_reader.proofs.Chains.{chain_first, chain_fails}

-- where a part stops at its beginning, it is left out
pub maybe_stuck : {T : Type 0} {ts : List Marked} {A : Room → Rule T} (la : Lawful ts A) {d : Room} {p : Place} → Stops A d p p.at → Reads (λ e. maybe (A e)) d p None p
unfolding maybe either give map_to bind
maybe_stuck la {p = p} c = record {
  derives = inl (refl, refl);
  reach = λ e n h. elim h [
    | inl g ↦ omega (arith, g)
    | inr g ↦ elim g [
      | inl b ↦ c.reach e n b
      | inr x ↦ (let w = (facts_of la e).whole p x.0 x.1 x.2 in let r = c.reach e x.1.at w in let y = x.3 in omega arith)
    ]
  ];
}

module _ (text : List ℕ) (ts : List Marked) where
  abbrev w : (k : Kind) → Lawful ts (λ _. one ts (k ∷ []))
  w k = lawful_word ts k

  -- a vector whose word stands there
  vector_past : {d : Room} {p : Place} (e : Stop) → In ts p.at vector_words → Fails (vector text ts) d p e → Past p e
  unfolding vector
  vector_past Memory h f = tt
  vector_past {d = d} {p = p} (Syntax k) h f = let o = f.cause.reach d (p.at + 1) (both_opens vector_of ts vector_words _ p h) in omega arith
  vector_past (TooDeep k) h f = tt

  abbrev pub maybe_vector : Room → Rule (Option TypeText)
  maybe_vector r = maybe (vector text ts r)

  pub no_vector_there : {d : Room} {p : Place} → (In ts p.at vector_words → ⊥) → Reads maybe_vector d p None p
  no_vector_there {d = d} {p = p} n = without (vector_lawful text ts) refl (leads_self maybe_vector d p) n

  pub vector_read : {d : Room} {p : Place} {t : TypeText} {q : Place} → Reads (vector text ts) d p t q → Reads maybe_vector d p (Some t) q
  vector_read r = maybe_some (vector_lawful text ts) refl r

  pub vector_fails : {d : Room} {p : Place} {e : Stop} → In ts p.at vector_words → Fails (vector text ts) d p e → Fails maybe_vector d p e
  vector_fails {e = e} h f = maybe_fails (vector_lawful text ts) refl (vector_past e h f) f

  -- ename
  pub constant_unnamed : {d : Room} {p : Place} {e : Stop} → Fails (λ _. ident text ts) d p e → Fails (enum_name text ts) d p e
  unfolding enum_name
  constant_unnamed f = both_fails pair (ident_lawful text ts) (value_lawful text ts) refl f

  pub constant_values : {d : Room} {p : Place} {x : List ℕ} {q : Place} → Reads (λ _. ident text ts) d p x q → Leads (λ r. maybe (ahead (word ts Assign) (expr text ts r))) d q (enum_name text ts) d p (λ v. (x, v))
  unfolding enum_name
  constant_values {d = d} {p = p} r = step pair (ident_lawful text ts) (value_lawful text ts) refl (leads_self (enum_name text ts) d p) r

  -- expr { "," expr }
  abbrev pub expr_list : Room → Rule (List Expr)
  expr_list r = list_in text ts (expr text ts r)

  -- [ "(" [ expr { "," expr } ] ")" ]
  abbrev pub maybe_arguments : Room → Rule (Option (Option (List Expr)))
  maybe_arguments r = maybe (arguments text ts r)

  abbrev maybe_list_lawful : Lawful ts (λ r. maybe (expr_list r))
  maybe_list_lawful = lawful_maybe (expr_list_lawful text ts) refl

  abbrev in_parens_lawful : Lawful ts (λ r. behind (maybe (expr_list r)) (word ts CloseParen))
  in_parens_lawful = lawful_both _ maybe_list_lawful (w CloseParen) refl

  pub no_arguments : {d : Room} {p : Place} → (In ts p.at (OpenParen ∷ []) → ⊥) → Reads maybe_arguments d p None p
  no_arguments {d = d} {p = p} n = without (arguments_lawful text ts) refl (leads_self maybe_arguments d p) n

  arguments_open : {d : Room} {p : Place} {t : Marked} {q : Place} → Reads (λ _. word ts OpenParen) d p t q → Leads (λ r. behind (maybe (expr_list r)) (word ts CloseParen)) d q maybe_arguments d p (λ x. Some x)
  unfolding arguments
  arguments_open {d = d} {p = p} r = maybe_step (arguments_lawful text ts) refl in_parens_lawful (leads_self maybe_arguments d p)
      (step _ (w OpenParen) in_parens_lawful refl (leads_self (arguments text ts) d p) r)
      (let n = (one_next ts (OpenParen ∷ []) r).0 in omega arith)

  pub arguments_empty : {d : Room} {p : Place} {t : Marked} {q : Place} {u : Marked} {m : Place} → Reads (λ _. word ts OpenParen) d p t q → Reads (λ _. word ts CloseParen) d q u m → Reads maybe_arguments d p (Some None) m
  arguments_empty {d = d} {q = q} r s = (step _ maybe_list_lawful (w CloseParen) refl (arguments_open r)
      (without (expr_list_lawful text ts) refl (leads_self (λ e. maybe (expr_list e)) d q) (λ v. In_apart ts q.at expr_firsts (CloseParen ∷ []) refl v (one_here ts (CloseParen ∷ []) d q _ _ s)))).reads s

  pub arguments_fail : {d : Room} {p : Place} {t : Marked} {q : Place} (e : Stop) → Reads (λ _. word ts OpenParen) d p t q → (In ts q.at (CloseParen ∷ []) → ⊥) → Fails expr_list d q e → Fails maybe_arguments d p e
  arguments_fail Memory r n f = record { cause = tt }
  arguments_fail {d = d} {p = p} {q = q} (Syntax k) r n f =
      elim (split k q.at ((facts_of (expr_list_lawful text ts) d).order q k f.cause.begins)) [
        | inl e ↦ (let stuck : Stops expr_list d q q.at = subst (λ m. Stops expr_list d q m) e f.cause in
            subst (λ m. Fails maybe_arguments d p (Syntax m)) (sym e)
            ((step _ maybe_list_lawful (w CloseParen) refl (arguments_open r) (maybe_stuck (expr_list_lawful text ts) stuck)).fails (one_fails ts (CloseParen ∷ []) d q n)))
        | inr past ↦ ends _ maybe_list_lawful (w CloseParen) refl (arguments_open r) (maybe_fails (expr_list_lawful text ts) refl past f)
      ]
  arguments_fail (TooDeep k) r n f = ends _ maybe_list_lawful (w CloseParen) refl (arguments_open r) (maybe_fails (expr_list_lawful text ts) refl tt f)

  pub arguments_close : {d : Room} {p : Place} {t : Marked} {q : Place} {xs : List Expr} {m : Place} → Reads (λ _. word ts OpenParen) d p t q → Reads expr_list d q xs m → Leads (λ _. word ts CloseParen) d m maybe_arguments d p (λ _. Some (Some xs))
  arguments_close r s = step _ maybe_list_lawful (w CloseParen) refl (arguments_open r) (maybe_some (expr_list_lawful text ts) refl s)

  -- enumdecl
  abbrev names_closed_lawful : Lawful ts (λ r. behind (enum_names text ts r) (word ts CloseBrace))
  names_closed_lawful = lawful_both _ (enum_names_lawful text ts) (w CloseBrace) refl

  abbrev braces_lawful : Lawful ts (λ r. ahead (word ts OpenBrace) (behind (enum_names text ts r) (word ts CloseBrace)))
  braces_lawful = lawful_both _ (w OpenBrace) names_closed_lawful refl

  abbrev maybe_vector_lawful : Lawful ts maybe_vector
  maybe_vector_lawful = lawful_maybe (vector_lawful text ts) refl

  abbrev based_lawful : Lawful ts (λ r. both pair (maybe_vector r) (ahead (word ts OpenBrace) (behind (enum_names text ts r) (word ts CloseBrace))))
  based_lawful = lawful_both pair maybe_vector_lawful braces_lawful refl

  -- behind "typedef", up to its "}"
  abbrev pub enum_body : Room → Rule (Option TypeText × List (List ℕ × Option Expr))
  enum_body r = ahead (word ts EnumWord) (both pair (maybe_vector r) (ahead (word ts OpenBrace) (behind (enum_names text ts r) (word ts CloseBrace))))

  abbrev name_ends_lawful : Lawful ts (λ _. behind (ident text ts) (word ts Semi))
  name_ends_lawful = lawful_both _ (ident_lawful text ts) (w Semi) refl

  abbrev enum_lawfuls : Lawfuls ts (λ e (t : Marked). both (enum_of t) (enum_body e) (behind (ident text ts) (word ts Semi)))
  enum_lawfuls = record { first = EnumWord ∷ []; cont = []; null = false; sound = λ t. (enum_rest_lawful text ts t).sound }

  pub no_typedef : {d : Room} {p : Place} {e : Stop} → Fails (λ _. word ts TypedefWord) d p e → Fails (enum_decl text ts) d p e
  unfolding enum_decl
  no_typedef {d = d} {p = p} f = bind_ends (w TypedefWord) enum_lawfuls refl (leads_self (enum_decl text ts) d p) f

  enum_rest : {d : Room} {p : Place} {t : Marked} {q : Place} → Reads (λ _. word ts TypedefWord) d p t q → Leads (λ e. both (enum_of t) (enum_body e) (behind (ident text ts) (word ts Semi))) d q (enum_decl text ts) d p (λ x. x)
  unfolding enum_decl
  enum_rest {d = d} {p = p} r = bind_step (w TypedefWord) enum_lawfuls refl (leads_self (enum_decl text ts) d p) r

  pub enum_body_fails : {d : Room} {p : Place} {t : Marked} {q : Place} {e : Stop} → Reads (λ _. word ts TypedefWord) d p t q → Fails enum_body d q e → Fails (enum_decl text ts) d p e
  enum_body_fails {t = t} r f = ends (enum_of t) (enum_body_lawful text ts) name_ends_lawful refl (enum_rest r) f

  pub enum_names_it : {d : Room} {p : Place} {t : Marked} {q : Place} {x : Option TypeText × List (List ℕ × Option Expr)} {m : Place} → Reads (λ _. word ts TypedefWord) d p t q → Reads enum_body d q x m →
      Leads (λ _. behind (ident text ts) (word ts Semi)) d m (enum_decl text ts) d p (enum_of t x)
  enum_names_it {t = t} r b = step (enum_of t) (enum_body_lawful text ts) name_ends_lawful refl (enum_rest r) b

  pub enum_unnamed : {d : Room} {p : Place} {t : Marked} {q : Place} {x : Option TypeText × List (List ℕ × Option Expr)} {m : Place} {e : Stop} → Reads (λ _. word ts TypedefWord) d p t q → Reads enum_body d q x m →
      Fails (λ _. ident text ts) d m e → Fails (enum_decl text ts) d p e
  enum_unnamed r b f = ends _ (ident_lawful text ts) (w Semi) refl (enum_names_it r b) f

  pub enum_ends : {d : Room} {p : Place} {t : Marked} {q : Place} {x : Option TypeText × List (List ℕ × Option Expr)} {m : Place} {n : List ℕ} {k : Place} → Reads (λ _. word ts TypedefWord) d p t q → Reads enum_body d q x m →
      Reads (λ _. ident text ts) d m n k → Leads (λ _. word ts Semi) d k (enum_decl text ts) d p (λ _. enum_of t x n)
  enum_ends r b n = step _ (ident_lawful text ts) (w Semi) refl (enum_names_it r b) n

  -- in that body
  pub no_enum_word : {d : Room} {p : Place} {e : Stop} → Fails (λ _. word ts EnumWord) d p e → Fails enum_body d p e
  no_enum_word f = both_fails _ (w EnumWord) based_lawful refl f

  body_based : {d : Room} {p : Place} {t : Marked} {q : Place} → Reads (λ _. word ts EnumWord) d p t q → Leads (λ r. both pair (maybe_vector r) (ahead (word ts OpenBrace) (behind (enum_names text ts r) (word ts CloseBrace)))) d q enum_body d p (λ x. x)
  body_based {d = d} {p = p} r = step _ (w EnumWord) based_lawful refl (leads_self enum_body d p) r

  pub body_baseless : {d : Room} {p : Place} {t : Marked} {q : Place} {e : Stop} → Reads (λ _. word ts EnumWord) d p t q → Fails maybe_vector d q e → Fails enum_body d p e
  body_baseless r f = ends pair maybe_vector_lawful braces_lawful refl (body_based r) f

  body_braces : {d : Room} {p : Place} {t : Marked} {q : Place} {b : Option TypeText} {m : Place} → Reads (λ _. word ts EnumWord) d p t q → Reads maybe_vector d q b m → Leads (λ r. ahead (word ts OpenBrace) (behind (enum_names text ts r) (word ts CloseBrace))) d m enum_body d p (λ x. (b, x))
  body_braces r s = step pair maybe_vector_lawful braces_lawful refl (body_based r) s

  pub body_unopened : {d : Room} {p : Place} {t : Marked} {q : Place} {b : Option TypeText} {m : Place} {e : Stop} → Reads (λ _. word ts EnumWord) d p t q → Reads maybe_vector d q b m → Fails (λ _. word ts OpenBrace) d m e → Fails enum_body d p e
  body_unopened r s f = ends _ (w OpenBrace) names_closed_lawful refl (body_braces r s) f

  body_opens : {d : Room} {p : Place} {t : Marked} {q : Place} {b : Option TypeText} {m : Place} {u : Marked} {k : Place} → Reads (λ _. word ts EnumWord) d p t q → Reads maybe_vector d q b m → Reads (λ _. word ts OpenBrace) d m u k →
      Leads (λ r. behind (enum_names text ts r) (word ts CloseBrace)) d k enum_body d p (λ x. (b, x))
  body_opens r s o = step _ (w OpenBrace) names_closed_lawful refl (body_braces r s) o

  pub body_constantless : {d : Room} {p : Place} {t : Marked} {q : Place} {b : Option TypeText} {m : Place} {u : Marked} {k : Place} {e : Stop} → Reads (λ _. word ts EnumWord) d p t q → Reads maybe_vector d q b m → Reads (λ _. word ts OpenBrace) d m u k →
      Fails (enum_names text ts) d k e → Fails enum_body d p e
  body_constantless r s o f = ends _ (enum_names_lawful text ts) (w CloseBrace) refl (body_opens r s o) f

  pub body_closes : {d : Room} {p : Place} {t : Marked} {q : Place} {b : Option TypeText} {m : Place} {u : Marked} {k : Place} {xs : List (List ℕ × Option Expr)} {n : Place} → Reads (λ _. word ts EnumWord) d p t q → Reads maybe_vector d q b m → Reads (λ _. word ts OpenBrace) d m u k →
      Reads (enum_names text ts) d k xs n → Leads (λ _. word ts CloseBrace) d n enum_body d p (λ _. (b, xs))
  body_closes r s o x = step _ (enum_names_lawful text ts) (w CloseBrace) refl (body_opens r s o) x

  -- { "," ident } behind the first names
  abbrev pub more : List Marked → Rule (List Marked)
  more xs = many snoc (ahead (word ts Comma) (word ts Ident)) xs

  -- vardecl, where the type is no name
  abbrev names : Rule (List Marked)
  names = fold snoc (map_to (λ t. t ∷ []) (word ts Ident)) (ahead (word ts Comma) (word ts Ident))

  abbrev names_lawful : Lawful ts (λ _. names)
  names_lawful = lawful_fold snoc (lawful_map (w Ident) _) (more_name_lawful text ts) refl refl refl

  abbrev names_end_lawful : Lawful ts (λ _. behind names (word ts Semi))
  names_end_lawful = lawful_both _ names_lawful (w Semi) refl

  pub untyped : {d : Room} {p : Place} {e : Stop} → Fails (built_in text ts) d p e → Fails (built_in_decl text ts) d p e
  unfolding built_in_decl
  untyped {d = d} {p = p} f = ends (variables text) (built_in_lawful text ts) names_end_lawful refl (leads_self (built_in_decl text ts) d p) f

  pub typed_names : {d : Room} {p : Place} {t : TypeText} {q : Place} → Reads (built_in text ts) d p t q → Leads (λ _. behind names (word ts Semi)) d q (built_in_decl text ts) d p (variables text t)
  unfolding built_in_decl
  typed_names {d = d} {p = p} r = step (variables text) (built_in_lawful text ts) names_end_lawful refl (leads_self (built_in_decl text ts) d p) r

  abbrev pub names_end : Rule (List Marked)
  names_end = behind names (word ts Semi)

  pub names_none : {d : Room} {p : Place} {e : Stop} → Fails (λ _. word ts Ident) d p e → Fails (λ _. names_end) d p e
  names_none f = both_fails _ names_lawful (w Semi) refl (chain_fails (w Ident) snoc (Comma ∷ []) refl f)

  pub names_break : {d : Room} {p : Place} {x : Marked} {m : Place} {e : Stop} → Reads (λ _. word ts Ident) d p x m → Fails (λ _. more (x ∷ [])) d m e → Fails (λ _. names_end) d p e
  names_break s f = both_fails _ names_lawful (w Semi) refl ((chain_first (w Ident) snoc (Comma ∷ []) refl s refl).fails f)

  pub names_close : {d : Room} {p : Place} {x : Marked} {m : Place} {xs : List Marked} {k : Place} → Reads (λ _. word ts Ident) d p x m → Reads (λ _. more (x ∷ [])) d m xs k → Leads (λ _. word ts Semi) d k (λ _. names_end) d p (λ _. xs)
  names_close {d = d} {p = p} s n = step _ names_lawful (w Semi) refl (leads_self (λ _. names_end) d p) ((chain_first (w Ident) snoc (Comma ∷ []) refl s refl).reads n)

  -- an instance, or variables whose type is a name
  abbrev named_lawfuls : Lawfuls ts (λ e (p : Marked × Marked). either (instance_rest text ts p e) (variables_rest text ts p))
  named_lawfuls = record { first = Assign ∷ Comma ∷ Semi ∷ []; cont = []; null = false; sound = λ p. (named_rest_lawful text ts p).sound }

  pub no_first_name : {d : Room} {p : Place} {e : Stop} → Fails (λ _. word ts Ident) d p e → Fails (named_decl text ts) d p e
  unfolding named_decl
  no_first_name {d = d} {p = p} f = bind_ends (two_names_lawful text ts) named_lawfuls refl (leads_self (named_decl text ts) d p) (both_fails pair (w Ident) (w Ident) refl f)

  pub no_second_name : {d : Room} {p : Place} {a : Marked} {q : Place} {e : Stop} → Reads (λ _. word ts Ident) d p a q → Fails (λ _. word ts Ident) d q e → Fails (named_decl text ts) d p e
  unfolding named_decl
  no_second_name {d = d} {p = p} r f = bind_ends (two_names_lawful text ts) named_lawfuls refl (leads_self (named_decl text ts) d p) (both_then_fails pair (w Ident) (w Ident) refl r f)

  named_rest : {d : Room} {p : Place} {a : Marked} {q : Place} {b : Marked} {m : Place} → Reads (λ _. word ts Ident) d p a q → Reads (λ _. word ts Ident) d q b m →
      Leads (λ e. either (instance_rest text ts (a, b) e) (variables_rest text ts (a, b))) d m (named_decl text ts) d p (λ x. x)
  unfolding named_decl
  named_rest {d = d} {p = p} r s = bind_step (two_names_lawful text ts) named_lawfuls refl (leads_self (named_decl text ts) d p) (both_reads pair (w Ident) (w Ident) refl r s)

  abbrev more_lawful : (xs : List Marked) → Lawful ts (λ _. more xs)
  more_lawful xs = lawful_many (more_name_lawful text ts) snoc refl refl xs

  abbrev more_end_lawful : (xs : List Marked) → Lawful ts (λ _. behind (more xs) (word ts Semi))
  more_end_lawful xs = lawful_both _ (more_lawful xs) (w Semi) refl

  named_variables : {d : Room} {p : Place} {a : Marked} {q : Place} {b : Marked} {m : Place} → Reads (λ _. word ts Ident) d p a q → Reads (λ _. word ts Ident) d q b m → (In ts m.at (Assign ∷ []) → ⊥) →
      Leads (λ _. behind (more (b ∷ [])) (word ts Semi)) d m (named_decl text ts) d p (variables text (named_type text a))
  unfolding variables_rest
  named_variables {a = a} {b = b} r s n = map_leads (variables text (named_type text a)) (more_end_lawful (b ∷ [])) (right (instance_rest_lawful text ts (a, b)) (variables_rest_lawful text ts (a, b)) refl refl (named_rest r s) refl n)

  pub named_more_fails : {d : Room} {p : Place} {a : Marked} {q : Place} {b : Marked} {m : Place} {e : Stop} → Reads (λ _. word ts Ident) d p a q → Reads (λ _. word ts Ident) d q b m → (In ts m.at (Assign ∷ []) → ⊥) → Fails (λ _. more (b ∷ [])) d m e → Fails (named_decl text ts) d p e
  named_more_fails {b = b} r s n f = ends _ (more_lawful (b ∷ [])) (w Semi) refl (named_variables r s n) f

  pub named_ends : {d : Room} {p : Place} {a : Marked} {q : Place} {b : Marked} {m : Place} {xs : List Marked} {k : Place} → Reads (λ _. word ts Ident) d p a q → Reads (λ _. word ts Ident) d q b m → (In ts m.at (Assign ∷ []) → ⊥) → Reads (λ _. more (b ∷ [])) d m xs k →
      Leads (λ _. word ts Semi) d k (named_decl text ts) d p (λ _. variables text (named_type text a) xs)
  named_ends {b = b} r s n x = step _ (more_lawful (b ∷ [])) (w Semi) refl (named_variables r s n) x

  abbrev maybe_arguments_lawful : Lawful ts maybe_arguments
  maybe_arguments_lawful = lawful_maybe (arguments_lawful text ts) refl

  abbrev made_end_lawful : Lawful ts (λ r. behind (maybe_arguments r) (word ts Semi))
  made_end_lawful = lawful_both _ maybe_arguments_lawful (w Semi) refl

  abbrev made_lawful : Lawful ts (λ r. ahead (word ts NewWord) (behind (maybe_arguments r) (word ts Semi)))
  made_lawful = lawful_both _ (w NewWord) made_end_lawful refl

  instance_new : {d : Room} {p : Place} {a : Marked} {q : Place} {b : Marked} {m : Place} {t : Marked} {k : Place} → Reads (λ _. word ts Ident) d p a q → Reads (λ _. word ts Ident) d q b m → Reads (λ _. word ts Assign) d m t k →
      Leads (λ r. ahead (word ts NewWord) (behind (maybe_arguments r) (word ts Semi))) d k (named_decl text ts) d p (λ x. instance_of text (a, b) (arguments_or x))
  unfolding instance_rest
  instance_new {d = d} {a = a} {b = b} {m = m} r s u = step _ (w Assign) made_lawful refl (map_leads (λ x. instance_of text (a, b) (arguments_or x)) (lawful_both _ (w Assign) made_lawful refl)
      (left (instance_rest_lawful text ts (a, b)) (variables_rest_lawful text ts (a, b)) refl refl (named_rest r s) (one_here ts (Assign ∷ []) d m _ _ u))) u

  pub instance_no_new : {d : Room} {p : Place} {a : Marked} {q : Place} {b : Marked} {m : Place} {t : Marked} {k : Place} {e : Stop} → Reads (λ _. word ts Ident) d p a q → Reads (λ _. word ts Ident) d q b m → Reads (λ _. word ts Assign) d m t k →
      Fails (λ _. word ts NewWord) d k e → Fails (named_decl text ts) d p e
  instance_no_new r s u f = ends _ (w NewWord) made_end_lawful refl (instance_new r s u) f

  instance_made : {d : Room} {p : Place} {a : Marked} {q : Place} {b : Marked} {m : Place} {t : Marked} {k : Place} {v : Marked} {n : Place} → Reads (λ _. word ts Ident) d p a q → Reads (λ _. word ts Ident) d q b m → Reads (λ _. word ts Assign) d m t k →
      Reads (λ _. word ts NewWord) d k v n → Leads (λ r. behind (maybe_arguments r) (word ts Semi)) d n (named_decl text ts) d p (λ x. instance_of text (a, b) (arguments_or x))
  instance_made r s u v = step _ (w NewWord) made_end_lawful refl (instance_new r s u) v

  pub instance_unmade : {d : Room} {p : Place} {a : Marked} {q : Place} {b : Marked} {m : Place} {t : Marked} {k : Place} {v : Marked} {n : Place} {e : Stop} → Reads (λ _. word ts Ident) d p a q → Reads (λ _. word ts Ident) d q b m → Reads (λ _. word ts Assign) d m t k →
      Reads (λ _. word ts NewWord) d k v n → Fails maybe_arguments d n e → Fails (named_decl text ts) d p e
  instance_unmade r s u v f = ends _ maybe_arguments_lawful (w Semi) refl (instance_made r s u v) f

  pub instance_ends : {d : Room} {p : Place} {a : Marked} {q : Place} {b : Marked} {m : Place} {t : Marked} {k : Place} {v : Marked} {n : Place} {x : Option (Option (List Expr))} {o : Place} → Reads (λ _. word ts Ident) d p a q → Reads (λ _. word ts Ident) d q b m → Reads (λ _. word ts Assign) d m t k →
      Reads (λ _. word ts NewWord) d k v n → Reads maybe_arguments d n x o → Leads (λ _. word ts Semi) d o (named_decl text ts) d p (λ _. instance_of text (a, b) (arguments_or x))
  instance_ends r s u v x = step _ maybe_arguments_lawful (w Semi) refl (instance_made r s u v) x

-- one variable more of the type
pub variables_more : (text : List ℕ) (typ other : TypeText) (names : List Marked) (i : ℕ) (t : Marked) (decls : List Decl) (d : Decl) → other ≡ typ → decls ≡ variables text typ (take i names) → i < length names → get_or names i t ≡ t →
    d ∷ [] ≡ variables text other (t ∷ []) → decls ++ d ∷ [] ≡ variables text typ (take (i + 1) names)
variables_more text typ other names i t decls d same e l g h =
    let a : take (i + 1) names ≡ take i names ++ t ∷ [] = take_more names i t l ∙ ap (λ (x : Marked). take i names ++ x ∷ []) g in
    let b : variables text typ (take i names ++ t ∷ []) ≡ variables text typ (take i names) ++ variables text typ (t ∷ []) = map-append _ (take i names) (t ∷ []) in
    let k : d ∷ [] ≡ variables text typ (t ∷ []) = subst (λ (x : TypeText). d ∷ [] ≡ variables text x (t ∷ [])) same h in
    ap (λ (x : List Decl). x ++ d ∷ []) e ∙ ap (λ (y : List Decl). variables text typ (take i names) ++ y) k ∙ sym b ∙ ap (λ (ns : List Marked). variables text typ ns) (sym a)

-- the exit of a `?` of a call whose answers are told of
pub err_given : {X E : Type 0} (r : Result X E) (s : E) (P : E → Type 0) → IsErrAnd r (λ e. e ≡ s) → P s → IfErr r P
err_given r s P h p =
    let x = err_from_is_err_and r h in
    rw (x.1, x.2) p

pub ok_none : {X E : Type 0} (r : Result X E) (s : E) (P : X → Type 0) → IsErrAnd r (λ e. e ≡ s) → IfOk r P
ok_none r s P h =
    let x = err_from_is_err_and r h in
    rw x.1 tt

pub memory_fails : {T : Type 0} (F : Room → Rule T) (d : Room) (p : Place) (s : Stop) → s ≡ Memory → Fails F d p s
memory_fails F d p s e = rw e (record { cause = tt })
