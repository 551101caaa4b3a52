-- Where a reader of covergroups stands, from one part of a rule to the next.
use Rattle.std.proofs.Common.{◌≡◌, ℕ, suc, ◌+◌, List, [], ◌∷◌, ◌++◌, codes, slice_get, length, ◌-◌, Option, Some, None, Bool, true, false, not, ◌&&◌, eqb, inl, inr, refl, sym, ◌∙◌, ap, subst, arith}
use Rattle.cov_tree.specs.declared.expr.Expr.{Expr}
use Rattle.cov_tree.specs.declared.groups.Member.{Member}
use Rattle.cov_tree.specs.declared.groups.Formal.{Formal}
use Rattle.cov_tree.specs.declared.groups.EdgeText.{EdgeText}
use Rattle.cov_tree.specs.declared.declarations.TypeText.{TypeText}
use Rattle.cov_lexer.specs.declared.kind.Kind.{Kind}
use Rattle.cov_lexer.specs.declared.kind.Kind.TheVariants.{Ident, CovergroupWord, EndgroupWord, WithWord, OtherWord, InputWord, OpenParen, CloseParen, Semi, Colon, AtSign, Assign}
use Rattle.cov_grammar.specs.declared.marked.Marked.{Marked}
use Rattle.cov_grammar.specs.declared.place.Place.{Place}
use Rattle.cov_grammar.specs.declared.place.Room.{Room}
use Rattle.cov_grammar.specs.declared.place.Stop.{Stop}
use Rattle.cov_grammar.specs.declared.place.Stop.TheVariants.{Memory, Syntax, TooDeep}
use Rattle.cov_grammar.specs.Rule.{Rule, In, one, word, same_word, offset, both, either, map_to, ahead, behind, maybe}
use Rattle.cov_grammar.specs.Parses.{Reads, Stops, Fails}
use lib.Pointwise.{pointwise}
use Rattle.std.proofs.lemmas.Bool.{eqb-true}
use Rattle.std.proofs.lemmas.Grind.{common_steps}
use Rattle.cov_grammar.specs.Expressions.{pair, expr}
use Rattle.cov_grammar.specs.Bins.{ident}
use Rattle.cov_grammar.specs.Designs.{list_or, Written, written, with_formal, last_is_ref, is_ref_or, argument_of, by_event, by_function, sampling_or, group_of, type_text, formal, formal_list, formals, event, argument, argument_list, argument_parens, sampled, sampling, members, group_end, group}
use Rattle.cov_grammar.proofs.Sets.{disjoint, and_true, split, In_apart}
use Rattle.cov_grammar.proofs.Lawful.{Lawful, Lawfuls, facts_of, lawful_word, lawful_one, lawful_here, lawful_same_word, lawful_map, lawful_maybe, lawful_both}
use Rattle.cov_grammar.proofs.Compose.{map_reads, both_reads, both_fails, both_then_fails, maybe_none, maybe_some, maybe_fails}
use Rattle.cov_grammar.proofs.Steps.{Leads, leads_self, here_reads, one_fails, one_next, step, ends, bind_step, bind_ends, left, right, map_leads, without, maybe_step}
use Rattle.cov_grammar.proofs.BinsLaws.{ident_lawful}
use Rattle.cov_grammar.proofs.DesignLaws.{directions, type_text_lawful, value_lawful, formal_rest_lawful, formal_list_lawful, formal_parens_lawful, formals_lawful, event_lawful, argument_type_lawful, argument_rest_lawful, argument_list_lawful, argument_parens_lawful, sample_lawful, function_lawful, sampled_lawful, event_or_sampled_lawful, sampling_lawful, members_lawful, group_end_lawful, group_head_lawful, group_body_lawful, group_rest_lawful}
use Rattle.item_parser.proofs.DeclWalks.{maybe_stuck}
use Rattle.item_parser.proofs.MemberWalks.{In_split, edge_parens, in_parens_lawful}

-- pieces of a text that are compared byte by byte
and_parts : (a b : Bool) → (a && b) ≡ true → (a ≡ true) × (b ≡ true)
and_parts true b h = (refl, h)
and_parts false b h = (h, absurd (cc))

pointwise_equal : (xs ys : List ℕ) → pointwise eqb xs ys ≡ true → xs ≡ ys
pointwise_equal [] [] h = refl
pointwise_equal [] (y ∷ ys) h = absurd (cc)
pointwise_equal (x ∷ xs) [] h = absurd (cc)
pointwise_equal (x ∷ xs) (y ∷ ys) h =
    let p = and_parts (eqb x y) (pointwise eqb xs ys) h in
    let a = eqb-true x y p.0 in
    let b = pointwise_equal xs ys p.1 in
    cc

pointwise_self : (xs : List ℕ) → pointwise eqb xs xs ≡ true
pointwise_self [] = refl
pointwise_self (x ∷ xs) = and_true (eqb x x) (pointwise eqb xs xs) (grind (arith, common_steps)) (pointwise_self xs)

not_false : (b : Bool) → not b ≡ false → b ≡ true
not_false true h = refl
not_false false h = sym h

pub pieces_equal : (b : Bool) (xs ys : List ℕ) → b ≡ not (pointwise eqb xs ys) → b ≡ false → xs ≡ ys
pieces_equal b xs ys h e = pointwise_equal xs ys (not_false (pointwise eqb xs ys) (sym h ∙ e))

pub pieces_differ : (b : Bool) (xs ys : List ℕ) → b ≡ not (pointwise eqb xs ys) → b ≡ true → xs ≡ ys → ⊥
pieces_differ b xs ys h e same =
    let all : pointwise eqb xs ys ≡ true = subst (λ zs. pointwise eqb xs zs ≡ true) same (pointwise_self xs) in
    let n : not (pointwise eqb xs ys) ≡ true = sym h ∙ e in
    let m : not true ≡ true = subst (λ z. not z ≡ true) all n in
    cc

-- A or nothing before a closing token that doesn't stand there
pub unclosed : {T : Type 0} {ts : List Marked} {A : Room → Rule T} (la : Lawful ts A) (filled : la.null ≡ false) (k : Kind) (apart : disjoint (la.cont ++ la.first) (k ∷ []) ≡ true) {d : Room} {p : Place} (e : Stop) →
    (In ts p.at (k ∷ []) → ⊥) → Fails A d p e → Fails (λ r. behind (maybe (A r)) (word ts k)) d p e
unclosed la filled k apart Memory n f = record { cause = tt }
unclosed {ts = ts} {A = A} la filled k apart {d = d} {p = p} (Syntax m) n f =
    elim (split m p.at ((facts_of la d).order p m f.cause.begins)) [
      | inl e ↦ (let stuck : Stops A d p p.at = subst (λ m. Stops A d p m) e f.cause in
          subst (λ m. Fails (λ r. behind (maybe (A r)) (word ts k)) d p (Syntax m)) (sym e)
          (both_then_fails _ (lawful_maybe la filled) (lawful_word ts k) apart (maybe_stuck la stuck) (one_fails ts (k ∷ []) d p n)))
      | inr past ↦ both_fails _ (lawful_maybe la filled) (lawful_word ts k) apart (maybe_fails la filled past f)
    ]
unclosed {ts = ts} la filled k apart (TooDeep m) n f = both_fails _ (lawful_maybe la filled) (lawful_word ts k) apart (maybe_fails la filled tt f)

-- whether the last formal is `ref`, by where it stands
abbrev pub is_ref : Option Formal → Bool
is_ref None = false
is_ref (Some f) = f.by_ref

last_of : (f : Formal) (fs : List Formal) → is_ref (slice_get (f ∷ fs) (length fs)) ≡ last_is_ref (f ∷ fs)
last_of f [] = refl
last_of f (g ∷ fs) = last_of g fs

pub last_stands : (fs : List Formal) → is_ref (slice_get fs (length fs - 1)) ≡ last_is_ref fs
last_stands [] = refl
last_stands (f ∷ fs) =
    let e : suc (length fs) - 1 ≡ length fs = omega arith in
    ap (λ n. is_ref (slice_get (f ∷ fs) n)) e ∙ last_of f fs

-- a formal as it is written, with the direction of the one before it
abbrev pub formal_at : Bool → Written → Formal
formal_at last w = record { by_ref = is_ref_or last w.direction; typ = w.type; name = w.name; default = w.default; at = w.start }

pub formal_put : (last : Bool) (w : Written) (fs : List Formal) → last_is_ref fs ≡ last → fs ++ formal_at last w ∷ [] ≡ with_formal fs w
formal_put last w fs e = ap (λ b. fs ++ formal_at b w ∷ []) (sym e)

module _ (text : List ℕ) (ts : List Marked) where
  abbrev w : (k : Kind) → Lawful ts (λ _. one ts (k ∷ []))
  w k = lawful_word ts k

  -- "endgroup" [ ":" ident ]
  abbrev same_lawful : (name : List ℕ) → Lawful ts (λ _. ahead (word ts Colon) (same_word text ts Ident name))
  same_lawful name = lawful_both _ (w Colon) (lawful_same_word text ts Ident name) refl

  abbrev maybe_same_lawful : (name : List ℕ) → Lawful ts (λ _. maybe (ahead (word ts Colon) (same_word text ts Ident name)))
  maybe_same_lawful name = lawful_maybe (same_lawful name) refl

  pub no_end : (name : List ℕ) {d : Room} {p : Place} {e : Stop} → Fails (λ _. word ts EndgroupWord) d p e → Fails (λ _. group_end text ts name) d p e
  unfolding group_end
  no_end name f = both_fails _ (w EndgroupWord) (maybe_same_lawful name) refl f

  abbrev end_rest : (name : List ℕ) {d : Room} {p : Place} {t : Marked} {q : Place} → Reads (λ _. word ts EndgroupWord) d p t q →
      Leads (λ _. maybe (ahead (word ts Colon) (same_word text ts Ident name))) d q (λ _. group_end text ts name) d p (λ x. x)
  unfolding group_end
  end_rest name {d = d} {p = p} r = step _ (w EndgroupWord) (maybe_same_lawful name) refl (leads_self (λ _. group_end text ts name) d p) r

  pub unnamed_end : (name : List ℕ) {d : Room} {p : Place} {t : Marked} {q : Place} → Reads (λ _. word ts EndgroupWord) d p t q → (In ts q.at (Colon ∷ []) → ⊥) → Reads (λ _. group_end text ts name) d p None q
  unnamed_end name r n = without (same_lawful name) refl (end_rest name r) n

  end_named : (name : List ℕ) {d : Room} {p : Place} {t : Marked} {q : Place} {c : Marked} {m : Place} → Reads (λ _. word ts EndgroupWord) d p t q → Reads (λ _. word ts Colon) d q c m →
      Leads (λ _. same_word text ts Ident name) d m (λ _. group_end text ts name) d p (λ x. Some x)
  end_named name {d = d} {q = q} r s = maybe_step (same_lawful name) refl (lawful_same_word text ts Ident name) (end_rest name r)
      (step _ (w Colon) (lawful_same_word text ts Ident name) refl (leads_self (λ _. ahead (word ts Colon) (same_word text ts Ident name)) d q) s)
      (let n = (one_next ts (Colon ∷ []) s).0 in omega arith)

  pub named_end : (name : List ℕ) {other : List ℕ} → other ≡ name → {d : Room} {p : Place} {t : Marked} {q : Place} {c : Marked} {m : Place} → Reads (λ _. word ts EndgroupWord) d p t q → Reads (λ _. word ts Colon) d q c m →
      Leads (λ _. same_word text ts Ident other) d m (λ _. group_end text ts name) d p (λ x. Some x)
  named_end name e {d = d} {p = p} {m = m} r s = subst (λ z. Leads (λ _. same_word text ts Ident z) d m (λ _. group_end text ts name) d p (λ x. Some x)) (sym e) (end_named name r s)

  -- a formal
  abbrev typed_lawful : Lawful ts (λ e. both pair (type_text text ts e) (ident text ts))
  typed_lawful = lawful_both pair (type_text_lawful text ts) (ident_lawful text ts) refl

  abbrev pub maybe_value_rule : Room → Rule (Option Expr)
  maybe_value_rule e = maybe (ahead (word ts Assign) (expr text ts e))

  abbrev typed_value_lawful : Lawful ts (λ e. both pair (both pair (type_text text ts e) (ident text ts)) (maybe_value_rule e))
  typed_value_lawful = lawful_both pair typed_lawful (value_lawful text ts) refl

  abbrev formal_lawfuls : Lawfuls ts (λ e (start : ℕ). both (written start) (maybe (one ts directions)) (both pair (both pair (type_text text ts e) (ident text ts)) (maybe_value_rule e)))
  formal_lawfuls = record { first = (formal_rest_lawful text ts 0).first; cont = (formal_rest_lawful text ts 0).cont; null = false; sound = λ start. (formal_rest_lawful text ts start).sound }

  pub directed : {d : Room} {p : Place} {t : Option Marked} {q : Place} → Reads (λ _. maybe (one ts directions)) d p t q →
      Leads (λ e. both pair (both pair (type_text text ts e) (ident text ts)) (maybe_value_rule e)) d q (formal text ts) d p (written (offset ts p.at) t)
  unfolding formal
  directed {d = d} {p = p} r = step (written (offset ts p.at)) (lawful_maybe (lawful_one ts directions) refl) typed_value_lawful refl
      (bind_step (lawful_here ts) formal_lawfuls refl (leads_self (formal text ts) d p) (here_reads ts d p)) r

  pub untyped : {d : Room} {p : Place} {t : Option Marked} {q : Place} {e : Stop} → Reads (λ _. maybe (one ts directions)) d p t q → Fails (type_text text ts) d q e → Fails (formal text ts) d p e
  untyped r f = ends pair typed_lawful (value_lawful text ts) refl (directed r) (both_fails pair (type_text_lawful text ts) (ident_lawful text ts) refl f)

  pub formal_unnamed : {d : Room} {p : Place} {t : Option Marked} {q : Place} {x : TypeText} {m : Place} {e : Stop} → Reads (λ _. maybe (one ts directions)) d p t q → Reads (type_text text ts) d q x m → Fails (λ _. ident text ts) d m e → Fails (formal text ts) d p e
  formal_unnamed r s f = ends pair typed_lawful (value_lawful text ts) refl (directed r) (both_then_fails pair (type_text_lawful text ts) (ident_lawful text ts) refl s f)

  pub formal_valued : {d : Room} {p : Place} {t : Option Marked} {q : Place} {x : TypeText} {m : Place} {y : List ℕ} {k : Place} → Reads (λ _. maybe (one ts directions)) d p t q → Reads (type_text text ts) d q x m → Reads (λ _. ident text ts) d m y k →
      Leads maybe_value_rule d k (formal text ts) d p (λ v. written (offset ts p.at) t ((x, y), v))
  formal_valued r s u = step pair typed_lawful (value_lawful text ts) refl (directed r) (both_reads pair (type_text_lawful text ts) (ident_lawful text ts) refl s u)

  pub direction_read : {d : Room} {p : Place} {t : Marked} {q : Place} → Reads (λ _. one ts directions) d p t q → Reads (λ _. maybe (one ts directions)) d p (Some t) q
  direction_read r = maybe_some (lawful_one ts directions) refl r

  pub no_direction : {d : Room} {p : Place} → (In ts p.at directions → ⊥) → Reads (λ _. maybe (one ts directions)) d p None p
  no_direction n = maybe_none (lawful_one ts directions) refl n

  -- [ "(" [ formal { "," formal } ] ")" ]
  abbrev pub parens : Room → Rule (Option (List Formal))
  parens e = behind (maybe (formal_list text ts e)) (word ts CloseParen)

  abbrev maybe_list_lawful : Lawful ts (λ e. maybe (formal_list text ts e))
  maybe_list_lawful = lawful_maybe (formal_list_lawful text ts) refl

  abbrev parens_lawful : Lawful ts parens
  parens_lawful = lawful_both _ maybe_list_lawful (w CloseParen) refl

  abbrev opened_lawful : Lawful ts (λ e. ahead (word ts OpenParen) (parens e))
  opened_lawful = lawful_both _ (w OpenParen) parens_lawful refl

  pub no_formals : {d : Room} {p : Place} → (In ts p.at (OpenParen ∷ []) → ⊥) → Reads (formals text ts) d p [] p
  unfolding formals
  no_formals n = map_reads list_or (lawful_maybe (formal_parens_lawful text ts) refl) (maybe_none (formal_parens_lawful text ts) refl n)

  pub formals_open : {d : Room} {p : Place} {t : Marked} {q : Place} → Reads (λ _. word ts OpenParen) d p t q → Leads parens d q (formals text ts) d p list_or
  unfolding formals
  formals_open {d = d} {p = p} r = maybe_step (formal_parens_lawful text ts) refl parens_lawful
      (map_leads list_or (lawful_maybe (formal_parens_lawful text ts) refl) (leads_self (formals text ts) d p))
      (step _ (w OpenParen) parens_lawful refl (map_leads list_or opened_lawful (leads_self (λ e. map_to list_or (ahead (word ts OpenParen) (parens e))) d p)) r)
      (let n = (one_next ts (OpenParen ∷ []) r).0 in omega arith)

  pub no_list : {d : Room} {p : Place} {t : Marked} {q : Place} → In ts p.at (CloseParen ∷ []) → Reads (λ _. word ts CloseParen) d p t q → Reads parens d p None q
  no_list {p = p} h r = both_reads _ maybe_list_lawful (w CloseParen) refl (maybe_none (formal_list_lawful text ts) refl (λ v. In_apart ts p.at (formal_list_lawful text ts).first (CloseParen ∷ []) refl v h)) r

  pub list_fails : {d : Room} {p : Place} {e : Stop} → (In ts p.at (CloseParen ∷ []) → ⊥) → Fails (formal_list text ts) d p e → Fails parens d p e
  list_fails {e = e} n f = unclosed (formal_list_lawful text ts) refl CloseParen refl e n f

  pub list_closes : {d : Room} {p : Place} {fs : List Formal} {q : Place} → Reads (formal_list text ts) d p fs q → Leads (λ _. word ts CloseParen) d q parens d p (λ _. Some fs)
  list_closes {d = d} {p = p} r = step _ maybe_list_lawful (w CloseParen) refl (leads_self parens d p) (maybe_some (formal_list_lawful text ts) refl r)

  -- sarg
  abbrev input : Rule (Option Marked)
  input = maybe (word ts InputWord)

  abbrev argument_lawfuls : Lawfuls ts (λ e (start : ℕ). both (argument_of start) (ahead input (type_text text ts e)) (ident text ts))
  argument_lawfuls = record { first = (argument_rest_lawful text ts 0).first; cont = []; null = false; sound = λ start. (argument_rest_lawful text ts start).sound }

  argument_starts : {d : Room} {p : Place} → Leads (λ e. both (argument_of (offset ts p.at)) (ahead input (type_text text ts e)) (ident text ts)) d p (argument text ts) d p (λ x. x)
  unfolding argument
  argument_starts {d = d} {p = p} = bind_step (lawful_here ts) argument_lawfuls refl (leads_self (argument text ts) d p) (here_reads ts d p)

  pub input_read : {d : Room} {p : Place} {t : Marked} {q : Place} → Reads (λ _. word ts InputWord) d p t q → Reads (λ _. input) d p (Some t) q
  input_read r = maybe_some (w InputWord) refl r

  pub no_input : {d : Room} {p : Place} → (In ts p.at (InputWord ∷ []) → ⊥) → Reads (λ _. input) d p None p
  no_input n = maybe_none (w InputWord) refl n

  pub argument_untyped : {d : Room} {p : Place} {t : Option Marked} {q : Place} {e : Stop} → Reads (λ _. input) d p t q → Fails (type_text text ts) d q e → Fails (argument text ts) d p e
  argument_untyped {p = p} r f = ends (argument_of (offset ts p.at)) (argument_type_lawful text ts) (ident_lawful text ts) refl argument_starts
      (both_then_fails _ (lawful_maybe (w InputWord) refl) (type_text_lawful text ts) refl r f)

  pub argument_typed : {d : Room} {p : Place} {t : Option Marked} {q : Place} {x : TypeText} {m : Place} → Reads (λ _. input) d p t q → Reads (type_text text ts) d q x m →
      Leads (λ _. ident text ts) d m (argument text ts) d p (argument_of (offset ts p.at) x)
  argument_typed {p = p} r s = step (argument_of (offset ts p.at)) (argument_type_lawful text ts) (ident_lawful text ts) refl argument_starts
      (both_reads _ (lawful_maybe (w InputWord) refl) (type_text_lawful text ts) refl r s)

  -- "(" [ sarg { "," sarg } ] ")"
  abbrev pub argument_end : Room → Rule (Option (List Formal))
  argument_end e = behind (maybe (argument_list text ts e)) (word ts CloseParen)

  abbrev maybe_arguments_lawful : Lawful ts (λ e. maybe (argument_list text ts e))
  maybe_arguments_lawful = lawful_maybe (argument_list_lawful text ts) refl

  abbrev argument_end_lawful : Lawful ts argument_end
  argument_end_lawful = lawful_both _ maybe_arguments_lawful (w CloseParen) refl

  abbrev arguments_lawful : Lawful ts (λ e. ahead (word ts OpenParen) (argument_end e))
  arguments_lawful = lawful_both _ (w OpenParen) argument_end_lawful refl

  arguments_start : {d : Room} {p : Place} → Leads (λ e. ahead (word ts OpenParen) (argument_end e)) d p (argument_parens text ts) d p list_or
  unfolding argument_parens
  arguments_start {d = d} {p = p} = map_leads list_or arguments_lawful (leads_self (argument_parens text ts) d p)

  pub arguments_unopened : {d : Room} {p : Place} {e : Stop} → Fails (λ _. word ts OpenParen) d p e → Fails (argument_parens text ts) d p e
  arguments_unopened f = ends _ (w OpenParen) argument_end_lawful refl arguments_start f

  pub arguments_open : {d : Room} {p : Place} {t : Marked} {q : Place} → Reads (λ _. word ts OpenParen) d p t q → Leads argument_end d q (argument_parens text ts) d p list_or
  arguments_open r = step _ (w OpenParen) argument_end_lawful refl arguments_start r

  pub no_arguments : {d : Room} {p : Place} {t : Marked} {q : Place} → In ts p.at (CloseParen ∷ []) → Reads (λ _. word ts CloseParen) d p t q → Reads argument_end d p None q
  no_arguments {p = p} h r = both_reads _ maybe_arguments_lawful (w CloseParen) refl (maybe_none (argument_list_lawful text ts) refl (λ v. In_apart ts p.at (argument_list_lawful text ts).first (CloseParen ∷ []) refl v h)) r

  pub arguments_fail : {d : Room} {p : Place} {e : Stop} → (In ts p.at (CloseParen ∷ []) → ⊥) → Fails (argument_list text ts) d p e → Fails argument_end d p e
  arguments_fail {e = e} n f = unclosed (argument_list_lawful text ts) refl CloseParen refl e n f

  pub arguments_close : {d : Room} {p : Place} {fs : List Formal} {q : Place} → Reads (argument_list text ts) d p fs q → Leads (λ _. word ts CloseParen) d q argument_end d p (λ _. Some fs)
  arguments_close {d = d} {p = p} r = step _ maybe_arguments_lawful (w CloseParen) refl (leads_self argument_end d p) (maybe_some (argument_list_lawful text ts) refl r)

  -- "function" "sample" and the arguments
  abbrev pub named_function : Room → Rule (List Formal)
  named_function e = ahead (same_word text ts Ident (codes "sample")) (argument_parens text ts e)

  abbrev pub sample_function : Room → Rule (List Formal)
  sample_function e = ahead (same_word text ts OtherWord (codes "function")) (named_function e)

  pub no_function : {d : Room} {p : Place} {e : Stop} → Fails (λ _. same_word text ts OtherWord (codes "function")) d p e → Fails sample_function d p e
  no_function f = both_fails _ (lawful_same_word text ts OtherWord (codes "function")) (sample_lawful text ts) refl f

  behind_function : {d : Room} {p : Place} {t : Marked} {q : Place} → Reads (λ _. same_word text ts OtherWord (codes "function")) d p t q → Leads named_function d q sample_function d p (λ x. x)
  behind_function {d = d} {p = p} r = step _ (lawful_same_word text ts OtherWord (codes "function")) (sample_lawful text ts) refl (leads_self sample_function d p) r

  pub no_sample : {d : Room} {p : Place} {t : Marked} {q : Place} {e : Stop} → Reads (λ _. same_word text ts OtherWord (codes "function")) d p t q → Fails (λ _. same_word text ts Ident (codes "sample")) d q e → Fails sample_function d p e
  no_sample r f = ends _ (lawful_same_word text ts Ident (codes "sample")) (argument_parens_lawful text ts) refl (behind_function r) f

  pub behind_sample : {d : Room} {p : Place} {t : Marked} {q : Place} {u : Marked} {m : Place} → Reads (λ _. same_word text ts OtherWord (codes "function")) d p t q → Reads (λ _. same_word text ts Ident (codes "sample")) d q u m →
      Leads (argument_parens text ts) d m sample_function d p (λ x. x)
  behind_sample r s = step _ (lawful_same_word text ts Ident (codes "sample")) (argument_parens_lawful text ts) refl (behind_function r) s

  -- [ event | sampled ]
  abbrev sampled_by_lawful : Lawful ts (λ e. maybe (either (map_to by_event (event text ts e)) (map_to by_function (sampled text ts e))))
  sampled_by_lawful = lawful_maybe (event_or_sampled_lawful text ts) refl

  samplings : {d : Room} {p : Place} → Leads (λ e. maybe (either (map_to by_event (event text ts e)) (map_to by_function (sampled text ts e)))) d p (sampling text ts) d p sampling_or
  unfolding sampling
  samplings {d = d} {p = p} = map_leads sampling_or sampled_by_lawful (leads_self (sampling text ts) d p)

  pub unsampled : {d : Room} {p : Place} → (In ts p.at (AtSign ∷ []) → ⊥) → (In ts p.at (WithWord ∷ []) → ⊥) → Reads (sampling text ts) d p ([], []) p
  unsampled {p = p} n m = without (event_or_sampled_lawful text ts) refl samplings (λ h. elim (In_split ts p.at (AtSign ∷ []) (WithWord ∷ []) h) [ inl a ↦ n a | inr b ↦ m b ])

  -- behind "@", and behind "with"
  by_events : {d : Room} {p : Place} → In ts p.at (AtSign ∷ []) → Leads (event text ts) d p (λ e. either (map_to by_event (event text ts e)) (map_to by_function (sampled text ts e))) d p by_event
  by_events {d = d} {p = p} h = map_leads by_event (event_lawful text ts) (left (lawful_map (event_lawful text ts) by_event) (lawful_map (sampled_lawful text ts) by_function) refl refl
      (leads_self (λ e. either (map_to by_event (event text ts e)) (map_to by_function (sampled text ts e))) d p) h)

  by_functions : {d : Room} {p : Place} → In ts p.at (WithWord ∷ []) → Leads (sampled text ts) d p (λ e. either (map_to by_event (event text ts e)) (map_to by_function (sampled text ts e))) d p by_function
  by_functions {d = d} {p = p} h = map_leads by_function (sampled_lawful text ts) (right (lawful_map (event_lawful text ts) by_event) (lawful_map (sampled_lawful text ts) by_function) refl refl
      (leads_self (λ e. either (map_to by_event (event text ts e)) (map_to by_function (sampled text ts e))) d p) refl (λ v. In_apart ts p.at (AtSign ∷ []) (WithWord ∷ []) refl v h))

  at_sign : {d : Room} {p : Place} {t : Marked} {q : Place} → In ts p.at (AtSign ∷ []) → Reads (λ _. word ts AtSign) d p t q → Leads (edge_parens text ts) d q (λ e. either (map_to by_event (event text ts e)) (map_to by_function (sampled text ts e))) d p by_event
  unfolding event
  at_sign h r = step _ (w AtSign) (in_parens_lawful text ts) refl (by_events h) r

  with_word : {d : Room} {p : Place} {t : Marked} {q : Place} → In ts p.at (WithWord ∷ []) → Reads (λ _. word ts WithWord) d p t q → Leads sample_function d q (λ e. either (map_to by_event (event text ts e)) (map_to by_function (sampled text ts e))) d p by_function
  unfolding sampled
  with_word h r = step _ (w WithWord) (function_lawful text ts) refl (by_functions h) r

  pub sampled_by_event : {d : Room} {p : Place} {t : Marked} {q : Place} → In ts p.at (AtSign ∷ []) → Reads (λ _. word ts AtSign) d p t q → Leads (edge_parens text ts) d q (sampling text ts) d p (λ es. (es, []))
  sampled_by_event h r = maybe_step (event_or_sampled_lawful text ts) refl (in_parens_lawful text ts) samplings (at_sign h r) (let n = (one_next ts (AtSign ∷ []) r).0 in omega arith)

  pub sampled_by_function : {d : Room} {p : Place} {t : Marked} {q : Place} → In ts p.at (WithWord ∷ []) → Reads (λ _. word ts WithWord) d p t q → Leads sample_function d q (sampling text ts) d p (λ args. ([], args))
  sampled_by_function h r = maybe_step (event_or_sampled_lawful text ts) refl (function_lawful text ts) samplings (with_word h r) (let n = (one_next ts (WithWord ∷ []) r).0 in omega arith)

  -- group
  abbrev pub signed_head : Room → Rule (List Formal × (List EdgeText × List Formal))
  signed_head e = both pair (formals text ts e) (sampling text ts e)

  abbrev signed_lawful : Lawful ts signed_head
  signed_lawful = lawful_both pair (formals_lawful text ts) (sampling_lawful text ts) refl

  abbrev inside_lawful : Lawful ts (λ e. ahead (word ts Semi) (members text ts e))
  inside_lawful = lawful_both _ (w Semi) (members_lawful text ts) refl

  abbrev group_lawfuls : Lawfuls ts (λ e (h : Marked × List ℕ). both (group_of h) (both pair (signed_head e) (ahead (word ts Semi) (members text ts e))) (group_end text ts h.1))
  group_lawfuls = record { first = OpenParen ∷ AtSign ∷ WithWord ∷ Semi ∷ []; cont = Colon ∷ []; null = false; sound = λ h. (group_rest_lawful text ts h).sound }

  pub no_group : {d : Room} {p : Place} {e : Stop} → Fails (λ _. word ts CovergroupWord) d p e → Fails (group text ts) d p e
  unfolding group
  no_group {d = d} {p = p} f = bind_ends (group_head_lawful text ts) group_lawfuls refl (leads_self (group text ts) d p) (both_fails pair (w CovergroupWord) (ident_lawful text ts) refl f)

  pub group_unnamed : {d : Room} {p : Place} {t : Marked} {q : Place} {e : Stop} → Reads (λ _. word ts CovergroupWord) d p t q → Fails (λ _. ident text ts) d q e → Fails (group text ts) d p e
  unfolding group
  group_unnamed {d = d} {p = p} r f = bind_ends (group_head_lawful text ts) group_lawfuls refl (leads_self (group text ts) d p) (both_then_fails pair (w CovergroupWord) (ident_lawful text ts) refl r f)

  -- behind the word and the name of a group
  pub record Named (d : Room) (o : Place) (t : Marked) (x : List ℕ) (p : Place) : Type 0 where
    pub rest : Leads (λ e. both (group_of (t, x)) (both pair (signed_head e) (ahead (word ts Semi) (members text ts e))) (group_end text ts x)) d p (group text ts) d o (λ y. y)

  pub group_named : {d : Room} {p : Place} {t : Marked} {q : Place} {x : List ℕ} {m : Place} → Reads (λ _. word ts CovergroupWord) d p t q → Reads (λ _. ident text ts) d q x m → Named d p t x m
  unfolding group
  group_named {d = d} {p = p} r s = record { rest = bind_step (group_head_lawful text ts) group_lawfuls refl (leads_self (group text ts) d p) (both_reads pair (w CovergroupWord) (ident_lawful text ts) refl r s) }

  body_fails : {d : Room} {o : Place} {t : Marked} {x : List ℕ} {p : Place} {e : Stop} → Named d o t x p → Fails (λ e. both pair (signed_head e) (ahead (word ts Semi) (members text ts e))) d p e → Fails (group text ts) d o e
  body_fails {t = t} {x = x} l f = ends (group_of (t, x)) (group_body_lawful text ts) (group_end_lawful text ts x) refl l.rest f

  pub group_unformal : {d : Room} {o : Place} {t : Marked} {x : List ℕ} {p : Place} {e : Stop} → Named d o t x p → Fails (formals text ts) d p e → Fails (group text ts) d o e
  group_unformal l f = body_fails l (both_fails pair signed_lawful inside_lawful refl (both_fails pair (formals_lawful text ts) (sampling_lawful text ts) refl f))

  pub group_eventless : {d : Room} {o : Place} {t : Marked} {x : List ℕ} {p : Place} {fs : List Formal} {q : Place} {e : Stop} → Named d o t x p → Reads (formals text ts) d p fs q → Fails (sampling text ts) d q e → Fails (group text ts) d o e
  group_eventless l r f = body_fails l (both_fails pair signed_lawful inside_lawful refl (both_then_fails pair (formals_lawful text ts) (sampling_lawful text ts) refl r f))

  -- behind the formals and the event
  pub head_read : {d : Room} {p : Place} {fs : List Formal} {q : Place} {es : List EdgeText × List Formal} {m : Place} → Reads (formals text ts) d p fs q → Reads (sampling text ts) d q es m → Reads signed_head d p (fs, es) m
  head_read r s = both_reads pair (formals_lawful text ts) (sampling_lawful text ts) refl r s

  pub group_open : {d : Room} {o : Place} {t : Marked} {x : List ℕ} {p : Place} {h : List Formal × (List EdgeText × List Formal)} {q : Place} {e : Stop} → Named d o t x p → Reads signed_head d p h q → Fails (λ _. word ts Semi) d q e → Fails (group text ts) d o e
  group_open l r f = body_fails l (both_then_fails pair signed_lawful inside_lawful refl r (both_fails _ (w Semi) (members_lawful text ts) refl f))

  pub group_stops : {d : Room} {o : Place} {t : Marked} {x : List ℕ} {p : Place} {h : List Formal × (List EdgeText × List Formal)} {q : Place} {u : Marked} {m : Place} {e : Stop} → Named d o t x p → Reads signed_head d p h q → Reads (λ _. word ts Semi) d q u m →
      Fails (members text ts) d m e → Fails (group text ts) d o e
  group_stops l r s f = body_fails l (both_then_fails pair signed_lawful inside_lawful refl r (both_then_fails _ (w Semi) (members_lawful text ts) refl s f))

  pub group_ends : {d : Room} {o : Place} {t : Marked} {x : List ℕ} {p : Place} {h : List Formal × (List EdgeText × List Formal)} {q : Place} {u : Marked} {m : Place} {ms : List Member} {k : Place} → Named d o t x p → Reads signed_head d p h q →
      Reads (λ _. word ts Semi) d q u m → Reads (members text ts) d m ms k → Leads (λ _. group_end text ts x) d k (group text ts) d o (λ e. group_of (t, x) (h, ms) e)
  group_ends {t = t} {x = x} l r s y = step (group_of (t, x)) (group_body_lawful text ts) (group_end_lawful text ts x) refl l.rest
      (both_reads pair signed_lawful inside_lawful refl r (both_reads _ (w Semi) (members_lawful text ts) refl s y))
