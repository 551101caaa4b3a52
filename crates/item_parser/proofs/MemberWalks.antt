-- Where a reader of the members and events of covergroups stands, from one part of a rule to the next.
use Rattle.std.proofs.Common.{ℕ, ◌<◌, List, [], ◌∷◌, ◌++◌, Option, Some, None, false, refl, arith, ◌≡◌, ◌+◌, ◌-◌, Bool, true, ◌||◌, ◌⊎◌, eqb, append-nil, Result, Ok, Err, inl, inr, sym, ◌∙◌, ap, subst}
use Rattle.cov_tree.specs.declared.expr.Expr.{Expr}
use Rattle.cov_tree.specs.declared.groups.Member.{Member}
use Rattle.cov_tree.specs.declared.groups.Member.TheVariants.{Opt}
use Rattle.cov_lexer.specs.declared.kind.Kind.{Kind}
use Rattle.cov_lexer.specs.declared.kind.Kind.TheVariants.{Ident, CoverpointWord, CrossWord, IffWord, Semi, Colon, OrWord, OpenParen, CloseParen, Comma}
use Rattle.cov_grammar.specs.declared.marked.Marked.{Marked}
use Rattle.cov_grammar.specs.declared.place.Place.{Place}
use Rattle.cov_grammar.specs.declared.place.Room.{Room}
use Rattle.cov_grammar.specs.declared.place.Stop.{Stop}
use Rattle.cov_grammar.specs.declared.place.Stop.TheVariants.{Memory, Syntax, TooDeep}
use Rattle.cov_grammar.specs.Rule.{Rule, In, one, word, offset, both, either, many, map_to, ahead, maybe, here, bind, fold, behind}
use Rattle.cov_grammar.specs.Parses.{Reads, Fails, Parses}
use Rattle.cov_grammar.specs.Expressions.{pair, expr, snoc}
use Rattle.cov_grammar.specs.Bins.{ident, optset}
use Rattle.cov_grammar.specs.Groups.{point, cross, label, item, member}
use Rattle.cov_grammar.specs.Designs.{edge_of, edge, members}
use Rattle.cov_grammar.proofs.Sets.{In_apart}
use Rattle.cov_grammar.proofs.Lawful.{Lawful, Lawfuls, facts_of, lawful_word, lawful_one, lawful_here, lawful_map, lawful_maybe, lawful_both, lawful_either, lawful_fold}
use Rattle.cov_grammar.proofs.Compose.{Past, both_reads, both_then_fails, left_reads, left_fails, maybe_some, maybe_fails, both_fails, maybe_none}
use Rattle.cov_grammar.proofs.Steps.{Leads, leads_self, then, here_reads, step, ends, bind_step, bind_ends, map_leads, without, maybe_step, left, right, many_next, many_ends, one_next, reads_more, both_opens, many_breaks}
use Rattle.cov_grammar.proofs.ExprLaws.{expr_lawful}
use Rattle.cov_grammar.proofs.BinsLaws.{ident_lawful, optset_lawful}
use Rattle.cov_grammar.proofs.GroupLaws.{option_words, item_firsts, member_firsts, label_lawful, labelled_lawful, item_rest_lawful, point_lawful, cross_lawful, item_lawful, member_lawful}
use Rattle.cov_grammar.proofs.DesignLaws.{append, edge_words, edge_lawful}
use Rattle.cov_tree.specs.declared.groups.EdgeText.{EdgeText}
use Rattle.cov_lexer.specs.Kinds.{code, has, has_code}
use Rattle.std.specs.Prelude.{IfOk, IfErr}
use Rattle.std.specs.Result.{IsErrAnd}
use Rattle.std.proofs.lemmas.Result.{err_from_is_err_and}

-- `;` is no member
abbrev no_member : Marked → List Member
no_member t = []

-- a list of kinds without its first
or_rest : (a b : Bool) → (a || b) ≡ true → ((a || false) ≡ true → ⊥) → b ≡ true
or_rest true b h n = absurd (n refl)
or_rest false b h n = h

pub other_kind : (ts : List Marked) (i : ℕ) (k : Kind) (ks : List Kind) → In ts i (k ∷ ks) → (In ts i (k ∷ []) → ⊥) → In ts i ks
other_kind ts i k ks h n = record {
  token = h.token;
  stands = h.stands;
  of = or_rest (eqb (code h.token.kind) (code k)) (has h.token.kind ks) h.of (λ e. n (record { token = h.token; stands = h.stands; of = e }));
}

or_cases : (a b : Bool) → (a || b) ≡ true → (a ≡ true) ⊎ (b ≡ true)
or_cases true b h = inl refl
or_cases false b h = inr h

or_more : (a b : Bool) → a ≡ true → (a || b) ≡ true
or_more true b h = refl
or_more false b h = cc

or_other : (a b : Bool) → b ≡ true → (a || b) ≡ true
or_other true b h = refl
or_other false b h = h

has_split : (n : ℕ) (xs ys : List Kind) → has_code n (xs ++ ys) ≡ true → (has_code n xs ≡ true) ⊎ (has_code n ys ≡ true)
has_split n [] ys h = inr h
has_split n (x ∷ xs) ys h = elim (or_cases (eqb n (code x)) (has_code n (xs ++ ys)) h) [
  | inl e ↦ inl (or_more (eqb n (code x)) _ e)
  | inr e ↦ elim (has_split n xs ys e) [ inl l ↦ inl (or_other (eqb n (code x)) _ l) | inr r ↦ inr r ]
]

-- a token of these kinds or those
pub In_split : (ts : List Marked) (i : ℕ) (xs ys : List Kind) → In ts i (xs ++ ys) → In ts i xs ⊎ In ts i ys
In_split ts i xs ys h = elim (has_split (code h.token.kind) xs ys h.of) [
  | inl e ↦ inl (record { token = h.token; stands = h.stands; of = e })
  | inr e ↦ inr (record { token = h.token; stands = h.stands; of = e })
]

-- the token that was read, as one of this kind
pub word_of : (ts : List Marked) (ks : List Kind) (k : Kind) {d : Room} {p : Place} {t : Marked} {q : Place} → In ts p.at (k ∷ []) → Reads (λ _. one ts ks) d p t q → Reads (λ _. word ts k) d p t q
unfolding one
word_of ts ks k {t = t} h r =
    let same : Some h.token ≡ Some t = sym h.stands ∙ r.derives.0 in
    let eq : h.token ≡ t = cc in
    let of : has t.kind (k ∷ []) ≡ true = subst (λ (u : Marked). has u.kind (k ∷ []) ≡ true) eq h.of in record {
      derives = (r.derives.0, of, r.derives.2);
      reach = λ e n x. let at = ap (λ (z : Place). z.at) r.derives.2 in elim x [ inl y ↦ omega (arith, y, at) | inr y ↦ omega (arith, y.3, at) ];
    }

-- the exit of a `?`, for an answer's fault
pub fault_of : {A T : Type 0} {F : Room → Rule T} {d : Room} {p : Place} {s : Stop} (r : Result A Stop) → IsErrAnd r (λ e. e ≡ s) → Fails F d p s → IfErr r (Fails F d p)
fault_of r h f =
    let x = err_from_is_err_and r h in
    rw (x.1, x.2) f

module _ (text : List ℕ) (ts : List Marked) where
  abbrev w : (k : Kind) → Lawful ts (λ _. one ts (k ∷ []))
  w k = lawful_word ts k

  -- where an item begins, and its label
  pub no_label : {d : Room} {p : Place} → (In ts p.at (Ident ∷ []) → ⊥) → Reads (λ _. maybe (label text ts)) d p None p
  no_label {d = d} {p = p} n = without (label_lawful text ts) refl (leads_self (λ _. maybe (label text ts)) d p) n

  pub labelled_by : {d : Room} {p : Place} {x : List ℕ} {q : Place} {t : Marked} {m : Place} → Reads (λ _. ident text ts) d p x q → Reads (λ _. word ts Colon) d q t m → Reads (λ _. maybe (label text ts)) d p (Some x) m
  unfolding label
  labelled_by r s = maybe_some (label_lawful text ts) refl (both_reads _ (ident_lawful text ts) (w Colon) refl r s)

  -- an item behind its label
  abbrev item_lawfuls : Lawfuls ts (λ e (p : ℕ × Option (List ℕ)). either (point text ts p.0 p.1 e) (cross text ts p.0 p.1 e))
  item_lawfuls = record { first = CoverpointWord ∷ CrossWord ∷ []; cont = []; null = false; sound = λ p. (item_rest_lawful text ts p).sound }

  pub labelled : {d : Room} {p : Place} {l : Option (List ℕ)} {q : Place} → Reads (λ _. maybe (label text ts)) d p l q →
      Leads (λ e. either (point text ts (offset ts p.at) l e) (cross text ts (offset ts p.at) l e)) d q (item text ts) d p (λ x. x)
  unfolding item
  labelled {d = d} {p = p} r = bind_step (labelled_lawful text ts) item_lawfuls refl (leads_self (item text ts) d p)
      (both_reads pair (lawful_here ts) (lawful_maybe (label_lawful text ts) refl) refl (here_reads ts d p) r)

  pub unlabelled : {d : Room} {p : Place} {e : Stop} → Fails (λ _. maybe (label text ts)) d p e → Fails (item text ts) d p e
  unfolding item
  unlabelled {d = d} {p = p} f = bind_ends (labelled_lawful text ts) item_lawfuls refl (leads_self (item text ts) d p)
      (both_then_fails pair (lawful_here ts) (lawful_maybe (label_lawful text ts) refl) refl (here_reads ts d p) f)

  pub item_point : {d : Room} {p : Place} {l : Option (List ℕ)} {q : Place} → Reads (λ _. maybe (label text ts)) d p l q → (In ts q.at (CrossWord ∷ []) → ⊥) →
      Leads (point text ts (offset ts p.at) l) d q (item text ts) d p (λ x. x)
  item_point r n = then (labelled r) (record { reads = λ x. left_reads (point_lawful text ts _ _) (cross_lawful text ts _ _) refl refl n x; fails = λ x. left_fails (point_lawful text ts _ _) (cross_lawful text ts _ _) refl refl n x })

  pub item_cross : {d : Room} {p : Place} {l : Option (List ℕ)} {q : Place} → Reads (λ _. maybe (label text ts)) d p l q → In ts q.at (CrossWord ∷ []) →
      Leads (cross text ts (offset ts p.at) l) d q (item text ts) d p (λ x. x)
  item_cross {p = p} {l = l} {q = q} r h = right (point_lawful text ts (offset ts p.at) l) (cross_lawful text ts (offset ts p.at) l) refl refl (labelled r) refl
      (λ v. In_apart ts q.at (CoverpointWord ∷ []) (CrossWord ∷ []) refl v h)

  -- member = optset | item | ";"
  abbrev set_lawful : Lawful ts (λ e. map_to (λ o. Opt o ∷ []) (optset text ts e))
  set_lawful = lawful_map (optset_lawful text ts) (λ o. Opt o ∷ [])

  abbrev item_member_lawful : Lawful ts (λ e. map_to (λ m. m ∷ []) (item text ts e))
  item_member_lawful = lawful_map (item_lawful text ts) (λ m. m ∷ [])

  abbrev semi_lawful : Lawful ts (λ _. map_to no_member (word ts Semi))
  semi_lawful = lawful_map (w Semi) no_member

  abbrev other_lawful : Lawful ts (λ e. either (map_to (λ m. m ∷ []) (item text ts e)) (map_to no_member (word ts Semi)))
  other_lawful = lawful_either item_member_lawful semi_lawful refl refl

  pub member_option : {d : Room} {p : Place} → In ts p.at option_words → Leads (optset text ts) d p (member text ts) d p (λ o. Opt o ∷ [])
  unfolding member
  member_option {d = d} {p = p} h = map_leads (λ o. Opt o ∷ []) (optset_lawful text ts) (left set_lawful other_lawful refl refl (leads_self (member text ts) d p) h)

  no_option : {d : Room} {p : Place} → (In ts p.at option_words → ⊥) → Leads (λ e. either (map_to (λ m. m ∷ []) (item text ts e)) (map_to no_member (word ts Semi))) d p (member text ts) d p (λ x. x)
  unfolding member
  no_option {d = d} {p = p} n = right set_lawful other_lawful refl refl (leads_self (member text ts) d p) refl n

  pub member_item : {d : Room} {p : Place} → (In ts p.at option_words → ⊥) → In ts p.at item_firsts → Leads (item text ts) d p (member text ts) d p (λ m. m ∷ [])
  member_item n h = map_leads (λ m. m ∷ []) (item_lawful text ts) (left item_member_lawful semi_lawful refl refl (no_option n) h)

  pub member_semi : {d : Room} {p : Place} {t : Marked} {q : Place} → In ts p.at (Semi ∷ []) → Reads (λ _. word ts Semi) d p t q → Reads (member text ts) d p [] q
  member_semi {p = p} h r = (map_leads no_member (w Semi) (right item_member_lawful semi_lawful refl refl (no_option (λ v. In_apart ts p.at option_words (Semi ∷ []) refl v h)) refl
      (λ v. In_apart ts p.at item_firsts (Semi ∷ []) refl v h))).reads r

  -- what stands between a group's `;` and its `endgroup`, with these members read
  abbrev pub Members : Room → Place → List Member → Place → Type 0
  Members d o ms p = Leads (λ e. many append (member text ts e) ms) d p (members text ts) d o (λ x. x)

  pub members_start : {d : Room} {p : Place} → Members d p [] p
  unfolding members
  members_start {d = d} {p = p} = leads_self (members text ts) d p

  pub members_next : {d : Room} {o : Place} (ms : List Member) {p : Place} {x : List Member} {q : Place} → Members d o ms p → Reads (member text ts) d p x q → Members d o (ms ++ x) q
  members_next ms l r = many_next append (member_lawful text ts) refl refl ms l r

  pub members_end : {d : Room} {o : Place} (ms : List Member) {p : Place} → Members d o ms p → (In ts p.at member_firsts → ⊥) → Reads (members text ts) d o ms p
  members_end ms l n = many_ends append (member_lawful text ts) refl refl ms l n

  -- edge = [ word ] ident [ "iff" expr ]
  abbrev iff_lawful : Lawful ts (λ e. ahead (word ts IffWord) (expr text ts e))
  iff_lawful = lawful_both _ (w IffWord) (expr_lawful text ts) refl

  abbrev pub maybe_iff : Room → Rule (Option Expr)
  maybe_iff r = maybe (ahead (word ts IffWord) (expr text ts r))

  pub no_iff : {d : Room} {p : Place} → (In ts p.at (IffWord ∷ []) → ⊥) → Reads maybe_iff d p None p
  no_iff {d = d} {p = p} n = without iff_lawful refl (leads_self maybe_iff d p) n

  pub at_iff : {d : Room} {p : Place} {t : Marked} {q : Place} → Reads (λ _. word ts IffWord) d p t q → Leads (expr text ts) d q maybe_iff d p (λ x. Some x)
  at_iff {d = d} {p = p} r = maybe_step iff_lawful refl (expr_lawful text ts) (leads_self maybe_iff d p)
      (step _ (w IffWord) (expr_lawful text ts) refl (leads_self (λ e. ahead (word ts IffWord) (expr text ts e)) d p) r)
      (let n = (one_next ts (IffWord ∷ []) r).0 in omega arith)

  abbrev edge_rest_lawful : Lawful ts (λ r. both pair (ident text ts) (maybe_iff r))
  edge_rest_lawful = lawful_both pair (ident_lawful text ts) (lawful_maybe iff_lawful refl) refl

  abbrev pub maybe_edge : Rule (Option Marked)
  maybe_edge = maybe (one ts edge_words)

  pub edge_named : {d : Room} {p : Place} {t : Option Marked} {q : Place} → Reads (λ _. maybe_edge) d p t q → Leads (λ r. both pair (ident text ts) (maybe_iff r)) d q (edge text ts) d p (edge_of t)
  unfolding edge
  edge_named {d = d} {p = p} r = step edge_of (lawful_maybe (lawful_one ts edge_words) refl) edge_rest_lawful refl (leads_self (edge text ts) d p) r

  pub edge_unnamed : {d : Room} {p : Place} {t : Option Marked} {q : Place} {e : Stop} → Reads (λ _. maybe_edge) d p t q → Fails (λ _. ident text ts) d q e → Fails (edge text ts) d p e
  edge_unnamed r f = ends pair (ident_lawful text ts) (lawful_maybe iff_lawful refl) refl (edge_named r) f

  pub edge_iff : {d : Room} {p : Place} {t : Option Marked} {q : Place} {x : List ℕ} {m : Place} → Reads (λ _. maybe_edge) d p t q → Reads (λ _. ident text ts) d q x m → Leads maybe_iff d m (edge text ts) d p (λ y. edge_of t (x, y))
  edge_iff r s = step pair (ident_lawful text ts) (lawful_maybe iff_lawful refl) refl (edge_named r) s

  pub edge_kind_read : {d : Room} {p : Place} {t : Marked} {q : Place} → Reads (λ _. one ts edge_words) d p t q → Reads (λ _. maybe_edge) d p (Some t) q
  edge_kind_read r = maybe_some (lawful_one ts edge_words) refl r

  pub no_edge_kind : {d : Room} {p : Place} → (In ts p.at edge_words → ⊥) → Reads (λ _. maybe_edge) d p None p
  no_edge_kind {d = d} {p = p} n = without (lawful_one ts edge_words) refl (leads_self (λ _. maybe_edge) d p) n

  behind_first : (d : Room) (q p : Place) → p.at < q.at → (e : Stop) → Fails (λ _. word ts Colon) d q e → Past p e
  behind_first d q p l Memory f = tt
  behind_first d q p l (Syntax k) f = let o = (facts_of (w Colon) d).order q k f.cause.begins in omega arith
  behind_first d q p l (TooDeep k) f = tt

  -- a label whose first token stands there
  pub label_begun : {d : Room} {p : Place} {x : List ℕ} {q : Place} {e : Stop} → Reads (λ _. ident text ts) d p x q → Fails (λ _. word ts Colon) d q e → Fails (λ _. maybe (label text ts)) d p e
  unfolding label
  label_begun {d = d} {p = p} {q = q} {e = e} r f = maybe_fails (label_lawful text ts) refl (behind_first d q p (reads_more (ident_lawful text ts) refl r) e f) (both_then_fails _ (ident_lawful text ts) (w Colon) refl r f)

  -- edge { ( "or" | "," ) edge }
  abbrev pub between : List Kind
  between = OrWord ∷ Comma ∷ []

  abbrev pub single : EdgeText → List EdgeText
  single x = x ∷ []

  abbrev pub edge_list : Room → Rule (List EdgeText)
  edge_list e = fold snoc (map_to single (edge text ts e)) (ahead (one ts between) (edge text ts e))

  abbrev more_edge_lawful : Lawful ts (λ e. ahead (one ts between) (edge text ts e))
  more_edge_lawful = lawful_both _ (lawful_one ts between) (edge_lawful text ts) refl

  abbrev edge_list_lawful : Lawful ts edge_list
  edge_list_lawful = lawful_fold snoc (lawful_map (edge_lawful text ts) single) more_edge_lawful refl refl refl

  -- "(" edge { ( "or" | "," ) edge } ")"
  abbrev closed_lawful : Lawful ts (λ e. behind (edge_list e) (word ts CloseParen))
  closed_lawful = lawful_both _ edge_list_lawful (w CloseParen) refl

  abbrev pub edge_parens : Room → Rule (List EdgeText)
  edge_parens e = ahead (word ts OpenParen) (behind (edge_list e) (word ts CloseParen))

  abbrev pub in_parens_lawful : Lawful ts edge_parens
  in_parens_lawful = lawful_both _ (w OpenParen) closed_lawful refl

  pub event_unopened : {d : Room} {p : Place} {e : Stop} → Fails (λ _. word ts OpenParen) d p e → Fails edge_parens d p e
  event_unopened f = both_fails _ (w OpenParen) closed_lawful refl f

  event_edges : {d : Room} {p : Place} {u : Marked} {m : Place} → Reads (λ _. word ts OpenParen) d p u m → Leads (λ e. behind (edge_list e) (word ts CloseParen)) d m edge_parens d p (λ x. x)
  event_edges {d = d} {p = p} s = step _ (w OpenParen) closed_lawful refl (leads_self edge_parens d p) s

  pub event_stops : {d : Room} {p : Place} {u : Marked} {m : Place} {e : Stop} → Reads (λ _. word ts OpenParen) d p u m → Fails edge_list d m e → Fails edge_parens d p e
  event_stops s f = ends _ edge_list_lawful (w CloseParen) refl (event_edges s) f

  pub event_closes : {d : Room} {p : Place} {u : Marked} {m : Place} {es : List EdgeText} {k : Place} → Reads (λ _. word ts OpenParen) d p u m → Reads edge_list d m es k → Leads (λ _. word ts CloseParen) d k edge_parens d p (λ _. es)
  event_closes s x = step _ edge_list_lawful (w CloseParen) refl (event_edges s) x

  -- a member whose first token stands there fails behind it
  ident_begins : (p : Place) → In ts p.at (Ident ∷ []) → (ident text ts).begins p (p.at + 1)
  unfolding ident map_to bind one
  ident_begins p h = inl (inr (h.token, h.stands, h.of, refl))

  label_begins : (p : Place) → In ts p.at (Ident ∷ []) → (maybe (label text ts)).begins p (p.at + 1)
  unfolding maybe either label both map_to bind
  label_begins p h = inr (inl (inl (ident_begins p h)))

  optset_begins : (p : Place) (d : Room) → In ts p.at option_words → (optset text ts d).begins p (p.at + 1)
  unfolding optset
  optset_begins p d h = both_opens _ ts option_words _ p h

  point_begins : (p : Place) (start : ℕ) (l : Option (List ℕ)) (d : Room) → In ts p.at (CoverpointWord ∷ []) → (point text ts start l d).begins p (p.at + 1)
  unfolding point both bind one
  point_begins p start l d h = inl (inl (inr (h.token, h.stands, h.of, refl)))

  cross_begins : (p : Place) (start : ℕ) (l : Option (List ℕ)) (d : Room) → In ts p.at (CrossWord ∷ []) → (cross text ts start l d).begins p (p.at + 1)
  unfolding cross both bind one
  cross_begins p start l d h = inl (inl (inr (h.token, h.stands, h.of, refl)))

  item_behind : (p : Place) (d : Room) → (In ts p.at (Ident ∷ []) → ⊥) → (n : ℕ) → (either (point text ts (offset ts p.at) None d) (cross text ts (offset ts p.at) None d)).begins p n → (item text ts d).begins p n
  unfolding item bind
  item_behind p d n m b = inr ((offset ts p.at, None), p, (both_reads pair (lawful_here ts) (lawful_maybe (label_lawful text ts) refl) refl (here_reads ts d p) (maybe_none (label_lawful text ts) refl {d = d} {p = p} n)).derives, b)

  item_named : (p : Place) (d : Room) → In ts p.at (Ident ∷ []) → (item text ts d).begins p (p.at + 1)
  unfolding item both map_to bind here
  item_named p d h = inl (inr (offset ts p.at, p, (refl, refl), inl (label_begins p h)))

  item_tests : (p : Place) (d : Room) → In ts p.at (CoverpointWord ∷ []) → (item text ts d).begins p (p.at + 1)
  unfolding either
  item_tests p d h = item_behind p d (λ v. In_apart ts p.at (Ident ∷ []) (CoverpointWord ∷ []) refl v h) _ (inl (point_begins p (offset ts p.at) None d h))

  item_crosses : (p : Place) (d : Room) → In ts p.at (CrossWord ∷ []) → (item text ts d).begins p (p.at + 1)
  unfolding either
  item_crosses p d h = item_behind p d (λ v. In_apart ts p.at (Ident ∷ []) (CrossWord ∷ []) refl v h) _ (inr (cross_begins p (offset ts p.at) None d h))

  item_begins : (p : Place) (d : Room) → In ts p.at item_firsts → (item text ts d).begins p (p.at + 1)
  item_begins p d h = elim (In_split ts p.at (Ident ∷ []) (CoverpointWord ∷ CrossWord ∷ []) h) [
    | inl i ↦ item_named p d i
    | inr o ↦ elim (In_split ts p.at (CoverpointWord ∷ []) (CrossWord ∷ []) o) [ inl i ↦ item_tests p d i | inr i ↦ item_crosses p d i ]
  ]

  member_begins : (p : Place) (d : Room) → In ts p.at (option_words ++ item_firsts) → (member text ts d).begins p (p.at + 1)
  unfolding member either map_to bind
  member_begins p d h = elim (In_split ts p.at option_words item_firsts h) [
    | inl o ↦ inl (inl (optset_begins p d o))
    | inr i ↦ inr (inl (inl (item_begins p d i)))
  ]

  pub member_past : {d : Room} {p : Place} (e : Stop) → In ts p.at (option_words ++ item_firsts) → Fails (member text ts) d p e → Past p e
  member_past Memory h f = tt
  member_past {d = d} {p = p} (Syntax k) h f = let l = f.cause.reach d (p.at + 1) (member_begins p d h) in omega arith
  member_past (TooDeep k) h f = tt

  pub member_breaks : {d : Room} {o : Place} (ms : List Member) {p : Place} (e : Stop) → Members d o ms p → In ts p.at (option_words ++ item_firsts) → Fails (member text ts) d p e → Fails (members text ts) d o e
  member_breaks ms e l h f = many_breaks append (member_lawful text ts) refl refl ms l (member_past e h f) f

  pub nothing_more : {d : Room} {o : Place} (ms : List Member) {p : Place} → Members d o (ms ++ []) p → Members d o ms p
  nothing_more {d = d} {o = o} ms {p = p} l = subst (λ ms. Members d o ms p) (append-nil ms) l

  pub items_left : (p : Place) → In ts p.at (option_words ++ item_firsts) → (In ts p.at option_words → ⊥) → In ts p.at item_firsts
  items_left p h n = elim (In_split ts p.at option_words item_firsts h) [ inl o ↦ absurd (n o) | inr i ↦ i ]

  -- what a reader of an item and of an option answered
  pub item_read_as : {d : Room} {p : Place} (r : Result (Member × Place) Stop) → Leads (item text ts) d p (member text ts) d p (λ m. m ∷ []) → Parses (item text ts) d p r → IfOk r (λ x. Reads (member text ts) d p (x.0 ∷ []) x.1)
  item_read_as (Ok x) l h = l.reads h
  item_read_as (Err e) l h = tt

  pub item_fails_as : {d : Room} {p : Place} (r : Result (Member × Place) Stop) → Leads (item text ts) d p (member text ts) d p (λ m. m ∷ []) → Parses (item text ts) d p r → IfErr r (Fails (member text ts) d p)
  item_fails_as (Ok x) l h = tt
  item_fails_as (Err e) l h = l.fails h
