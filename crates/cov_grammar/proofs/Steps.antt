-- Where a reader stands, from one part of a rule to the next.
use Rattle.std.proofs.Common.{◌≡◌, ℕ, zero, suc, ◌+◌, ◌-◌, ◌<◌, ◌≤◌, List, [], ◌∷◌, ◌++◌, Option, Some, None, Result, Ok, Err, true, false, ◌&&◌, inl, inr, get_or, length, slice_get, slice_range, add-one, refl, sym, ◌∙◌, ap, subst, arith}
use Rattle.std.proofs.lemmas.Bool.{cases_lt}
use Rattle.std.proofs.lemmas.Option.{slice_get_read, slice_get_within}
use Rattle.std.proofs.lemmas.List.{get_or_default}
use Rattle.std.proofs.lemmas.Result.{err_from_is_err_and}
use Rattle.std.specs.Result.{IsErrAnd}
use Rattle.cov_lexer.specs.declared.kind.Kind.{Kind}
use Rattle.cov_grammar.specs.declared.marked.Marked.{Marked}
use Rattle.cov_grammar.specs.declared.place.Place.{Place}
use Rattle.cov_grammar.specs.declared.place.Room.{Room}
use Rattle.cov_grammar.specs.declared.place.Stop.{Stop}
use Rattle.cov_grammar.specs.declared.place.Stop.TheVariants.{Memory, Syntax, TooDeep}
use Rattle.cov_lexer.specs.Kinds.{has}
use Rattle.cov_grammar.specs.Rule.{Rule, In, after, one, same_word, counted, give, here, offset, never, bind, either, many, map_to, both, fold, maybe, afresh}
use Rattle.cov_grammar.specs.Parses.{Reads, Cause, Fails, Parses}
use Rattle.cov_grammar.proofs.Sets.{disjoint, when, split, In_apart}
use Rattle.cov_grammar.proofs.Sound.{many_sound}
use Rattle.cov_grammar.proofs.Lawful.{Lawful, Lawfuls, facts_of, full, lawful_both}
use Rattle.cov_grammar.proofs.Compose.{Past, bind_reads, bind_fails, bind_then_fails, map_reads, map_fails, both_reads, both_fails, both_then_fails, left_reads, left_fails, right_reads, right_fails, maybe_none, maybe_some, maybe_fails, many_done, many_fails, more_reads, more_fails, counting_anew, afresh_reads}

-- What F reads from p is what G reads from m, with its tree changed, and where F fails G does.
pub record Leads {T U : Type 0} (F : Room → Rule T) (d : Room) (p : Place) (G : Room → Rule U) (b : Room) (m : Place) (g : T → U) : Type 0 where
  pub reads : {t : T} {q : Place} → Reads F d p t q → Reads G b m (g t) q
  pub fails : {s : Stop} → Fails F d p s → Fails G b m s

pub leads_self : {T : Type 0} (F : Room → Rule T) (d : Room) (p : Place) → Leads F d p F d p (λ t. t)
leads_self F d p = record { reads = λ r. r; fails = λ f. f }

-- one after another
pub then : {R T U : Type 0} {E : Room → Rule R} {F : Room → Rule T} {G : Room → Rule U} {c : Room} {k : Place} {d : Room} {p : Place} {b : Room} {m : Place} {g : T → U} {h : R → T} →
    Leads F d p G b m g → Leads E c k F d p h → Leads E c k G b m (λ t. g (h t))
then l n = record { reads = λ r. l.reads (n.reads r); fails = λ r. l.fails (n.fails r) }

pub leads_parses : {T : Type 0} {F : Room → Rule T} {d : Room} {p : Place} {G : Room → Rule T} {b : Room} {m : Place} (r : Result (T × Place) Stop) →
    Leads F d p G b m (λ t. t) → Parses F d p r → Parses G b m r
leads_parses (Ok x) l h = l.reads h
leads_parses (Err s) l h = l.fails h

-- the exit of a `?`: the answer of a part, and want of memory
pub exits : {T : Type 0} (F : Room → Rule T) (d : Room) (p : Place) (s : Stop) (r : Result (T × Place) Stop) → IsErrAnd r (λ e. e ≡ s) → Fails F d p s → Parses F d p r
exits F d p s r h f =
    let x = err_from_is_err_and r h in
    rw (x.1, x.2) f

pub no_memory : {T : Type 0} (F : Room → Rule T) (d : Room) (p : Place) (r : Result (T × Place) Stop) → IsErrAnd r (λ e. e ≡ Memory) → Parses F d p r
no_memory F d p r h = exits F d p Memory r h (record { cause = tt })

-- one token
pub one_reads : (ts : List Marked) (ks : List Kind) (d : Room) (p : Place) (t u : Marked) → p.at < length ts → t ≡ get_or ts p.at u → has t.kind ks ≡ true → Reads (λ _. one ts ks) d p t (after p p.used)
unfolding one
one_reads ts ks d p t u l e h = record {
  derives = (slice_get_read ts (length ts) p.at t refl l (e ∙ get_or_default ts p.at u t l), h, refl);
  reach = λ e n x. elim x [ inl y ↦ omega (arith, y) | inr y ↦ omega (arith, y.3) ];
}

pub one_here : (ts : List Marked) (ks : List Kind) (d : Room) (p : Place) (t : Marked) (q : Place) → Reads (λ _. one ts ks) d p t q → In ts p.at ks
unfolding one
one_here ts ks d p t q r = record { token = t; stands = r.derives.0; of = r.derives.1 }

pub one_fails : (ts : List Marked) (ks : List Kind) (d : Room) (p : Place) → (In ts p.at ks → ⊥) → Fails (λ _. one ts ks) d p (Syntax p.at)
unfolding one
one_fails ts ks d p h = record {
  cause = record {
    begins = inl refl;
    reach = λ e n x. elim x [ inl y ↦ omega (arith, y) | inr y ↦ absurd (h (record { token = y.0; stands = y.1; of = y.2 })) ];
    none = λ e t q x qk. h (record { token = t; stands = x.0; of = x.1 });
  };
}

-- an operator that is counted
pub counted_reads : (ts : List Marked) (ks : List Kind) {d : Room} {p : Place} {t : Marked} {q : Place} → Reads (λ _. one ts ks) d p t q → p.used < d.operators → (r : Place) → r ≡ after p (p.used + 1) →
    Reads (λ r. counted ts r.operators ks) d p t r
unfolding one counted
counted_reads ts ks {d = d} {p = p} {t = t} r l place same = record {
  derives = (r.derives.0, r.derives.1, l, same);
  reach = λ e n x. let at = ap (λ (z : Place). z.at) same in elim x [ inl y ↦ omega (arith, y, at) | inr y ↦ omega (arith, y.4, at) ];
}

pub counted_sinks : (ts : List Marked) (ks : List Kind) {d : Room} {p : Place} → In ts p.at ks → d.operators ≤ p.used → Fails (λ r. counted ts r.operators ks) d p (TooDeep p.at)
unfolding counted
counted_sinks ts ks {d = d} {p = p} h l = record {
  cause = record {
    begins = inl refl;
    more = record { levels = d.levels; operators = p.used + 1 };
    deeper = inr (h.token, h.stands, h.of, omega arith, refl);
    reach = λ n x. elim x [ inl y ↦ omega (arith, y) | inr y ↦ (let u = y.3 in absurd (omega arith)) ];
  };
}

pub counted_fails : (ts : List Marked) (ks : List Kind) (d : Room) (p : Place) → (In ts p.at ks → ⊥) → Fails (λ r. counted ts r.operators ks) d p (Syntax p.at)
unfolding counted
counted_fails ts ks d p h = record {
  cause = record {
    begins = inl refl;
    reach = λ e n x. elim x [ inl y ↦ omega (arith, y) | inr y ↦ absurd (h (record { token = y.0; stands = y.1; of = y.2 })) ];
    none = λ e t q x qk. h (record { token = t; stands = x.0; of = x.1 });
  };
}

-- a word of this text
pub same_word_reads : (text : List ℕ) (ts : List Marked) (k : Kind) (spelling : List ℕ) {d : Room} {p : Place} {t : Marked} {q : Place} →
    Reads (λ _. one ts (k ∷ [])) d p t q → slice_range text t.at (t.at + t.len) ≡ spelling → Reads (λ _. same_word text ts k spelling) d p t q
unfolding one same_word
same_word_reads text ts k spelling {q = q} r s = record {
  derives = (r.derives.0, r.derives.1, s, r.derives.2);
  reach = λ e n x. let at = ap (λ (z : Place). z.at) r.derives.2 in elim x [ inl y ↦ omega (arith, y, at) | inr y ↦ omega (arith, y.4, at) ];
}

pub same_word_differs : (text : List ℕ) (ts : List Marked) (k : Kind) (spelling : List ℕ) {d : Room} {p : Place} {t : Marked} {q : Place} →
    Reads (λ _. one ts (k ∷ [])) d p t q → (slice_range text t.at (t.at + t.len) ≡ spelling → ⊥) → Fails (λ _. same_word text ts k spelling) d p (Syntax p.at)
unfolding one same_word
same_word_differs text ts k spelling {p = p} {t = t} r s =
    let wrong : (u : Marked) → slice_get ts p.at ≡ Some u → slice_range text u.at (u.at + u.len) ≡ spelling → ⊥ = (λ u h e.
    let same : Some t ≡ Some u = sym r.derives.0 ∙ h in
    let eq : u ≡ t = cc in
    s (subst (λ (x : Marked). slice_range text x.at (x.at + x.len) ≡ spelling) eq e)) in record {
      cause = record {
        begins = inl refl;
        reach = λ e n x. elim x [ inl y ↦ omega (arith, y) | inr y ↦ absurd (wrong y.0 y.1 y.3) ];
        none = λ e u q x qk. wrong u x.0 x.2;
      };
    }

pub same_word_fails : (text : List ℕ) (ts : List Marked) (k : Kind) (spelling : List ℕ) (d : Room) (p : Place) → (In ts p.at (k ∷ []) → ⊥) → Fails (λ _. same_word text ts k spelling) d p (Syntax p.at)
unfolding same_word
same_word_fails text ts k spelling d p h = record {
  cause = record {
    begins = inl refl;
    reach = λ e n x. elim x [ inl y ↦ omega (arith, y) | inr y ↦ absurd (h (record { token = y.0; stands = y.1; of = y.2 })) ];
    none = λ e t q x qk. h (record { token = t; stands = x.0; of = x.1 });
  };
}

-- no token
pub give_reads : {T : Type 0} (x : T) (d : Room) (p : Place) → Reads (λ _. give x) d p x p
unfolding give
give_reads x d p = record { derives = (refl, refl); reach = λ e n h. omega (arith, h) }

pub here_reads : (ts : List Marked) (d : Room) (p : Place) → Reads (λ _. here ts) d p (offset ts p.at) p
unfolding here
here_reads ts d p = record { derives = (refl, refl); reach = λ e n h. omega (arith, h) }

-- a rule that begins with a token begins where it stands
pub both_opens : {S T : Type 0} (f : Marked → S → T) (ts : List Marked) (ks : List Kind) (B : Rule S) (p : Place) → In ts p.at ks → (both f (one ts ks) B).begins p (p.at + 1)
unfolding both bind one
both_opens f ts ks B p h = inl (inr (h.token, h.stands, h.of, refl))

-- where no token of the rule stands
pub no_start : {T : Type 0} {ts : List Marked} {G : Room → Rule T} (lg : Lawful ts G) → lg.null ≡ false → {d : Room} {p : Place} → (In ts p.at lg.first → ⊥) → Fails G d p (Syntax p.at)
no_start {ts = ts} {G = G} lg filled {d = d} {p = p} h = record {
  cause = record {
    begins = (facts_of lg d).empty p;
    reach = λ e n g. elim (cases_lt p.at n) [ inl l ↦ absurd (h ((facts_of lg e).starts p n g l)) | inr k ↦ k ];
    none = λ e t q g qk. let b = ((facts_of lg e).blank p t q g qk).0 in cc filled;
  };
}

-- One part is read, and the rest leads on.
module _ {S T U V : Type 0} {ts : List Marked} {A : Room → Rule S} {B : Room → Rule T} (f : S → T → U) (la : Lawful ts A) (lb : Lawful ts B) (apart : disjoint la.cont lb.first ≡ true)
    {G : Room → Rule V} {d : Room} {p : Place} {b : Room} {m : Place} {g : U → V} (l : Leads (λ e. both f (A e) (B e)) d p G b m g) where
  pub step : {a : S} {q : Place} → Reads A d p a q → Leads B d q G b m (λ t. g (f a t))
  step r = record { reads = λ q. l.reads (both_reads f la lb apart r q); fails = λ q. l.fails (both_then_fails f la lb apart r q) }

  pub ends : {s : Stop} → Fails A d p s → Fails G b m s
  ends q = l.fails (both_fails f la lb apart q)

-- the same where the rest depends on what was read
module _ {S T V : Type 0} {ts : List Marked} {A : Room → Rule S} {B : Room → S → Rule T} (la : Lawful ts A) (lb : Lawfuls ts B) (apart : disjoint la.cont lb.first ≡ true)
    {G : Room → Rule V} {d : Room} {p : Place} {b : Room} {m : Place} {g : T → V} (l : Leads (λ e. bind (A e) (B e)) d p G b m g) where
  pub bind_step : {a : S} {q : Place} → Reads A d p a q → Leads (λ e. B e a) d q G b m g
  bind_step {a = a} {q = q} r = record {
    reads = λ {t = u} {q = k} x. l.reads (bind_reads ts A B la lb apart d p a q u k r x);
    fails = λ {s} x. l.fails (record { cause = bind_then_fails ts A B la lb apart d p a q s r x.cause });
  }

  pub bind_ends : {s : Stop} → Fails A d p s → Fails G b m s
  bind_ends {s = s} x = l.fails (record { cause = bind_fails ts A B la lb apart d p s x.cause })

pub map_leads : {S T V : Type 0} {ts : List Marked} {A : Room → Rule S} (f : S → T) (la : Lawful ts A) {G : Room → Rule V} {d : Room} {p : Place} {b : Room} {m : Place} {g : T → V} →
    Leads (λ e. map_to f (A e)) d p G b m g → Leads A d p G b m (λ t. g (f t))
map_leads f la l = record { reads = λ r. l.reads (map_reads f la r); fails = λ r. l.fails (map_fails f la r) }

past : {T : Type 0} {ts : List Marked} {B : Room → Rule T} (lb : Lawful ts B) (c : Room) (m p : Place) → p.at < m.at → (s : Stop) → Fails B c m s → Past p s
past lb c m p l Memory f = tt
past lb c m p l (Syntax k) f = let o = (facts_of lb c).order m k f.cause.begins in omega arith
past lb c m p l (TooDeep k) f = tt

-- where there is one
module _ {S V : Type 0} {ts : List Marked} {A : Room → Rule S} (la : Lawful ts A) (filled : la.null ≡ false)
    {G : Room → Rule V} {d : Room} {p : Place} {b : Room} {m : Place} {g : Option S → V} (l : Leads (λ e. maybe (A e)) d p G b m g) where
  pub without : (In ts p.at la.first → ⊥) → Reads G b m (g None) p
  without h = l.reads (maybe_none la filled h)

-- behind the first token of a part that may be left out
pub maybe_step : {S T V : Type 0} {ts : List Marked} {A : Room → Rule S} {B : Room → Rule T} (la : Lawful ts A) (filled : la.null ≡ false) (lb : Lawful ts B)
    {G : Room → Rule V} {d : Room} {p : Place} {b : Room} {m : Place} {g : Option S → V} {c : Room} {q : Place} {h : T → S} →
    Leads (λ e. maybe (A e)) d p G b m g → Leads B c q A d p h → p.at < q.at → Leads B c q G b m (λ x. g (Some (h x)))
maybe_step {ts = ts} {B = B} la filled lb {p = p} {c = c} {q = q} l n more = record {
  reads = λ r. l.reads (maybe_some la filled (n.reads r));
  fails = λ {s} r. l.fails (maybe_fails la filled (past lb c q p more s r) (n.fails r));
}

-- the same where the first token stands there: the part itself
pub maybe_there : {S V : Type 0} {ts : List Marked} {A : Room → Rule S} (la : Lawful ts A) (filled : la.null ≡ false)
    {G : Room → Rule V} {d : Room} {p : Place} {b : Room} {m : Place} {g : Option S → V} → Leads (λ e. maybe (A e)) d p G b m g →
    {s : S} {q : Place} → Reads A d p s q → Reads G b m (g (Some s)) q
maybe_there la filled l r = l.reads (maybe_some la filled r)

-- A or B, by the token that stands there
module _ {T V : Type 0} {ts : List Marked} {A B : Room → Rule T} (la : Lawful ts A) (lb : Lawful ts B) (filled : lb.null ≡ false) (apart : disjoint la.first lb.first ≡ true)
    {G : Room → Rule V} {d : Room} {p : Place} {b : Room} {m : Place} {g : T → V} (l : Leads (λ e. either (A e) (B e)) d p G b m g) where
  pub left : In ts p.at la.first → Leads A d p G b m g
  left h =
      let no-b : In ts p.at lb.first → ⊥ = λ k. In_apart ts p.at la.first lb.first apart h k in
      record { reads = λ r. l.reads (left_reads la lb filled apart no-b r); fails = λ r. l.fails (left_fails la lb filled apart no-b r) }

  pub right : la.null ≡ false → (In ts p.at la.first → ⊥) → Leads B d p G b m g
  right full h = record { reads = λ r. l.reads (right_reads la lb filled apart h r); fails = λ r. l.fails (right_fails la lb filled apart full h r) }

-- A with a count of its own
pub afresh_leads : {T : Type 0} (A : Room → Rule T) (d : Room) (p : Place) {q : Place} {t : T} (r : Place) → Reads A d (counting_anew p) t q → r ≡ record { at = q.at; used = p.used } → Reads (λ e. afresh (A e)) d p t r
afresh_leads A d p r x e = afresh_reads A r x e

-- one level deeper
module _ {T : Type 0} {ts : List Marked} {P : Room → Rule T} (lp : Lawful ts P) (G : Room → Rule T)
    (at_zero : (n : ℕ) → G (record { levels = 0; operators = n }) ≡ never) (from_next : (m n : ℕ) → G (record { levels = suc m; operators = n }) ≡ P (record { levels = m; operators = n })) where
  at_next : (m n : ℕ) → G (record { levels = m + 1; operators = n }) ≡ P (record { levels = m; operators = n })
  at_next m n = subst (λ k. G (record { levels = k; operators = n }) ≡ P (record { levels = m; operators = n })) (sym (add-one m)) (from_next m n)

  nowhere : (o : ℕ) (p : Place) (n : ℕ) → (G (record { levels = 0; operators = o })).begins p n → n ≡ p.at
  unfolding never
  nowhere o p n h = let h' : (never {T = T}).begins p n = subst (λ (R : Rule T). R.begins p n) (at_zero o) h in h'

  nothing : (o : ℕ) (p : Place) (t : T) (q : Place) → (G (record { levels = 0; operators = o })).derives p t q → ⊥
  unfolding never
  nothing o p t q h = let h' : (never {T = T}).derives p t q = subst (λ (R : Rule T). R.derives p t q) (at_zero o) h in h'

  -- a fact of each place, from that of P
  reach_at : (m o : ℕ) (p : Place) (k : ℕ) → p.at ≤ k → ((e : Room) (n : ℕ) → (P e).begins p n → n ≤ k) → (n : ℕ) → (G (record { levels = m; operators = o })).begins p n → n ≤ k
  reach_at zero o p k l r n h = let e = nowhere o p n h in omega arith
  reach_at (suc m) o p k l r n h = r _ n (subst (λ (R : Rule T). R.begins p n) (from_next m o) h)

  deep_reach : (p : Place) (k : ℕ) → p.at ≤ k → ((e : Room) (n : ℕ) → (P e).begins p n → n ≤ k) → (e : Room) (n : ℕ) → (G e).begins p n → n ≤ k
  deep_reach p k l r e n h = reach_at e.levels e.operators p k l r n h

  none_at : (m o : ℕ) (p : Place) (k : ℕ) → ((e : Room) (t : T) (q : Place) → (P e).derives p t q → q.at ≡ k → ⊥) → (t : T) (q : Place) → (G (record { levels = m; operators = o })).derives p t q → q.at ≡ k → ⊥
  none_at zero o p k r t q h e = nothing o p t q h
  none_at (suc m) o p k r t q h e = r _ t q (subst (λ (R : Rule T). R.derives p t q) (from_next m o) h) e

  above : Room → Room
  above d = record { levels = suc d.levels; operators = d.operators }

  up : (d : Room) → G (above d) ≡ P d
  unfolding above
  up d = from_next d.levels d.operators

  deep_cause : (d : Room) (p : Place) (s : Stop) → Cause P d p s → Cause G (above d) p s
  deep_cause d p Memory c = tt
  deep_cause d p (Syntax k) c = record {
    begins = subst (λ (R : Rule T). R.begins p k) (sym (up d)) c.begins;
    reach = deep_reach p k ((facts_of lp d).order p k c.begins) c.reach;
    none = λ e t q h qk. none_at e.levels e.operators p k c.none t q h qk;
  }
  deep_cause d p (TooDeep k) c = record {
    begins = subst (λ (R : Rule T). R.begins p k) (sym (up d)) c.begins;
    more = above c.more;
    deeper = subst (λ (R : Rule T). R.begins p (k + 1)) (sym (up c.more)) c.deeper;
    reach = λ n h. c.reach n (subst (λ (R : Rule T). R.begins p n) (up d) h);
  }

  -- b is d with one level less
  above_is : (b d : Room) → b.levels + 1 ≡ d.levels → b.operators ≡ d.operators → above b ≡ d
  unfolding above
  above_is b d e f =
      let made : ℕ → ℕ → Room = λ m n. record { levels = m; operators = n } in
      let e' : suc b.levels ≡ d.levels = sym (add-one b.levels) ∙ e in
      ap (λ m. made m b.operators) e' ∙ ap (λ n. made d.levels n) f

  pub deep_leads : {b d : Room} {p : Place} → b.levels + 1 ≡ d.levels → b.operators ≡ d.operators → Leads P b p G d p (λ t. t)
  deep_leads {b = b} {d = d} {p = p} e f = record {
    reads = λ {t} {q} r. subst (λ d. Reads G d p t q) (above_is b d e f) (record {
      derives = subst (λ (R : Rule T). R.derives p t q) (sym (up b)) r.derives;
      reach = deep_reach p q.at ((facts_of lp b).order p q.at ((facts_of lp b).whole p t q r.derives)) r.reach;
    });
    fails = λ {s} r. subst (λ d. Fails G d p s) (above_is b d e f) (record { cause = deep_cause b p s r.cause });
  }

  -- no room for the token that begins it
  pub deep_sinks : {d : Room} {p : Place} → d.levels ≡ 0 → ((o : ℕ) → (P (record { levels = 0; operators = o })).begins p (p.at + 1)) → Fails G d p (TooDeep p.at)
  unfolding never
  deep_sinks {d = d} {p = p} e b =
      let made : ℕ → Room = λ m. record { levels = m; operators = d.operators } in
      let at : made 0 ≡ d = ap made (sym e) in
      subst (λ d. Fails G d p (TooDeep p.at)) at (record {
        cause = record {
          begins = subst (λ (R : Rule T). R.begins p p.at) (sym (at_zero d.operators)) refl;
          more = record { levels = 1; operators = d.operators };
          deeper = subst (λ (R : Rule T). R.begins p (p.at + 1)) (sym (from_next 0 d.operators)) (b d.operators);
          reach = λ n h. let e = nowhere d.operators p n h in omega arith;
        };
      })

-- A any number of times
module _ {S U V : Type 0} {ts : List Marked} {A : Room → Rule U} (f : S → U → S) (la : Lawful ts A) (filled : la.null ≡ false) (again : disjoint la.cont la.first ≡ true)
    {G : Room → Rule V} {d : Room} {p : Place} {b : Room} {m : Place} (acc : S) {g : S → V} (l : Leads (λ e. many f (A e) acc) d p G b m g) where
  pub many_next : {x : U} {q : Place} → Reads A d p x q → Leads (λ e. many f (A e) (f acc x)) d q G b m g
  many_next r = record { reads = λ n. l.reads (more_reads f la filled again acc r n); fails = λ n. l.fails (more_fails f la filled again acc r n) }

  pub many_ends : (In ts p.at la.first → ⊥) → Reads G b m (g acc) p
  many_ends n = l.reads (many_done f la filled again n)

  pub many_breaks : {s : Stop} → Past p s → Fails A d p s → Fails G b m s
  many_breaks h n = l.fails (many_fails f la filled again acc h n)

-- A and then any number of B
module _ {S T : Type 0} {ts : List Marked} {A : Room → Rule S} {B : Room → Rule T} (f : S → T → S) (la : Lawful ts A) (lb : Lawful ts B) (filled : lb.null ≡ false)
    (apart : disjoint la.cont lb.first ≡ true) (again : disjoint lb.cont lb.first ≡ true) where
  items : Lawfuls ts (λ (e : Room) (x : S). many f (B e) x)
  items = record { first = lb.first; cont = lb.cont ++ lb.first; null = true; sound = λ x d e h. many_sound f x (full lb filled d e h) again }

  pub fold_fails : {d : Room} {p : Place} {s : Stop} → Fails A d p s → Fails (λ e. fold f (A e) (B e)) d p s
  unfolding fold items
  fold_fails {d = d} {p = p} {s = s} r = record { cause = bind_fails ts A (λ e x. many f (B e) x) la items apart d p s r.cause }

  pub fold_starts : {d : Room} {p : Place} {a : S} {q : Place} → Reads A d p a q → Leads (λ e. many f (B e) a) d q (λ e. fold f (A e) (B e)) d p (λ s. s)
  unfolding fold items
  fold_starts {d = d} {p = p} {a = a} {q = q} r = record {
    reads = λ {t = u} {q = k} n. bind_reads ts A (λ e x. many f (B e) x) la items apart d p a q u k r n;
    fails = λ {s} n. record { cause = bind_then_fails ts A (λ e x. many f (B e) x) la items apart d p a q s r n.cause };
  }

-- an item of any number of them that begins with a token
module _ {S T U V : Type 0} {ts : List Marked} {O : Room → Rule Marked} {B : Room → Rule T} (f : S → U → S) (h : Marked → T → U) (lo : Lawful ts O) (lb : Lawful ts B)
    (apart : disjoint lo.cont lb.first ≡ true) (full_o : (lo.null && lb.null) ≡ false) (again : disjoint (lb.cont ++ when lb.null lo.cont) (lo.first ++ when lo.null lb.first) ≡ true)
    {G : Room → Rule V} {d : Room} {p : Place} {b : Room} {m : Place} (acc : S) {g : S → V} (l : Leads (λ e. many f (both h (O e) (B e)) acc) d p G b m g) where
  pub item_read : {t : Marked} {q : Place} {x : T} {k : Place} → Reads O d p t q → Reads B d q x k → Leads (λ e. many f (both h (O e) (B e)) (f acc (h t x))) d k G b m g
  item_read r s = many_next f (lawful_both h lo lb apart) full_o again acc l (both_reads h lo lb apart r s)

  pub item_fails : {t : Marked} {q : Place} {s : Stop} → Reads O d p t q → p.at < q.at → Fails B d q s → Fails G b m s
  item_fails {q = q} {s = s} r more n = many_breaks f (lawful_both h lo lb apart) full_o again acc l (past lb d q p more s n) (both_then_fails h lo lb apart r n)

  -- the token itself is too deep
  pub item_sinks : {k : ℕ} → Fails O d p (TooDeep k) → Fails G b m (TooDeep k)
  item_sinks n = many_breaks f (lawful_both h lo lb apart) full_o again acc l tt (both_fails h lo lb apart n)

  pub no_item : (In ts p.at (lo.first ++ when lo.null lb.first) → ⊥) → Reads G b m (g acc) p
  no_item n = many_ends f (lawful_both h lo lb apart) full_o again acc l n

-- a token takes one place
pub one_next : (ts : List Marked) (ks : List Kind) {d : Room} {p : Place} {t : Marked} {q : Place} → Reads (λ _. one ts ks) d p t q → (q.at ≡ p.at + 1) × (q.used ≡ p.used) × (p.at < length ts)
unfolding one
one_next ts ks {p = p} {t = t} r = (ap (λ (z : Place). z.at) r.derives.2, ap (λ (z : Place). z.used) r.derives.2, slice_get_within ts p.at t r.derives.0)

-- what is read ends no earlier than it begins, and inside where it has a token
pub reads_order : {T : Type 0} {ts : List Marked} {B : Room → Rule T} (lb : Lawful ts B) {d : Room} {p : Place} {x : T} {q : Place} → Reads B d p x q → p.at ≤ q.at
reads_order lb {d = d} {p = p} {x = x} {q = q} r = (facts_of lb d).order p q.at ((facts_of lb d).whole p x q r.derives)

pub reads_inside : {T : Type 0} {ts : List Marked} {B : Room → Rule T} (lb : Lawful ts B) {d : Room} {p : Place} {x : T} {q : Place} → Reads B d p x q → p.at < q.at → q.at ≤ length ts
reads_inside lb {d = d} {p = p} {x = x} {q = q} r l = (facts_of lb d).inside p q.at ((facts_of lb d).whole p x q r.derives) l

pub reads_more : {T : Type 0} {ts : List Marked} {B : Room → Rule T} (lb : Lawful ts B) → lb.null ≡ false → {d : Room} {p : Place} {x : T} {q : Place} → Reads B d p x q → p.at < q.at
reads_more lb filled {d = d} {p = p} {x = x} {q = q} r = elim (split q.at p.at (reads_order lb r)) [
  | inl e ↦ (let b = ((facts_of lb d).blank p x q r.derives e).0 in absurd (cc))
  | inr l ↦ l
]

-- an item takes a token at least, so less is left
pub item_falls : {T : Type 0} {ts : List Marked} {B : Room → Rule T} (lb : Lawful ts B) (ks : List Kind) {d : Room} {p : Place} {t : Marked} {q : Place} {m : Place} {x : T} {k : Place} →
    Reads (λ _. one ts ks) d p t q → q.at ≡ m.at → Reads B d m x k → length ts - k.at < length ts - p.at
item_falls {ts = ts} lb ks r e s =
    let o = reads_order lb s in
    let n = one_next ts ks r in
    omega (arith, n.0, n.2)
