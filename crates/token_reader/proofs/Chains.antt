-- Lists with separators, and parts that begin with a word of their own.
use Rattle.std.proofs.Common.{◌≡◌, ◌-◌, ◌<◌, List, [], ◌++◌, Some, None, Result, Ok, Err, true, length, refl, sym, subst, arith, append-nil}
use Rattle.std.proofs.lemmas.Result.{err_from_is_err_and}
use Rattle.std.specs.Result.{IsErrAnd}
use Rattle.cov_lexer.specs.declared.kind.Kind.{Kind}
use Rattle.cov_grammar.specs.declared.marked.Marked.{Marked}
use Rattle.cov_grammar.specs.declared.place.Place.{Place}
use Rattle.cov_grammar.specs.declared.place.Room.{Room}
use Rattle.cov_grammar.specs.declared.place.Stop.{Stop}
use Rattle.cov_grammar.specs.declared.place.Stop.TheVariants.{Memory, Syntax, TooDeep}
use Rattle.cov_grammar.specs.Rule.{Rule, In, one, both, fold, many, map_to, maybe}
use Rattle.cov_grammar.specs.Parses.{Reads, Fails, Parses}
use Rattle.cov_grammar.specs.Expressions.{snoc}
use Rattle.token_reader.specs.Listing.{Puts, Added}
use Rattle.cov_grammar.proofs.Sets.{disjoint, when, when-nothing}
use Rattle.cov_grammar.proofs.Lawful.{Lawful, lawful_one, lawful_map, lawful_both}
use Rattle.cov_grammar.proofs.Compose.{map_reads, map_fails}
use Rattle.cov_grammar.proofs.Steps.{Leads, leads_self, step, without, maybe_step, fold_starts, fold_fails, item_read, item_fails, no_item, one_next, item_falls}

-- what follows in a list leads to all that is put to those before
abbrev pub More : {T W : Type 0} (ts : List Marked) (A : Room → Rule W) (put : List T → W → List T) (seps : List Kind) → Room → Place → List T → List T → Place → Type 0
More ts A put seps d o before xs p = Leads (λ r. many put (both (λ _ b. b) (one ts seps) (A r)) xs) d p (λ r. many put (both (λ _ b. b) (one ts seps) (A r)) before) d o (λ x. x)

of_kinds : (ts : List Marked) {ks ls : List Kind} → ks ≡ ls → {d : Room} {p : Place} {t : Marked} {q : Place} → Reads (λ _. one ts ks) d p t q → Reads (λ _. one ts ls) d p t q
of_kinds ts e {d = d} {p = p} {t = t} {q = q} r = subst (λ ks. Reads (λ _. one ts ks) d p t q) e r

-- A { separator A }
module _ {T W : Type 0} {ts : List Marked} {A : Room → Rule W} (la : Lawful ts A) (put : List T → W → List T) (seps : List Kind) (apart : disjoint la.cont seps ≡ true) where
  item_lawful : Lawful ts (λ r. both (λ _ b. b) (one ts seps) (A r))
  item_lawful = lawful_both _ (lawful_one ts seps) la refl

  again : disjoint (la.cont ++ when la.null []) (seps ++ []) ≡ true
  again = rw (when-nothing la.cont la.null, append-nil seps) apart

  first_apart : disjoint la.cont (seps ++ []) ≡ true
  first_apart = rw (append-nil seps) apart

  -- what follows in a list leads to the whole list
  abbrev pub Chain : Room → Place → List T → Place → Type 0
  Chain d o xs p = Leads (λ r. many put (both (λ _ b. b) (one ts seps) (A r)) xs) d p (λ r. fold put (map_to (put []) (A r)) (both (λ _ b. b) (one ts seps) (A r))) d o (λ x. x)

  pub chain_first : {d : Room} {p : Place} {w : W} {q : Place} {xs : List T} → Reads A d p w q → xs ≡ put [] w → Chain d p xs q
  unfolding item_lawful
  chain_first {d = d} {p = p} {q = q} r e = subst (λ xs. Chain d p xs q) (sym e) (fold_starts put (lawful_map la _) item_lawful refl first_apart again (map_reads _ la r))

  pub chain_fails : {d : Room} {p : Place} {s : Stop} → Fails A d p s → Fails (λ r. fold put (map_to (put []) (A r)) (both (λ _ b. b) (one ts seps) (A r))) d p s
  unfolding item_lawful
  chain_fails f = fold_fails put (lawful_map la _) item_lawful refl first_apart again (map_fails _ la f)

  pub more_next : {d : Room} {o : Place} (before xs : List T) {ks : List Kind} (e : ks ≡ seps) {p : Place} {t : Marked} {q : Place} {w : W} {k : Place} {ys : List T} → More ts A put seps d o before xs p →
      Reads (λ _. one ts ks) d p t q → Reads A d q w k → ys ≡ put xs w → More ts A put seps d o before ys k
  more_next {d = d} {o = o} before xs e {k = k} l r n same = subst (λ ys. More ts A put seps d o before ys k) (sym same) (item_read put (λ _ b. b) (lawful_one ts seps) la refl refl again xs l (of_kinds ts e r) n)

  pub more_breaks : {d : Room} {o : Place} (before xs : List T) {ks : List Kind} (e : ks ≡ seps) {p : Place} {t : Marked} {q : Place} {s : Stop} → More ts A put seps d o before xs p →
      Reads (λ _. one ts ks) d p t q → Fails A d q s → Fails (λ r. many put (both (λ _ b. b) (one ts seps) (A r)) before) d o s
  more_breaks before xs {ks = ks} e l r n = item_fails put (λ _ b. b) (lawful_one ts seps) la refl refl again xs l (of_kinds ts e r) (let e = (one_next ts ks r).0 in omega arith) n

  pub more_ends : {d : Room} {o : Place} (before xs : List T) {ks : List Kind} (e : ks ≡ seps) {p : Place} → More ts A put seps d o before xs p → (In ts p.at ks → ⊥) →
      Reads (λ r. many put (both (λ _ b. b) (one ts seps) (A r)) before) d o xs p
  more_ends before xs e {p = p} l n = no_item put (λ _ b. b) (lawful_one ts seps) la refl refl again xs l (λ h. n (subst (λ ks. In ts p.at ks) (sym e) (subst (λ ks. In ts p.at ks) (append-nil seps) h)))

  pub more_falls : {ks : List Kind} (e : ks ≡ seps) {d : Room} {p : Place} {t : Marked} {q : Place} {w : W} {k : Place} → Reads (λ _. one ts ks) d p t q → Reads A d q w k → length ts - k.at < length ts - p.at
  more_falls e r n = item_falls la seps (of_kinds ts e r) refl n

-- what a reader answered, put to the end of a list
pub put_parses : {T : Type 0} (F : Room → Rule T) (d : Room) (p : Place) (x : Result (T × Place) Stop) (before after : List T) (y : Result Place Stop) →
    Parses F d p x → Added x before after y → Puts F snoc d p before after y
put_parses F d p (Ok x) before after (Ok q) h a = (x.0, subst (λ q. Reads F d p x.0 q) (sym a.0) h, a.1)
put_parses F d p (Ok x) before after (Err s) h a = subst (λ s. Fails F d p s) (sym a) (record { cause = tt })
put_parses F d p (Err e) before after (Ok q) h a = absurd a
put_parses F d p (Err e) before after (Err s) h a = subst (λ s. Fails F d p s) (sym a) h

-- the exit of a `?`, where nothing is put to the list
pub unput : {T W : Type 0} {F : Room → Rule W} (put : List T → W → List T) {d : Room} {p : Place} (before after : List T) {s : Stop} (r : Result Place Stop) → IsErrAnd r (λ e. e ≡ s) → Fails F d p s → Puts F put d p before after r
unput put before after r h f =
    let x = err_from_is_err_and r h in
    rw (x.1, x.2) f

-- what a rule without room reads is read with any room
fails_always : {T : Type 0} {A : Rule T} {d : Room} {p : Place} (s : Stop) → Fails (λ _. A) d p s → (r : Room) → Fails (λ _. A) r p s
fails_always Memory f r = record { cause = tt }
fails_always (Syntax k) f r = record { cause = record { begins = f.cause.begins; reach = f.cause.reach; none = f.cause.none } }
fails_always (TooDeep k) f r = record { cause = record { begins = f.cause.begins; more = f.cause.more; deeper = f.cause.deeper; reach = f.cause.reach } }

always : {T : Type 0} (A : Rule T) (d : Room) (p : Place) (x : Result (T × Place) Stop) → Parses (λ _. A) d p x → (r : Room) → Parses (λ _. A) r p x
always A d p (Ok x) h r = record { derives = h.derives; reach = h.reach }
always A d p (Err s) h r = fails_always s h r

pub more_always : {T : Type 0} (ts : List Marked) (A : Rule T) (seps : List Kind) {before first : List T} → before ≡ first → (d : Room) (p : Place) (x : Result (List T × Place) Stop) →
    Parses (λ _. many snoc (both (λ _ b. b) (one ts seps) A) before) d p x → (r : Room) → Parses (λ _. many snoc (both (λ _ b. b) (one ts seps) A) first) r p x
more_always {T = T} ts A seps {before = before} e d p x h r = subst (λ (l : List T). Parses (λ _. many snoc (both (λ _ b. b) (one ts seps) A) l) r p x) e (always (many snoc (both (λ _ b. b) (one ts seps) A) before) d p x h r)

-- a part that begins with a word of its own, or nothing
module _ {T : Type 0} {ts : List Marked} {B : Room → Rule T} (ks : List Kind) (lb : Lawful ts B) where
  headed : Lawful ts (λ r. both (λ _ b. b) (one ts ks) (B r))
  headed = lawful_both _ (lawful_one ts ks) lb refl

  pub no_part : {d : Room} {p : Place} → (In ts p.at ks → ⊥) → Reads (λ r. maybe (both (λ _ b. b) (one ts ks) (B r))) d p None p
  unfolding headed
  no_part {d = d} {p = p} h = without headed refl (leads_self (λ r. maybe (both (λ _ b. b) (one ts ks) (B r))) d p) (λ k. h (subst (λ ks. In ts p.at ks) (append-nil ks) k))

  pub part : {d : Room} {p : Place} {t : Marked} {q : Place} → Reads (λ _. one ts ks) d p t q → Leads B d q (λ r. maybe (both (λ _ b. b) (one ts ks) (B r))) d p (λ x. Some x)
  unfolding headed
  part {d = d} {p = p} r = maybe_step headed refl lb (leads_self (λ r. maybe (both (λ _ b. b) (one ts ks) (B r))) d p)
      (step _ (lawful_one ts ks) lb refl (leads_self (λ r. both (λ _ b. b) (one ts ks) (B r)) d p) r)
      (let e = (one_next ts ks r).0 in omega arith)
