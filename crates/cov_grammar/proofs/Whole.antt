-- A whole design text: where its reader stands between two declarations, its one tree, and its one fault.
use Rattle.std.proofs.Common.{◌≡◌, ℕ, ◌+◌, ◌<◌, ◌≤◌, List, [], ◌++◌, length, inl, inr, refl, sym, ◌∙◌, subst, arith}
use Rattle.std.proofs.lemmas.Bool.{cases_lt, cases_order}
use Rattle.std.proofs.lemmas.Option.{slice_get_past}
use Rattle.cov_tree.specs.declared.declarations.Decl.{Decl}
use Rattle.cov_grammar.specs.declared.marked.Marked.{Marked}
use Rattle.cov_grammar.specs.declared.place.Place.{Place}
use Rattle.cov_grammar.specs.declared.place.Room.{Room}
use Rattle.cov_grammar.specs.declared.place.Stop.{Stop}
use Rattle.cov_grammar.specs.declared.place.Stop.TheVariants.{Memory, Syntax, TooDeep}
use Rattle.cov_grammar.specs.Rule.{In, many}
use Rattle.cov_grammar.specs.Designs.{decl, design}
use Rattle.cov_grammar.specs.Parses.{Reads, Stops, Sinks, Fails}
use Rattle.cov_grammar.specs.Fault.{start, DerivesWithin, Derives, IsViableWithin, IsSyntaxFault, IsTooDeepAt, IsCause}
use Rattle.cov_grammar.proofs.Sets.{split}
use Rattle.cov_grammar.proofs.Sound.{Under, join, join_left, join_right}
use Rattle.cov_grammar.proofs.Lawful.{facts_of}
use Rattle.cov_grammar.proofs.Compose.{many_stuck}
use Rattle.cov_grammar.proofs.Steps.{Leads, leads_self, many_next, many_ends, many_breaks, reads_inside, reads_more}
use Rattle.cov_grammar.proofs.DesignLaws.{append, decl_lawful, design_lawful}

module _ (text : List ℕ) (ts : List Marked) where
  -- after these declarations
  abbrev pub Stands : Room → List Decl → Place → Type 0
  Stands r decls p = Leads (λ e. many append (decl text ts e) decls) r p (design text ts) r start (λ s. s)

  pub stands_first : (r : Room) → Stands r [] start
  unfolding design
  stands_first r = leads_self (design text ts) r start

  pub stands_next : {r : Room} (decls : List Decl) {p : Place} {x : List Decl} {q : Place} → Stands r decls p → Reads (decl text ts) r p x q → Stands r (decls ++ x) q
  stands_next decls l d = many_next append (decl_lawful text ts) refl refl decls l d

  -- a declaration has a token at least, and ends inside
  pub decl_inside : {r : Room} {p : Place} {x : List Decl} {q : Place} → Reads (decl text ts) r p x q → (p.at < q.at) × (q.at ≤ length ts)
  decl_inside d = let more = reads_more (decl_lawful text ts) refl d in (more, reads_inside (decl_lawful text ts) d more)

  nothing_there : (p : Place) → p.at ≡ length ts → In ts p.at (design_lawful text ts).first → ⊥
  nothing_there p e h =
      let past = slice_get_past ts p.at (omega arith) in
      let t = h.stands in cc

  -- at the end
  pub whole_reads : {r : Room} (decls : List Decl) {p : Place} → Stands r decls p → p.at ≡ length ts → Reads (design text ts) r start decls p
  whole_reads decls {p = p} l e = many_ends append (decl_lawful text ts) refl refl decls l (nothing_there p e)

  pub whole_derives : {r : Room} (decls : List Decl) {p : Place} → Stands r decls p → p.at ≡ length ts → DerivesWithin r text ts decls
  whole_derives decls {p = p} l e = (p, (whole_reads decls l e).derives, e)

  -- the tokens have one tree, whatever the room
  pub one_design : (ds es : List Decl) → Derives text ts ds → Derives text ts es → ds ≡ es
  one_design ds es h k =
      let lawful = design_lawful text ts in
      let r = join h.0 k.0 in
      ((facts_of lawful r).one_tree start ds es h.1.0 k.1.0
      ((lawful.sound h.0 r (join_left h.0 k.0)).within.derives start ds h.1.0 h.1.1)
      ((lawful.sound k.0 r (join_right h.0 k.0)).within.derives start es k.1.0 k.1.1)
      (h.1.2 ∙ sym k.1.2)).0

  pub whole_only : {r : Room} (decls : List Decl) {p : Place} → Stands r decls p → p.at ≡ length ts → (others : List Decl) → Derives text ts others → others ≡ decls
  whole_only {r = r} decls l e others h = one_design others decls h (r, whole_derives decls l e)

  -- more room keeps what is derived and what is viable
  pub more_room_derives : (a b : Room) → a.levels ≤ b.levels → a.operators ≤ b.operators → (decls : List Decl) → DerivesWithin a text ts decls → DerivesWithin b text ts decls
  more_room_derives a b h k decls d =
      let under : Under a b = record { levels = h; operators = k } in
      (d.0, ((design_lawful text ts).sound a b under).within.derives start decls d.0 d.1, d.2)

  pub more_room_begins : (a b : Room) → a.levels ≤ b.levels → a.operators ≤ b.operators → (n : ℕ) → IsViableWithin a text ts n → IsViableWithin b text ts n
  more_room_begins a b h k n d =
      let under : Under a b = record { levels = h; operators = k } in
      ((design_lawful text ts).sound a b under).within.begins start n d

  pub shorter_viable : (r : Room) (m n : ℕ) → m ≤ n → IsViableWithin r text ts n → IsViableWithin r text ts m
  shorter_viable r m n l h = (facts_of (design_lawful text ts) r).shorter start m n h (omega arith) l

  pub none_viable : (r : Room) → IsViableWithin r text ts 0
  none_viable r = (facts_of (design_lawful text ts) r).empty start

  pub derived_viable : (r : Room) (decls : List Decl) → DerivesWithin r text ts decls → IsViableWithin r text ts (length ts)
  derived_viable r decls h = subst (λ n. IsViableWithin r text ts n) h.2 ((facts_of (design_lawful text ts) r).whole start decls h.0 h.1)

  -- no more tokens are viable than there are
  pub viable_inside : (r : Room) (n : ℕ) → IsViableWithin r text ts n → n ≤ length ts
  viable_inside r n h = elim (cases_lt 0 n) [ inl l ↦ (facts_of (design_lawful text ts) r).inside start n h l | inr z ↦ omega arith ]

  stopped : (r : Room) (k : ℕ) → Stops (design text ts) r start k → IsSyntaxFault r text ts k
  stopped r k c = record {
    before = λ n l. shorter_viable r n k l c.begins;
    after = λ n l v. let o = c.reach v.0 n v.1 in omega arith;
    no_tree = λ decls h.
        let o = c.reach h.0 (length ts) (derived_viable h.0 decls h.1) in
        let i = viable_inside r k c.begins in
        let e = h.1.2 in
        c.none h.0 decls h.1.0 h.1.1 (omega arith);
  }

  left_over : (r : Room) (decls : List Decl) (q : Place) → Reads (design text ts) r start decls q → q.at < length ts → IsSyntaxFault r text ts q.at
  left_over r decls q d l = record {
    before = λ n m. shorter_viable r n q.at m ((facts_of (design_lawful text ts) r).whole start decls q d.derives);
    after = λ n m v. let o = d.reach v.0 n v.1 in omega arith;
    no_tree = λ others h. let o = d.reach h.0 (length ts) (derived_viable h.0 others h.1) in omega arith;
  }

  sunk : (r : Room) (k : ℕ) → Sinks (design text ts) r start k → IsTooDeepAt r text ts k
  sunk r k c = record {
    before = λ n l. shorter_viable r n k l c.begins;
    here = (c.more, c.deeper);
    too_deep = λ n l v. let o = c.reach n v in omega arith;
  }

  -- where a declaration fails, the text has its fault
  pub decl_fails : {r : Room} (decls : List Decl) {p : Place} (s : Stop) → Stands r decls p → p.at < length ts → Fails (decl text ts) r p s → IsCause r text ts s
  decl_fails decls Memory l m f = tt
  decl_fails {r = r} decls {p = p} (Syntax k) l m f =
      elim (split k p.at ((facts_of (decl_lawful text ts) r).order p k f.cause.begins)) [
        | inl e ↦ (let stuck : Stops (decl text ts) r p p.at = subst (λ n. Stops (decl text ts) r p n) e f.cause in
            subst (λ n. IsSyntaxFault r text ts n) (sym e) (left_over r decls p (l.reads (many_stuck append (decl_lawful text ts) refl refl decls stuck)) m))
        | inr past ↦ stopped r k (many_breaks append (decl_lawful text ts) refl refl decls l past f).cause
      ]
  decl_fails {r = r} decls (TooDeep k) l m f = sunk r k (many_breaks append (decl_lawful text ts) refl refl decls l tt f).cause

  -- a text has one fault at most
  pub one_syntax_fault : (r : Room) (k n : ℕ) → IsSyntaxFault r text ts k → IsSyntaxFault r text ts n → k ≡ n
  one_syntax_fault r k n a b = elim (cases_order k n) [
    | inl e ↦ e
    | inr x ↦ elim x [
      | inl l ↦ absurd (a.after n l (r, b.before n (omega arith)))
      | inr l ↦ absurd (b.after k l (r, a.before k (omega arith)))
    ]
  ]

  pub one_too_deep : (r : Room) (k n : ℕ) → IsTooDeepAt r text ts k → IsTooDeepAt r text ts n → k ≡ n
  one_too_deep r k n a b = elim (cases_order k n) [
    | inl e ↦ e
    | inr x ↦ elim x [
      | inl l ↦ absurd (a.too_deep n l (b.before n (omega arith)))
      | inr l ↦ absurd (b.too_deep k l (a.before k (omega arith)))
    ]
  ]

  pub not_both_faults : (r : Room) (k n : ℕ) → IsSyntaxFault r text ts k → IsTooDeepAt r text ts n → ⊥
  not_both_faults r k n a b = elim (cases_lt n k) [
    | inl l ↦ b.too_deep (n + 1) (omega arith) (a.before (n + 1) (omega arith))
    | inr g ↦ a.after (n + 1) (omega arith) b.here
  ]

  pub fault_or_tree : (r : Room) (k : ℕ) (decls : List Decl) → IsTooDeepAt r text ts k → DerivesWithin r text ts decls → ⊥
  fault_or_tree r k decls a h =
      let i = viable_inside a.here.0 (k + 1) a.here.1 in
      a.too_deep (length ts) (omega arith) (derived_viable r decls h)
