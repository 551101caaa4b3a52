-- Where a reader of options and bins stands, from one part of a rule to the next.
use Rattle.std.proofs.Common.{◌≡◌, ℕ, ◌+◌, ◌-◌, List, [], ◌∷◌, ◌++◌, Option, Some, None, Bool, true, false, not, ◌&&◌, inl, inr, refl, sym, subst, arith, slice_range}
use Rattle.cov_tree.specs.declared.expr.Expr.{Expr}
use Rattle.cov_tree.specs.declared.bins.Right.{Right}
use Rattle.cov_tree.specs.declared.bins.Right.TheVariants.{Trans}
use Rattle.cov_tree.specs.declared.bins.Word.{Word}
use Rattle.cov_tree.specs.declared.bins.Size.{Size}
use Rattle.cov_tree.specs.declared.bins.Size.TheVariants.{Scalar, Open, Fixed}
use Rattle.cov_tree.specs.declared.bins.OptText.TheVariants.{Number, Text}
use Rattle.cov_lexer.specs.declared.kind.Kind.{Kind}
use Rattle.cov_lexer.specs.declared.kind.Kind.TheVariants.{Ident, Quoted, WildcardWord, IffWord, DefaultWord, SequenceWord, OpenParen, CloseParen, CloseSquare, OpenBrace, Semi, Dot, Assign, OptionWord, TypeOptionWord}
use Rattle.cov_grammar.specs.declared.marked.Marked.{Marked}
use Rattle.cov_grammar.specs.declared.place.Place.{Place}
use Rattle.cov_grammar.specs.declared.place.Room.{Room}
use Rattle.cov_grammar.specs.declared.place.Stop.{Stop}
use Rattle.cov_grammar.specs.declared.place.Stop.TheVariants.{Memory, Syntax, TooDeep}
use Rattle.cov_grammar.specs.Rule.{Rule, In, one, word, give, never, offset, bind, both, either, map_to, allow, ahead, behind, maybe}
use Rattle.cov_grammar.specs.Parses.{Reads, Stops, Fails}
use Rattle.cov_grammar.specs.Expressions.{pair, expr}
use Rattle.cov_grammar.specs.Bins.{squares, ident, guard, seqs, values, option_value, optset, option_of, is_some, head_of, bins_words, bins_word, bins_word_of, bins_head, BinsHead, size, size_of, is_fixed, is_scalar, default_of, default_right, bins_of_parts, bins}
use Rattle.cov_grammar.specs.Bins.{right as bins_right}
use Rattle.cov_grammar.proofs.Sets.{disjoint, split, In_apart}
use Rattle.cov_grammar.proofs.Facts.{never_facts}
use Rattle.cov_grammar.proofs.Sound.{never_sound}
use Rattle.cov_grammar.proofs.Lawful.{Lawful, Lawfuls, lawful_one, lawful_word, lawful_here, lawful_map, lawful_maybe, lawful_allow, lawful_both, lawful_either, facts_of}
use Rattle.cov_grammar.proofs.Compose.{map_reads, map_fails, both_reads, both_fails, both_then_fails, left_reads, left_fails, right_reads, right_fails, maybe_fails}
use Rattle.cov_grammar.proofs.Steps.{Leads, leads_self, here_reads, right, bind_step, map_leads}
use Rattle.cov_grammar.proofs.Steps as walk
use Rattle.cov_grammar.proofs.ExprLaws.{expr_firsts, expr_lawful}
use Rattle.cov_grammar.proofs.BinsLaws.{ident_lawful, guard_lawful, option_value_lawful, bins_word_lawful, bins_head_lawful, size_lawful, seqs_lawful, values_lawful, default_right_lawful, right_lawful, sized_head_lawful, bins_rest_lawful}
use Rattle.token_reader.proofs.Chains.{no_part, part}
use Rattle.range_parser.proofs.ValueWalks.{parens_lawful}

module _ (text : List ℕ) (ts : List Marked) where
  abbrev pub w : (k : Kind) → Lawful ts (λ _. one ts (k ∷ []))
  w k = lawful_word ts k

  -- a guard
  pub no_guard : {d : Room} {p : Place} → (In ts p.at (IffWord ∷ []) → ⊥) → Reads (λ r. maybe (guard text ts r)) d p None p
  unfolding guard
  no_guard h = no_part (IffWord ∷ []) (parens_lawful text ts) h

  pub guard_part : {d : Room} {p : Place} {k : Marked} {m : Place} → Reads (λ _. word ts IffWord) d p k m → Leads (λ r. ahead (word ts OpenParen) (behind (expr text ts r) (word ts CloseParen))) d m (λ r. maybe (guard text ts r)) d p (λ x. Some x)
  unfolding guard
  guard_part r = part (IffWord ∷ []) (parens_lawful text ts) r

  -- an option
  quoted_lawful : Lawful ts (λ _. map_to (λ (t : Marked). Text (slice_range text (t.at + 1) (t.at + t.len - 1))) (word ts Quoted))
  quoted_lawful = lawful_map (w Quoted) (λ (t : Marked). Text (slice_range text (t.at + 1) (t.at + t.len - 1)))

  numeral_lawful : Lawful ts (λ r. map_to Number (expr text ts r))
  numeral_lawful = lawful_map (expr_lawful text ts) Number

  pub quoted_reads : {d : Room} {p : Place} {t : Marked} {q : Place} → In ts p.at (Quoted ∷ []) → Reads (λ _. word ts Quoted) d p t q → Reads (option_value text ts) d p (Text (slice_range text (t.at + 1) (t.at + t.len - 1))) q
  unfolding option_value quoted_lawful numeral_lawful
  quoted_reads {p = p} h r = left_reads quoted_lawful numeral_lawful refl refl (λ k. In_apart ts p.at (Quoted ∷ []) expr_firsts refl h k) (map_reads (λ (t : Marked). Text (slice_range text (t.at + 1) (t.at + t.len - 1))) (w Quoted) r)

  pub number_reads : {d : Room} {p : Place} {t : Expr} {q : Place} → (In ts p.at (Quoted ∷ []) → ⊥) → Reads (expr text ts) d p t q → Reads (option_value text ts) d p (Number t) q
  unfolding option_value quoted_lawful numeral_lawful
  number_reads h r = right_reads quoted_lawful numeral_lawful refl refl h (map_reads Number (expr_lawful text ts) r)

  pub number_fails : {d : Room} {p : Place} {s : Stop} → (In ts p.at (Quoted ∷ []) → ⊥) → Fails (expr text ts) d p s → Fails (option_value text ts) d p s
  unfolding option_value quoted_lawful numeral_lawful
  number_fails h f = right_fails quoted_lawful numeral_lawful refl refl refl h (map_fails Number (expr_lawful text ts) f)

  abbrev pub option_words : List Kind
  option_words = OptionWord ∷ TypeOptionWord ∷ []

  abbrev pub value_end_lawful : Lawful ts (λ r. behind (option_value text ts r) (word ts Semi))
  value_end_lawful = lawful_both _ (option_value_lawful text ts) (w Semi) refl

  abbrev pub assigned_lawful : Lawful ts (λ r. ahead (word ts Assign) (behind (option_value text ts r) (word ts Semi)))
  assigned_lawful = lawful_both _ (w Assign) value_end_lawful refl

  abbrev pub setting_lawful : Lawful ts (λ r. both pair (ident text ts) (ahead (word ts Assign) (behind (option_value text ts r) (word ts Semi))))
  setting_lawful = lawful_both pair (ident_lawful text ts) assigned_lawful refl

  abbrev pub dotted_lawful : Lawful ts (λ r. ahead (word ts Dot) (both pair (ident text ts) (ahead (word ts Assign) (behind (option_value text ts r) (word ts Semi)))))
  dotted_lawful = lawful_both _ (w Dot) setting_lawful refl

  pub optset_leads : (d : Room) (p : Place) → Leads (λ r. both (option_of text) (one ts (OptionWord ∷ TypeOptionWord ∷ [])) (ahead (word ts Dot) (both pair (ident text ts) (ahead (word ts Assign) (behind (option_value text ts r) (word ts Semi)))))) d p (optset text ts) d p (λ x. x)
  unfolding optset
  optset_leads d p = leads_self (optset text ts) d p

  -- "wildcard", the word and the name of bins
  abbrev pub wild_lawful : Lawful ts (λ _. maybe (word ts WildcardWord))
  wild_lawful = lawful_maybe (w WildcardWord) refl

  abbrev pub worded_lawful : Lawful ts (λ _. both pair (bins_word text ts) (ident text ts))
  worded_lawful = lawful_both pair (bins_word_lawful text ts) (ident_lawful text ts) refl

  abbrev head_lawfuls : Lawfuls ts (λ (_ : Room) start. both (head_of start) (maybe (word ts WildcardWord)) (both pair (bins_word text ts) (ident text ts)))
  head_lawfuls = record {
    first = (lawful_both (head_of 0) wild_lawful worded_lawful refl).first;
    cont = (lawful_both (head_of 0) wild_lawful worded_lawful refl).cont;
    null = false;
    sound = λ start d e h. (lawful_both (head_of start) wild_lawful worded_lawful refl).sound d e h;
  }

  head_begun : (d : Room) (p : Place) → Leads (λ _. both (head_of (offset ts p.at)) (maybe (word ts WildcardWord)) (both pair (bins_word text ts) (ident text ts))) d p (λ _. bins_head text ts) d p (λ x. x)
  unfolding bins_head
  head_begun d p = bind_step (lawful_here ts) head_lawfuls refl (leads_self (λ _. bins_head text ts) d p) (here_reads ts d p)

  pub no_wildcard : {d : Room} {p : Place} → (In ts p.at (WildcardWord ∷ []) → ⊥) → Reads (λ _. maybe (word ts WildcardWord)) d p None p
  no_wildcard {d = d} {p = p} h = walk.without (w WildcardWord) refl (leads_self (λ _. maybe (word ts WildcardWord)) d p) h

  pub has_wildcard : {d : Room} {p : Place} {t : Marked} {q : Place} → Reads (λ _. word ts WildcardWord) d p t q → Reads (λ _. maybe (word ts WildcardWord)) d p (Some t) q
  has_wildcard {d = d} {p = p} r = walk.maybe_there (w WildcardWord) refl (leads_self (λ _. maybe (word ts WildcardWord)) d p) r

  pub head_unread : {d : Room} {p : Place} {f : Option Marked} {q : Place} {s : Stop} → Reads (λ _. maybe (word ts WildcardWord)) d p f q → Fails (λ _. bins_word text ts) d q s → Fails (λ _. bins_head text ts) d p s
  head_unread {d = d} {p = p} r f = (head_begun d p).fails (both_then_fails (head_of (offset ts p.at)) wild_lawful worded_lawful refl r (both_fails pair (bins_word_lawful text ts) (ident_lawful text ts) refl f))

  pub head_breaks : {d : Room} {p : Place} {f : Option Marked} {q : Place} {k : Word} {m : Place} {s : Stop} → Reads (λ _. maybe (word ts WildcardWord)) d p f q → Reads (λ _. bins_word text ts) d q k m → Fails (λ _. ident text ts) d m s →
      Fails (λ _. bins_head text ts) d p s
  head_breaks {d = d} {p = p} r k f = (head_begun d p).fails (both_then_fails (head_of (offset ts p.at)) wild_lawful worded_lawful refl r (both_then_fails pair (bins_word_lawful text ts) (ident_lawful text ts) refl k f))

  pub head_reads : {d : Room} {p : Place} {f : Option Marked} {q : Place} {k : Word} {m : Place} {name : List ℕ} {n : Place} (b : Bool) → is_some f ≡ b → Reads (λ _. maybe (word ts WildcardWord)) d p f q → Reads (λ _. bins_word text ts) d q k m → Reads (λ _. ident text ts) d m name n →
      Reads (λ _. bins_head text ts) d p (record { wildcard = b; kind = k; name = name; start = offset ts p.at }) n
  head_reads {d = d} {p = p} {k = k} {name = name} {n = n} b e r x y =
      subst (λ b. Reads (λ _. bins_head text ts) d p (record { wildcard = b; kind = k; name = name; start = offset ts p.at }) n) e
      ((head_begun d p).reads (both_reads (head_of (offset ts p.at)) wild_lawful worded_lawful refl r (both_reads pair (bins_word_lawful text ts) (ident_lawful text ts) refl x y)))

  pub bins_word_reads : {d : Room} {p : Place} {t : Marked} {q : Place} → Reads (λ _. one ts bins_words) d p t q → Reads (λ _. bins_word text ts) d p (bins_word_of t.kind) q
  unfolding bins_word
  bins_word_reads r = map_reads (λ (t : Marked). bins_word_of t.kind) (lawful_one ts bins_words) r

  pub bins_word_fails : {d : Room} {p : Place} {s : Stop} → Fails (λ _. one ts bins_words) d p s → Fails (λ _. bins_word text ts) d p s
  unfolding bins_word
  bins_word_fails f = map_fails (λ (t : Marked). bins_word_of t.kind) (lawful_one ts bins_words) f

  -- the size of bins
  abbrev pub count_lawful : Lawful ts (λ r. behind (maybe (expr text ts r)) (word ts CloseSquare))
  count_lawful = lawful_both _ (lawful_maybe (expr_lawful text ts) refl) (w CloseSquare) refl

  brackets_lawful : Lawful ts (λ r. ahead (one ts squares) (behind (maybe (expr text ts r)) (word ts CloseSquare)))
  brackets_lawful = lawful_both _ (lawful_one ts squares) count_lawful refl

  size_inside : {d : Room} {p : Place} {k : Marked} {m : Place} → Reads (λ _. one ts squares) d p k m → Leads (λ r. behind (maybe (expr text ts r)) (word ts CloseSquare)) d m (size text ts) d p (λ x. size_of (Some x))
  unfolding size
  size_inside {d = d} {p = p} r =
      let l = part squares count_lawful r in record {
        reads = λ x. map_reads size_of (lawful_maybe (lawful_both _ (lawful_one ts squares) count_lawful refl) refl) (l.reads x);
        fails = λ x. map_fails size_of (lawful_maybe (lawful_both _ (lawful_one ts squares) count_lawful refl) refl) (l.fails x);
      }

  pub no_size : {d : Room} {p : Place} → (In ts p.at squares → ⊥) → Reads (size text ts) d p Scalar p
  unfolding size
  no_size h = map_reads size_of (lawful_maybe (lawful_both _ (lawful_one ts squares) count_lawful refl) refl) (no_part squares count_lawful h)

  pub open_size : {d : Room} {p : Place} {k : Marked} {m : Place} {t : Marked} {q : Place} → Reads (λ _. one ts squares) d p k m → In ts m.at (CloseSquare ∷ []) → Reads (λ _. word ts CloseSquare) d m t q → Reads (size text ts) d p Open q
  open_size {d = d} {m = m} r h c = (size_inside r).reads (both_reads _ (lawful_maybe (expr_lawful text ts) refl) (w CloseSquare) refl
      (walk.without (expr_lawful text ts) refl (leads_self (λ r. maybe (expr text ts r)) d m) (λ k. In_apart ts m.at expr_firsts (CloseSquare ∷ []) refl k h)) c)

  -- an expression that may be left out, before a word
  maybe_stuck : {T : Type 0} {A : Room → Rule T} (la : Lawful ts A) {d : Room} {p : Place} → Stops A d p p.at → Reads (λ r. maybe (A r)) d p None p
  unfolding maybe either give map_to bind
  maybe_stuck la {p = p} c = record {
    derives = inl (refl, refl);
    reach = λ e n h. elim h [
      | inl g ↦ omega (arith, g)
      | inr x ↦ elim x [
        | inl a ↦ c.reach e n a
        | inr y ↦ (let same = y.3 in let b = c.reach e y.1.at ((facts_of la e).whole p y.0 y.1 y.2) in omega arith)
      ]
    ];
  }

  pub maybe_unread : {T : Type 0} {A : Room → Rule T} (la : Lawful ts A) (filled : la.null ≡ false) (k : Kind) (apart : disjoint (la.cont ++ la.first) (k ∷ []) ≡ true) {d : Room} {p : Place} (s : Stop) → (In ts p.at (k ∷ []) → ⊥) → Fails A d p s →
      Fails (λ r. behind (maybe (A r)) (word ts k)) d p s
  maybe_unread la filled k apart Memory h f = record { cause = tt }
  maybe_unread la filled k apart (TooDeep n) h f = both_fails _ (lawful_maybe la filled) (w k) apart (maybe_fails la filled tt f)
  maybe_unread {A = A} la filled k apart {d = d} {p = p} (Syntax n) h f = elim (split n p.at ((facts_of la d).order p n f.cause.begins)) [
    | inl e ↦ subst (λ n. Fails (λ r. behind (maybe (A r)) (word ts k)) d p (Syntax n)) (sym e)
        (both_then_fails _ (lawful_maybe la filled) (w k) apart (maybe_stuck la (subst (λ n. Stops A d p n) e f.cause)) (walk.one_fails ts (k ∷ []) d p h))
    | inr l ↦ both_fails _ (lawful_maybe la filled) (w k) apart (maybe_fails la filled l f)
  ]

  pub size_unread : {d : Room} {p : Place} {k : Marked} {m : Place} (s : Stop) → Reads (λ _. one ts squares) d p k m → (In ts m.at (CloseSquare ∷ []) → ⊥) → Fails (expr text ts) d m s → Fails (size text ts) d p s
  size_unread s r h f = (size_inside r).fails (maybe_unread (expr_lawful text ts) refl CloseSquare refl s h f)

  pub size_breaks : {d : Room} {p : Place} {k : Marked} {m : Place} {t : Expr} {q : Place} {s : Stop} → Reads (λ _. one ts squares) d p k m → Reads (expr text ts) d m t q → Fails (λ _. word ts CloseSquare) d q s → Fails (size text ts) d p s
  size_breaks {d = d} {m = m} r t f = (size_inside r).fails (both_then_fails _ (lawful_maybe (expr_lawful text ts) refl) (w CloseSquare) refl
      (walk.maybe_there (expr_lawful text ts) refl (leads_self (λ r. maybe (expr text ts r)) d m) t) f)

  pub fixed_size : {d : Room} {p : Place} {k : Marked} {m : Place} {t : Expr} {q : Place} {u : Marked} {n : Place} → Reads (λ _. one ts squares) d p k m → Reads (expr text ts) d m t q → Reads (λ _. word ts CloseSquare) d q u n → Reads (size text ts) d p (Fixed t) n
  fixed_size {d = d} {m = m} r t c = (size_inside r).reads (both_reads _ (lawful_maybe (expr_lawful text ts) refl) (w CloseSquare) refl
      (walk.maybe_there (expr_lawful text ts) refl (leads_self (λ r. maybe (expr text ts r)) d m) t) c)

  -- what bins count
  abbrev never_lawful : {T : Type 0} → Lawful ts (λ (_ : Room). never {T = T})
  never_lawful = record { first = []; cont = []; null = false; sound = λ d e h. never_sound (never_facts _ _ _ _) }

  abbrev pub listed_lawful : (c : Bool) → Lawful ts (λ r. allow c (map_to Trans (seqs text ts r)))
  listed_lawful c = lawful_allow (lawful_map (seqs_lawful text ts) Trans) c

  abbrev pub counted_lawful : (c : Bool) → Lawful ts (λ r. either (values text ts r) (allow c (map_to Trans (seqs text ts r))))
  counted_lawful c = lawful_either (values_lawful text ts) (listed_lawful c) refl refl

  values_alone : (d : Room) (p : Place) → Leads (values text ts) d p (λ r. either (values text ts r) (never {T = Right})) d p (λ x. x)
  values_alone d p = record {
    reads = λ r. left_reads (values_lawful text ts) never_lawful refl refl (λ h. let no = h.of in absurd (cc)) r;
    fails = λ f. left_fails (values_lawful text ts) never_lawful refl refl (λ h. let no = h.of in absurd (cc)) f;
  }

  -- with a number in the brackets, values alone
  pub only_values : (c : Bool) (d : Room) (p : Place) → c ≡ false → Leads (values text ts) d p (λ r. either (values text ts r) (allow c (map_to Trans (seqs text ts r)))) d p (λ x. x)
  only_values true d p e = absurd (cc)
  only_values false d p e = values_alone d p

  pub rather_values : (c : Bool) (d : Room) (p : Place) → (In ts p.at (OpenParen ∷ []) → ⊥) → Leads (values text ts) d p (λ r. either (values text ts r) (allow c (map_to Trans (seqs text ts r)))) d p (λ x. x)
  rather_values c d p h = record {
    reads = λ r. left_reads (values_lawful text ts) (listed_lawful c) refl refl h r;
    fails = λ f. left_fails (values_lawful text ts) (listed_lawful c) refl refl h f;
  }

  pub rather_seqs : (c : Bool) (d : Room) (p : Place) → c ≡ true → In ts p.at (OpenParen ∷ []) → Leads (seqs text ts) d p (λ r. either (values text ts r) (allow c (map_to Trans (seqs text ts r)))) d p Trans
  rather_seqs false d p e h = absurd (cc)
  rather_seqs true d p e h = map_leads Trans (seqs_lawful text ts)
      (right (values_lawful text ts) (listed_lawful true) refl refl (leads_self (λ r. either (values text ts r) (map_to Trans (seqs text ts r))) d p) refl (λ k. In_apart ts p.at (OpenBrace ∷ Ident ∷ []) (OpenParen ∷ []) refl k h))

  abbrev pub may_default : Bool → Size → Bool
  may_default wildcard s = not wildcard && not (is_fixed s)

  default_allowed : (b : Bool) (s : Size) (c : Bool) (d : Room) (p : Place) → b ≡ true → In ts p.at (DefaultWord ∷ []) →
      Leads (λ _. default_right text ts s) d p (λ r. either (allow b (default_right text ts s)) (either (values text ts r) (allow c (map_to Trans (seqs text ts r))))) d p (λ x. x)
  default_allowed false s c d p e h = absurd (cc)
  default_allowed true s c d p e h = walk.left (lawful_allow (default_right_lawful text ts s) true) (counted_lawful c) refl refl (leads_self (λ r. either (default_right text ts s) (either (values text ts r) (allow c (map_to Trans (seqs text ts r))))) d p) h

  no_default_allowed : (b : Bool) (s : Size) (c : Bool) (d : Room) (p : Place) → b ≡ false →
      Leads (λ r. either (values text ts r) (allow c (map_to Trans (seqs text ts r)))) d p (λ r. either (allow b (default_right text ts s)) (either (values text ts r) (allow c (map_to Trans (seqs text ts r))))) d p (λ x. x)
  no_default_allowed true s c d p e = absurd (cc)
  no_default_allowed false s c d p e = right never_lawful (counted_lawful c) refl refl (leads_self (λ r. either (never {T = Right}) (either (values text ts r) (allow c (map_to Trans (seqs text ts r))))) d p) refl (λ h. let no = h.of in absurd (cc))

  pub default_part : (wildcard : Bool) (s : Size) (d : Room) (p : Place) → may_default wildcard s ≡ true → In ts p.at (DefaultWord ∷ []) → Leads (λ _. default_right text ts s) d p (bins_right text ts wildcard s) d p (λ x. x)
  unfolding bins_right
  default_part wildcard s d p e h = default_allowed (may_default wildcard s) s (not (is_fixed s)) d p e h

  -- the right side by an equal size
  pub right_reads_by : (wildcard : Bool) {s z : Size} → s ≡ z → {d : Room} {p : Place} {t : Right} {q : Place} → Reads (bins_right text ts wildcard s) d p t q → Reads (bins_right text ts wildcard z) d p t q
  right_reads_by wildcard e {d = d} {p = p} {t = t} {q = q} r = subst (λ (s : Size). Reads (bins_right text ts wildcard s) d p t q) e r

  pub right_fails_by : (wildcard : Bool) {s z : Size} → s ≡ z → {d : Room} {p : Place} {e : Stop} → Fails (bins_right text ts wildcard s) d p e → Fails (bins_right text ts wildcard z) d p e
  right_fails_by wildcard same {d = d} {p = p} {e = e} f = subst (λ (s : Size). Fails (bins_right text ts wildcard s) d p e) same f

  pub not_default : (wildcard : Bool) (s : Size) (d : Room) (p : Place) → may_default wildcard s ≡ false → Leads (λ r. either (values text ts r) (allow (not (is_fixed s)) (map_to Trans (seqs text ts r)))) d p (bins_right text ts wildcard s) d p (λ x. x)
  unfolding bins_right
  not_default wildcard s d p e = no_default_allowed (may_default wildcard s) s (not (is_fixed s)) d p e

  pub no_default : (wildcard : Bool) (s : Size) (d : Room) (p : Place) → (In ts p.at (DefaultWord ∷ []) → ⊥) → Leads (λ r. either (values text ts r) (allow (not (is_fixed s)) (map_to Trans (seqs text ts r)))) d p (bins_right text ts wildcard s) d p (λ x. x)
  unfolding bins_right
  no_default wildcard s d p h = right (lawful_allow (default_right_lawful text ts s) (may_default wildcard s)) (counted_lawful (not (is_fixed s))) refl refl (leads_self (bins_right text ts wildcard s) d p) refl h

  pub default_reads : (s : Size) {d : Room} {p : Place} {k : Marked} {m : Place} {found : Option Marked} {q : Place} (x : Right) → default_of found ≡ x → Reads (λ _. word ts DefaultWord) d p k m → Reads (λ _. maybe (allow (is_scalar s) (word ts SequenceWord))) d m found q →
      Reads (λ _. default_right text ts s) d p x q
  unfolding default_right
  default_reads s {d = d} {p = p} {q = q} x e r f = subst (λ x. Reads (λ _. both (λ _ q. default_of q) (word ts DefaultWord) (maybe (allow (is_scalar s) (word ts SequenceWord)))) d p x q) e
      (both_reads (λ _ q. default_of q) (w DefaultWord) (lawful_maybe (lawful_allow (w SequenceWord) (is_scalar s)) refl) refl r f)

  pub sequence_read : {d : Room} {p : Place} {t : Marked} {q : Place} → Reads (λ _. word ts SequenceWord) d p t q → Reads (λ _. maybe (allow true (word ts SequenceWord))) d p (Some t) q
  sequence_read {d = d} {p = p} r = walk.maybe_there (w SequenceWord) refl (leads_self (λ _. maybe (word ts SequenceWord)) d p) r

  pub no_sequence : (b : Bool) (d : Room) (p : Place) → (b ≡ true → In ts p.at (SequenceWord ∷ []) → ⊥) → Reads (λ _. maybe (allow b (word ts SequenceWord))) d p None p
  no_sequence true d p h = walk.without (w SequenceWord) refl (leads_self (λ _. maybe (word ts SequenceWord)) d p) (h refl)
  no_sequence false d p h = walk.without never_lawful refl (leads_self (λ _. maybe (never {T = Marked})) d p) (λ k. let no = k.of in absurd (cc))

  pub sequence_stands : (b : Bool) {d : Room} {p : Place} {t : Marked} {q : Place} → b ≡ true → Reads (λ _. word ts SequenceWord) d p t q → Reads (λ _. maybe (allow b (word ts SequenceWord))) d p (Some t) q
  sequence_stands false e r = absurd (cc)
  sequence_stands true e r = sequence_read r

  -- a declaration of bins
  abbrev pub answer_lawful : (h : BinsHead × Size) → Lawful ts (λ r. ahead (word ts Assign) (bins_right text ts h.0.wildcard h.1 r))
  answer_lawful h = lawful_both _ (w Assign) (right_lawful text ts h.0.wildcard h.1) refl

  abbrev pub guard_end_lawful : Lawful ts (λ r. behind (maybe (guard text ts r)) (word ts Semi))
  guard_end_lawful = lawful_both _ (lawful_maybe (guard_lawful text ts) refl) (w Semi) refl

  abbrev rests : Lawfuls ts (λ r (h : BinsHead × Size). both (bins_of_parts h) (ahead (word ts Assign) (bins_right text ts h.0.wildcard h.1 r)) (behind (maybe (guard text ts r)) (word ts Semi)))
  rests = record { first = Assign ∷ []; cont = []; null = false; sound = λ h. (bins_rest_lawful text ts h).sound }

  pub bins_leads : (h : BinsHead) (s : Size) {d : Room} {p : Place} {m : Place} {q : Place} → Reads (λ _. bins_head text ts) d p h m → Reads (size text ts) d m s q →
      Leads (λ r. both (bins_of_parts (h, s)) (ahead (word ts Assign) (bins_right text ts h.wildcard s r)) (behind (maybe (guard text ts r)) (word ts Semi))) d q (bins text ts) d p (λ x. x)
  unfolding bins
  bins_leads h s {d = d} {p = p} r t = bind_step (sized_head_lawful text ts) rests refl (leads_self (bins text ts) d p) (both_reads pair (bins_head_lawful text ts) (size_lawful text ts) refl r t)

  pub bins_unread : {d : Room} {p : Place} {s : Stop} → Fails (λ _. bins_head text ts) d p s → Fails (bins text ts) d p s
  unfolding bins
  bins_unread {d = d} {p = p} f = walk.bind_ends (sized_head_lawful text ts) rests refl (leads_self (bins text ts) d p) (both_fails pair (bins_head_lawful text ts) (size_lawful text ts) refl f)

  pub bins_breaks : {d : Room} {p : Place} {h : BinsHead} {m : Place} {s : Stop} → Reads (λ _. bins_head text ts) d p h m → Fails (size text ts) d m s → Fails (bins text ts) d p s
  unfolding bins
  bins_breaks {d = d} {p = p} r f = walk.bind_ends (sized_head_lawful text ts) rests refl (leads_self (bins text ts) d p) (both_then_fails pair (bins_head_lawful text ts) (size_lawful text ts) refl r f)
