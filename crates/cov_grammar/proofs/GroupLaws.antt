-- The sets of the rules of selections, coverpoints and crosses, and that each keeps its facts.
use Rattle.std.proofs.Common.{◌≡◌, ℕ, zero, suc, ◌≤◌, List, [], ◌∷◌, ◌++◌, Option, true, false, refl, arith}
use Rattle.cov_tree.specs.Exprs.{none_of, both_of, either_of}
use Rattle.cov_lexer.specs.declared.kind.Kind.{Kind}
use Rattle.cov_lexer.specs.declared.kind.Kind.TheVariants.{Ident, CoverpointWord, CrossWord, BinsofWord, IntersectWord, OptionWord, TypeOptionWord, OpenParen, CloseParen, OpenBrace, CloseBrace, Comma, Semi, Colon, Dot, Assign, Bang, AndAnd, OrOr}
use Rattle.cov_grammar.specs.declared.marked.Marked.{Marked}
use Rattle.cov_grammar.specs.declared.place.Room.{Room}
use Rattle.cov_grammar.specs.declared.place.Standing.TheVariants.{Plain}
use Rattle.cov_grammar.specs.Rule.{here, one, word, ahead, behind, both, either, map_to, maybe}
use Rattle.cov_grammar.specs.Expressions.{pair, snoc}
use Rattle.cov_grammar.specs.Bins.{bins_words, ident, bins, optset}
use Rattle.cov_grammar.specs.Groups.{SelInner, Setting, Counting, put, nothing_put, bins_of_token, cross_bins_of, point_of, cross_of, binsof_in, not_in, sel_paren_in, sunary_in, sand_in, sel_in, sel_inner_at, part_sel, sel, cross_bins, body, point, crossed, cross, label, item, member}
use Rattle.cov_grammar.proofs.Facts.{never_facts}
use Rattle.cov_grammar.proofs.Sound.{Under, same_room, Sound, one_sound, counted_sound, never_sound, either_sound, map_sound, ahead_sound, behind_sound, fold_sound, larger_sound, allow_sound, afresh_sound}
use Rattle.cov_grammar.proofs.Lawful.{Lawful, lawful_in, lawful_word, lawful_one, lawful_here, lawful_map, lawful_maybe, lawful_many, lawful_both, lawful_bind, lawful_either, lawful_fold}
use Rattle.cov_grammar.proofs.ExprLaws.{expr_lawful}
use Rattle.cov_grammar.proofs.BinsLaws.{ident_lawful, guard_lawful, elems_lawful, bins_lawful, optset_lawful}

-- the kinds that begin a selection, and go on with its parts
abbrev pub sel_firsts : List Kind
sel_firsts = Bang ∷ OpenParen ∷ BinsofWord ∷ []

abbrev pub on_sunary : List Kind
on_sunary = IntersectWord ∷ []

abbrev pub on_sand : List Kind
on_sand = AndAnd ∷ on_sunary

abbrev pub on_sel : List Kind
on_sel = OrOr ∷ on_sand

abbrev pub option_words : List Kind
option_words = OptionWord ∷ TypeOptionWord ∷ []

abbrev pub item_firsts : List Kind
item_firsts = Ident ∷ CoverpointWord ∷ CrossWord ∷ []

abbrev pub member_firsts : List Kind
member_firsts = option_words ++ item_firsts ++ Semi ∷ []

-- b has at least the room of a
pub record SelDeeper (ts : List Marked) (a b : SelInner) : Type 0 where
  pub room : a.room ≡ true → b.room ≡ true
  pub inside : Sound ts a.inside b.inside sel_firsts on_sel false
  pub operand : Sound ts a.operand b.operand sel_firsts on_sunary false

module _ (text : List ℕ) (ts : List Marked) where
  abbrev w : (k : Kind) → Lawful ts (λ _. one ts (k ∷ []))
  w k = lawful_word ts k

  -- "(" ident [ "." ident ] ")", and [ "intersect" "{" elems "}" ]
  abbrev pub dotted_lawful : Lawful ts (λ _. ahead (word ts OpenParen) (behind (both pair (ident text ts) (maybe (ahead (word ts Dot) (ident text ts)))) (word ts CloseParen)))
  dotted_lawful = lawful_both _ (w OpenParen) (lawful_both _ (lawful_both pair (ident_lawful text ts) (lawful_maybe (lawful_both _ (w Dot) (ident_lawful text ts) refl) refl) refl) (w CloseParen) refl) refl

  pub binsof_sound : (d e : Room) → Under d e → Sound ts (binsof_in text ts d) (binsof_in text ts e) (BinsofWord ∷ []) on_sunary false
  unfolding binsof_in
  binsof_sound = (lawful_both bins_of_token (w BinsofWord) (lawful_both pair dotted_lawful
      (lawful_maybe (lawful_both _ (w IntersectWord) (lawful_both _ (w OpenBrace) (lawful_both _ (elems_lawful text ts Plain) (w CloseBrace) refl) refl) refl) refl) refl) refl).sound

  abbrev pub binsof_lawful : Lawful ts (binsof_in text ts)
  binsof_lawful = record { first = BinsofWord ∷ []; cont = on_sunary; null = false; sound = binsof_sound }

  module _ (d e : Room) (under : Under d e) (a b : SelInner) (deeper : SelDeeper ts a b) where
    word_sound : (k : Kind) → Sound ts (word ts k) (word ts k) (k ∷ []) [] false
    word_sound k = one_sound ts (k ∷ [])

    pub not_sound : Sound ts (not_in text ts a) (not_in text ts b) (Bang ∷ []) on_sunary false
    unfolding not_in
    not_sound = allow_sound a.room b.room deeper.room (map_sound none_of (ahead_sound (word_sound Bang) deeper.operand refl))

    pub sel_paren_sound : Sound ts (sel_paren_in text ts a) (sel_paren_in text ts b) (OpenParen ∷ []) [] false
    unfolding sel_paren_in
    sel_paren_sound = allow_sound a.room b.room deeper.room (ahead_sound (word_sound OpenParen) (behind_sound deeper.inside (word_sound CloseParen) refl) refl)

    pub sunary_sound : Sound ts (sunary_in text ts d a) (sunary_in text ts e b) sel_firsts on_sunary false
    unfolding sunary_in
    sunary_sound = larger_sound (either_sound not_sound (either_sound sel_paren_sound (binsof_sound d e under) refl) refl) refl refl

    pub sand_sound : Sound ts (sand_in text ts d a) (sand_in text ts e b) sel_firsts on_sand false
    unfolding sand_in
    sand_sound = larger_sound (fold_sound both_of sunary_sound (ahead_sound (counted_sound ts d.operators e.operators (AndAnd ∷ []) under.operators) sunary_sound refl) refl refl) refl refl

    pub sel_in_sound : Sound ts (sel_in text ts d a) (sel_in text ts e b) sel_firsts on_sel false
    unfolding sel_in
    sel_in_sound = larger_sound (fold_sound either_of sand_sound (ahead_sound (counted_sound ts d.operators e.operators (OrOr ∷ []) under.operators) sand_sound refl) refl refl) refl refl

  abbrev room_of : ℕ → ℕ → Room
  room_of d n = record { levels = d; operators = n }

  under_of : (d e m n : ℕ) → d ≤ e → m ≤ n → Under (room_of d m) (room_of e n)
  under_of d e m n h l = record { levels = h; operators = l }

  pub sel_inner_sound : (m n : ℕ) → m ≤ n → (d e : ℕ) → d ≤ e → SelDeeper ts (sel_inner_at text ts m d) (sel_inner_at text ts n e)
  unfolding sel_inner_at
  sel_inner_sound m n l zero zero h = record { room = λ x. x; inside = never_sound (never_facts _ _ _ _); operand = never_sound (never_facts _ _ _ _) }
  sel_inner_sound m n l zero (suc e) h =
      let same = sel_inner_sound n n (omega arith) e e (omega arith) in
      let r = same_room (room_of e n) in record {
        room = λ x. refl;
        inside = never_sound (sel_in_sound (room_of e n) (room_of e n) r _ _ same).more;
        operand = never_sound (sunary_sound (room_of e n) (room_of e n) r _ _ same).more;
      }
  sel_inner_sound m n l (suc d) zero h = absurd (omega arith)
  sel_inner_sound m n l (suc d) (suc e) h =
      let below = sel_inner_sound m n l d e (omega arith) in
      let r = under_of d e m n (omega arith) l in record {
        room = λ x. refl;
        inside = sel_in_sound (room_of d m) (room_of e n) r _ _ below;
        operand = sunary_sound (room_of d m) (room_of e n) r _ _ below;
      }

  -- what stands inside, in this room
  abbrev pub sel_inner : Room → SelInner
  sel_inner r = sel_inner_at text ts r.operators r.levels

  pub sel_deep : (d e : Room) → Under d e → SelDeeper ts (sel_inner d) (sel_inner e)
  sel_deep d e h = sel_inner_sound d.operators e.operators h.operators d.levels e.levels h.levels

  abbrev pub not_lawful : Lawful ts (λ r. not_in text ts (sel_inner r))
  not_lawful = record { first = Bang ∷ []; cont = on_sunary; null = false; sound = λ d e h. not_sound d e h (sel_inner d) (sel_inner e) (sel_deep d e h) }

  abbrev pub sel_paren_lawful : Lawful ts (λ r. sel_paren_in text ts (sel_inner r))
  sel_paren_lawful = record { first = OpenParen ∷ []; cont = []; null = false; sound = λ d e h. sel_paren_sound d e h (sel_inner d) (sel_inner e) (sel_deep d e h) }

  abbrev pub sunary_lawful : Lawful ts (λ r. sunary_in text ts r (sel_inner r))
  sunary_lawful = record { first = sel_firsts; cont = on_sunary; null = false; sound = λ d e h. sunary_sound d e h (sel_inner d) (sel_inner e) (sel_deep d e h) }

  abbrev pub sand_lawful : Lawful ts (λ r. sand_in text ts r (sel_inner r))
  sand_lawful = record { first = sel_firsts; cont = on_sand; null = false; sound = λ d e h. sand_sound d e h (sel_inner d) (sel_inner e) (sel_deep d e h) }

  abbrev pub part_sel_lawful : Lawful ts (part_sel text ts)
  part_sel_lawful = record { first = sel_firsts; cont = on_sel; null = false; sound = λ d e h. sel_in_sound d e h (sel_inner d) (sel_inner e) (sel_deep d e h) }

  pub sel_sound : (d e : Room) → Under d e → Sound ts (sel text ts d) (sel text ts e) sel_firsts on_sel false
  unfolding sel
  sel_sound d e h = afresh_sound (part_sel_lawful.sound d e h)

  abbrev pub sel_lawful : Lawful ts (sel text ts)
  sel_lawful = record { first = sel_firsts; cont = on_sel; null = false; sound = sel_sound }

  pub cross_bins_sound : (d e : Room) → Under d e → Sound ts (cross_bins text ts d) (cross_bins text ts e) bins_words [] false
  unfolding cross_bins
  cross_bins_sound = (lawful_both (cross_bins_of text) (lawful_one ts bins_words) (lawful_both _ (lawful_both pair
      (lawful_both pair (ident_lawful text ts) (lawful_both _ (w Assign) sel_lawful refl) refl) (lawful_maybe (guard_lawful text ts) refl) refl) (w Semi) refl) refl).sound

  abbrev pub cross_bins_lawful : Lawful ts (cross_bins text ts)
  cross_bins_lawful = record { first = bins_words; cont = []; null = false; sound = cross_bins_sound }

  -- optset | bins, and optset | cbins
  abbrev pub point_entry_lawful : Lawful ts (λ e. either (map_to Setting (optset text ts e)) (map_to Counting (bins text ts e)))
  point_entry_lawful = lawful_either (lawful_map (optset_lawful text ts) Setting) (lawful_map (bins_lawful text ts) Counting) refl refl

  abbrev pub cross_entry_lawful : Lawful ts (λ e. either (map_to Setting (optset text ts e)) (map_to Counting (cross_bins text ts e)))
  cross_entry_lawful = lawful_either (lawful_map (optset_lawful text ts) Setting) (lawful_map cross_bins_lawful Counting) refl refl

  pub point_body_sound : (d e : Room) → Under d e → Sound ts (body text ts (bins text ts d) d) (body text ts (bins text ts e) e) (Semi ∷ OpenBrace ∷ []) [] false
  unfolding body
  point_body_sound = (lawful_either (lawful_map (w Semi) _) (lawful_both _ (w OpenBrace) (lawful_both _ (lawful_many point_entry_lawful put refl refl nothing_put) (w CloseBrace) refl) refl) refl refl).sound

  abbrev pub point_body_lawful : Lawful ts (λ e. body text ts (bins text ts e) e)
  point_body_lawful = record { first = Semi ∷ OpenBrace ∷ []; cont = []; null = false; sound = point_body_sound }

  pub cross_body_sound : (d e : Room) → Under d e → Sound ts (body text ts (cross_bins text ts d) d) (body text ts (cross_bins text ts e) e) (Semi ∷ OpenBrace ∷ []) [] false
  unfolding body
  cross_body_sound = (lawful_either (lawful_map (w Semi) _) (lawful_both _ (w OpenBrace) (lawful_both _ (lawful_many cross_entry_lawful put refl refl nothing_put) (w CloseBrace) refl) refl) refl refl).sound

  abbrev pub cross_body_lawful : Lawful ts (λ e. body text ts (cross_bins text ts e) e)
  cross_body_lawful = record { first = Semi ∷ OpenBrace ∷ []; cont = []; null = false; sound = cross_body_sound }

  pub point_sound : (start : ℕ) (l : Option (List ℕ)) (d e : Room) → Under d e → Sound ts (point text ts start l d) (point text ts start l e) (CoverpointWord ∷ []) [] false
  unfolding point
  point_sound start l = (lawful_both (point_of start l) (lawful_both _ (w CoverpointWord) (lawful_both pair (expr_lawful text ts) (lawful_maybe (guard_lawful text ts) refl) refl) refl) point_body_lawful refl).sound

  abbrev pub point_lawful : (start : ℕ) (l : Option (List ℕ)) → Lawful ts (point text ts start l)
  point_lawful start l = record { first = CoverpointWord ∷ []; cont = []; null = false; sound = point_sound start l }

  pub crossed_sound : (d e : Room) → Under d e → Sound ts (crossed text ts) (crossed text ts) (Ident ∷ []) (Comma ∷ []) false
  unfolding crossed
  crossed_sound = (lawful_fold snoc (lawful_both _ (ident_lawful text ts) (lawful_both _ (w Comma) (ident_lawful text ts) refl) refl) (lawful_both _ (w Comma) (ident_lawful text ts) refl) refl refl refl).sound

  abbrev pub crossed_lawful : Lawful ts (λ _. crossed text ts)
  crossed_lawful = record { first = Ident ∷ []; cont = Comma ∷ []; null = false; sound = crossed_sound }

  pub cross_sound : (start : ℕ) (l : Option (List ℕ)) (d e : Room) → Under d e → Sound ts (cross text ts start l d) (cross text ts start l e) (CrossWord ∷ []) [] false
  unfolding cross
  cross_sound start l = (lawful_both (cross_of start l) (lawful_both _ (w CrossWord) (lawful_both pair crossed_lawful (lawful_maybe (guard_lawful text ts) refl) refl) refl) cross_body_lawful refl).sound

  abbrev pub cross_lawful : (start : ℕ) (l : Option (List ℕ)) → Lawful ts (cross text ts start l)
  cross_lawful start l = record { first = CrossWord ∷ []; cont = []; null = false; sound = cross_sound start l }

  pub label_sound : (d e : Room) → Under d e → Sound ts (label text ts) (label text ts) (Ident ∷ []) [] false
  unfolding label
  label_sound = (lawful_both _ (ident_lawful text ts) (w Colon) refl).sound

  abbrev pub label_lawful : Lawful ts (λ _. label text ts)
  label_lawful = record { first = Ident ∷ []; cont = []; null = false; sound = label_sound }

  -- where the item begins, and its label
  abbrev pub labelled_lawful : Lawful ts (λ _. both pair (here ts) (maybe (label text ts)))
  labelled_lawful = lawful_both pair (lawful_here ts) (lawful_maybe label_lawful refl) refl

  abbrev pub item_rest_lawful : (p : ℕ × Option (List ℕ)) → Lawful ts (λ e. either (point text ts p.0 p.1 e) (cross text ts p.0 p.1 e))
  item_rest_lawful p = lawful_either (point_lawful p.0 p.1) (cross_lawful p.0 p.1) refl refl

  pub item_sound : (d e : Room) → Under d e → Sound ts (item text ts d) (item text ts e) item_firsts [] false
  unfolding item
  item_sound d e h = (lawful_in (lawful_bind labelled_lawful (record { first = CoverpointWord ∷ CrossWord ∷ []; cont = []; null = false; sound = λ p. (item_rest_lawful p).sound }) refl) item_firsts [] refl refl).sound d e h

  abbrev pub item_lawful : Lawful ts (item text ts)
  item_lawful = record { first = item_firsts; cont = []; null = false; sound = item_sound }

  pub member_sound : (d e : Room) → Under d e → Sound ts (member text ts d) (member text ts e) member_firsts [] false
  unfolding member
  member_sound = (lawful_either (lawful_map (optset_lawful text ts) _) (lawful_either (lawful_map item_lawful _) (lawful_map (w Semi) _) refl refl) refl refl).sound

  abbrev pub member_lawful : Lawful ts (member text ts)
  member_lawful = record { first = member_firsts; cont = []; null = false; sound = member_sound }
