-- The sets of the rules of values, sequences, bins and options, and that each keeps its facts.
use Rattle.std.proofs.Common.{◌≡◌, ℕ, List, [], ◌∷◌, ◌++◌, Bool, true, false, not, ◌&&◌, refl}
use Rattle.cov_tree.specs.declared.bins.Right.TheVariants.{Ranges, Whole, Trans}
use Rattle.cov_tree.specs.declared.bins.Size.{Size}
use Rattle.cov_lexer.specs.declared.kind.Kind.{Kind}
use Rattle.cov_lexer.specs.declared.kind.Kind.TheVariants.{Ident, Quoted, WildcardWord, IffWord, DefaultWord, SequenceWord, WithWord, OptionWord, TypeOptionWord, OpenParen, CloseParen, OpenSquare, CloseSquare, OpenBrace, CloseBrace, Comma, Semi, Colon, Dot, Assign, FatArrow, ThinArrow, Star, DollarSign}
use Rattle.cov_grammar.specs.declared.marked.Marked.{Marked}
use Rattle.cov_grammar.specs.declared.place.Room.{Room}
use Rattle.cov_grammar.specs.declared.place.Standing.{Standing}
use Rattle.cov_grammar.specs.declared.place.Standing.TheVariants.{Plain, StepEnd}
use Rattle.cov_grammar.specs.Rule.{one, ahead, behind, word, both, maybe}
use Rattle.cov_grammar.specs.Expressions.{pair, snoc}
use Rattle.cov_grammar.specs.Bins.{squares, bins_words, bins_of_parts, BinsHead, is_fixed, is_scalar, option_of, ident, guard, range_end, span, elem, elems, repetition, step, seq, seqs, keep, values, size, bins_word, bins_head, default_right, right, bins, option_value, optset}
use Rattle.cov_grammar.proofs.Sets.{disjoint, subset_self, subset_nil, subset_append, subset_right}
use Rattle.cov_grammar.proofs.Sound.{Under, Sound}
use Rattle.cov_grammar.proofs.Lawful.{Lawful, lawful_in, lawful_word, lawful_one, lawful_here, lawful_map, lawful_maybe, lawful_allow, lawful_both, lawful_bind, lawful_either, lawful_fold}
use Rattle.cov_grammar.proofs.ExprLaws.{expr_firsts, on_expr, whole_expr_lawful, expr_lawful}

-- the kinds that begin an element, and go on with elements
abbrev pub elem_firsts : List Kind
elem_firsts = expr_firsts ++ squares

abbrev pub on_elems : Standing → List Kind
on_elems s = Comma ∷ on_expr s

abbrev pub on_step : List Kind
on_step = OpenSquare ∷ on_elems StepEnd

abbrev pub head_firsts : List Kind
head_firsts = WildcardWord ∷ bins_words

abbrev pub right_firsts : List Kind
right_firsts = DefaultWord ∷ OpenBrace ∷ Ident ∷ OpenParen ∷ []

abbrev pub on_right : List Kind
on_right = SequenceWord ∷ WithWord ∷ Comma ∷ []

pub no_comma : (s : Standing) → disjoint (on_expr s) (Comma ∷ []) ≡ true
no_comma Plain = refl
no_comma StepEnd = refl

module _ (text : List ℕ) (ts : List Marked) where
  abbrev pub w : (k : Kind) → Lawful ts (λ _. one ts (k ∷ []))
  w k = lawful_word ts k

  pub ident_sound : (d e : Room) → Under d e → Sound ts (ident text ts) (ident text ts) (Ident ∷ []) [] false
  unfolding ident
  ident_sound = (lawful_map (w Ident) _).sound

  abbrev pub ident_lawful : Lawful ts (λ _. ident text ts)
  ident_lawful = record { first = Ident ∷ []; cont = []; null = false; sound = ident_sound }

  pub guard_sound : (d e : Room) → Under d e → Sound ts (guard text ts d) (guard text ts e) (IffWord ∷ []) [] false
  unfolding guard
  guard_sound = (lawful_both _ (w IffWord) (lawful_both _ (w OpenParen) (lawful_both _ (expr_lawful text ts) (w CloseParen) refl) refl) refl).sound

  abbrev pub guard_lawful : Lawful ts (guard text ts)
  guard_lawful = record { first = IffWord ∷ []; cont = []; null = false; sound = guard_sound }

  pub range_end_sound : (d e : Room) → Under d e → Sound ts (range_end text ts d) (range_end text ts e) (expr_firsts ++ DollarSign ∷ []) (on_expr Plain) false
  unfolding range_end
  range_end_sound = (lawful_either (lawful_map (expr_lawful text ts) _) (lawful_map (w DollarSign) _) refl refl).sound

  abbrev pub range_end_lawful : Lawful ts (range_end text ts)
  range_end_lawful = record { first = expr_firsts ++ DollarSign ∷ []; cont = on_expr Plain; null = false; sound = range_end_sound }

  pub span_sound : (d e : Room) → Under d e → Sound ts (span text ts d) (span text ts e) squares [] false
  unfolding span
  span_sound = (lawful_both _ (lawful_one ts squares) (lawful_both _ (lawful_both _ range_end_lawful (lawful_both _ (w Colon) range_end_lawful refl) refl) (w CloseSquare) refl) refl).sound

  abbrev pub span_lawful : Lawful ts (span text ts)
  span_lawful = record { first = squares; cont = []; null = false; sound = span_sound }

  pub elem_sound : (s : Standing) (d e : Room) → Under d e → Sound ts (elem text ts s d) (elem text ts s e) elem_firsts (on_expr s) false
  unfolding elem
  elem_sound s = (lawful_in (lawful_either (lawful_map (whole_expr_lawful text ts s) _) span_lawful refl refl) elem_firsts (on_expr s) refl
      (subset_nil (on_expr s ++ []) (on_expr s) (subset_nil (on_expr s) (on_expr s) (subset_self (on_expr s))))).sound

  abbrev pub elem_lawful : (s : Standing) → Lawful ts (elem text ts s)
  elem_lawful s = record { first = elem_firsts; cont = on_expr s; null = false; sound = elem_sound s }

  pub more_elem_sound : (s : Standing) (d e : Room) → Under d e → Sound ts (ahead (word ts Comma) (elem text ts s d)) (ahead (word ts Comma) (elem text ts s e)) (Comma ∷ []) (on_expr s) false
  more_elem_sound s = (lawful_in (lawful_both _ (w Comma) (elem_lawful s) refl) (Comma ∷ []) (on_expr s) refl (subset_nil (on_expr s) (on_expr s) (subset_self (on_expr s)))).sound

  -- "," elem
  abbrev pub more_elem_lawful : (s : Standing) → Lawful ts (λ e. ahead (word ts Comma) (elem text ts s e))
  more_elem_lawful s = record { first = Comma ∷ []; cont = on_expr s; null = false; sound = more_elem_sound s }

  pub elems_sound : (s : Standing) (d e : Room) → Under d e → Sound ts (elems text ts s d) (elems text ts s e) elem_firsts (on_elems s) false
  unfolding elems
  elems_sound s = (lawful_in (lawful_fold snoc (lawful_map (elem_lawful s) _) (more_elem_lawful s) refl (no_comma s) (no_comma s)) elem_firsts (on_elems s) refl
      (subset_append (on_expr s ++ Comma ∷ []) (on_expr s) (on_elems s)
      (subset_append (on_expr s) (Comma ∷ []) (on_elems s) (subset_right (on_expr s) (Comma ∷ []) (on_expr s) (subset_self (on_expr s))) refl)
      (subset_right (on_expr s) (Comma ∷ []) (on_expr s) (subset_self (on_expr s))))).sound

  abbrev pub elems_lawful : (s : Standing) → Lawful ts (elems text ts s)
  elems_lawful s = record { first = elem_firsts; cont = on_elems s; null = false; sound = elems_sound s }

  pub repetition_sound : (d e : Room) → Under d e → Sound ts (repetition text ts d) (repetition text ts e) (OpenSquare ∷ []) [] false
  unfolding repetition
  repetition_sound = (lawful_both _ (w OpenSquare) (lawful_both _ (lawful_both _ (lawful_one ts (Star ∷ ThinArrow ∷ Assign ∷ []))
      (lawful_both _ (expr_lawful text ts) (lawful_maybe (lawful_both _ (w Colon) (expr_lawful text ts) refl) refl) refl) refl) (w CloseSquare) refl) refl).sound

  abbrev pub repetition_lawful : Lawful ts (repetition text ts)
  repetition_lawful = record { first = OpenSquare ∷ []; cont = []; null = false; sound = repetition_sound }

  pub step_sound : (d e : Room) → Under d e → Sound ts (step text ts d) (step text ts e) elem_firsts on_step false
  unfolding step
  step_sound d e h = (lawful_bind (lawful_here ts) (record {
    first = elem_firsts;
    cont = on_step;
    null = false;
    sound = λ at. (lawful_in (lawful_both _ (elems_lawful StepEnd) (lawful_maybe repetition_lawful refl) refl) elem_firsts on_step refl refl).sound;
  }) refl).sound d e h

  abbrev pub step_lawful : Lawful ts (step text ts)
  step_lawful = record { first = elem_firsts; cont = on_step; null = false; sound = step_sound }

  pub seq_sound : (d e : Room) → Under d e → Sound ts (seq text ts d) (seq text ts e) (OpenParen ∷ []) [] false
  unfolding seq
  seq_sound = (lawful_both _ (w OpenParen) (lawful_both _ (lawful_fold snoc (lawful_map step_lawful _) (lawful_both _ (w FatArrow) step_lawful refl) refl refl refl) (w CloseParen) refl) refl).sound

  abbrev pub seq_lawful : Lawful ts (seq text ts)
  seq_lawful = record { first = OpenParen ∷ []; cont = []; null = false; sound = seq_sound }

  pub seqs_sound : (d e : Room) → Under d e → Sound ts (seqs text ts d) (seqs text ts e) (OpenParen ∷ []) (Comma ∷ []) false
  unfolding seqs
  seqs_sound = (lawful_fold snoc (lawful_map seq_lawful _) (lawful_both _ (w Comma) seq_lawful refl) refl refl refl).sound

  abbrev pub seqs_lawful : Lawful ts (seqs text ts)
  seqs_lawful = record { first = OpenParen ∷ []; cont = Comma ∷ []; null = false; sound = seqs_sound }

  pub keep_sound : (d e : Room) → Under d e → Sound ts (keep text ts d) (keep text ts e) (WithWord ∷ []) [] false
  unfolding keep
  keep_sound = (lawful_both _ (w WithWord) (lawful_both _ (w OpenParen) (lawful_both _ (expr_lawful text ts) (w CloseParen) refl) refl) refl).sound

  abbrev pub keep_lawful : Lawful ts (keep text ts)
  keep_lawful = record { first = WithWord ∷ []; cont = []; null = false; sound = keep_sound }

  pub values_sound : (d e : Room) → Under d e → Sound ts (values text ts d) (values text ts e) (OpenBrace ∷ Ident ∷ []) (WithWord ∷ []) false
  unfolding values
  values_sound = (lawful_either
      (lawful_both Ranges (lawful_both _ (w OpenBrace) (lawful_both _ (elems_lawful Plain) (w CloseBrace) refl) refl) (lawful_maybe keep_lawful refl) refl)
      (lawful_both Whole ident_lawful keep_lawful refl) refl refl).sound

  abbrev pub values_lawful : Lawful ts (values text ts)
  values_lawful = record { first = OpenBrace ∷ Ident ∷ []; cont = WithWord ∷ []; null = false; sound = values_sound }

  pub size_sound : (d e : Room) → Under d e → Sound ts (size text ts d) (size text ts e) squares squares true
  unfolding size
  size_sound = (lawful_map (lawful_maybe (lawful_both _ (lawful_one ts squares) (lawful_both _ (lawful_maybe (expr_lawful text ts) refl) (w CloseSquare) refl) refl) refl) _).sound

  abbrev pub size_lawful : Lawful ts (size text ts)
  size_lawful = record { first = squares; cont = squares; null = true; sound = size_sound }

  pub bins_word_sound : (d e : Room) → Under d e → Sound ts (bins_word text ts) (bins_word text ts) bins_words [] false
  unfolding bins_word
  bins_word_sound = (lawful_map (lawful_one ts bins_words) _).sound

  abbrev pub bins_word_lawful : Lawful ts (λ _. bins_word text ts)
  bins_word_lawful = record { first = bins_words; cont = []; null = false; sound = bins_word_sound }

  pub bins_head_sound : (d e : Room) → Under d e → Sound ts (bins_head text ts) (bins_head text ts) head_firsts [] false
  unfolding bins_head
  bins_head_sound d e h = (lawful_bind (lawful_here ts) (record {
    first = head_firsts;
    cont = [];
    null = false;
    sound = λ at. (lawful_both _ (lawful_maybe (w WildcardWord) refl) (lawful_both _ bins_word_lawful ident_lawful refl) refl).sound;
  }) refl).sound d e h

  abbrev pub bins_head_lawful : Lawful ts (λ _. bins_head text ts)
  bins_head_lawful = record { first = head_firsts; cont = []; null = false; sound = bins_head_sound }

  pub default_right_sound : (s : Size) (d e : Room) → Under d e → Sound ts (default_right text ts s) (default_right text ts s) (DefaultWord ∷ []) (SequenceWord ∷ []) false
  unfolding default_right
  default_right_sound s = (lawful_both _ (w DefaultWord) (lawful_maybe (lawful_allow (w SequenceWord) (is_scalar s)) refl) refl).sound

  abbrev pub default_right_lawful : (s : Size) → Lawful ts (λ _. default_right text ts s)
  default_right_lawful s = record { first = DefaultWord ∷ []; cont = SequenceWord ∷ []; null = false; sound = default_right_sound s }

  pub right_sound : (wildcard : Bool) (s : Size) (d e : Room) → Under d e → Sound ts (right text ts wildcard s d) (right text ts wildcard s e) right_firsts on_right false
  unfolding right
  right_sound wildcard s = (lawful_either (lawful_allow (default_right_lawful s) (not wildcard && not (is_fixed s)))
      (lawful_either values_lawful (lawful_allow (lawful_map seqs_lawful Trans) (not (is_fixed s))) refl refl) refl refl).sound

  abbrev pub right_lawful : (wildcard : Bool) (s : Size) → Lawful ts (right text ts wildcard s)
  right_lawful wildcard s = record { first = right_firsts; cont = on_right; null = false; sound = right_sound wildcard s }

  -- what stands before the `=` of bins, and what stands behind it
  abbrev pub sized_head_lawful : Lawful ts (λ e. both pair (bins_head text ts) (size text ts e))
  sized_head_lawful = lawful_both pair bins_head_lawful size_lawful refl

  abbrev pub bins_rest_lawful : (h : BinsHead × Size) → Lawful ts (λ e. both (bins_of_parts h)
      (ahead (word ts Assign) (right text ts h.0.wildcard h.1 e))
      (behind (maybe (guard text ts e)) (word ts Semi)))
  bins_rest_lawful h = lawful_both (bins_of_parts h) (lawful_both _ (w Assign) (right_lawful h.0.wildcard h.1) refl) (lawful_both _ (lawful_maybe guard_lawful refl) (w Semi) refl) refl

  pub bins_sound : (d e : Room) → Under d e → Sound ts (bins text ts d) (bins text ts e) head_firsts [] false
  unfolding bins
  bins_sound d e h = (lawful_bind sized_head_lawful (record { first = Assign ∷ []; cont = []; null = false; sound = λ h. (bins_rest_lawful h).sound }) refl).sound d e h

  abbrev pub bins_lawful : Lawful ts (bins text ts)
  bins_lawful = record { first = head_firsts; cont = []; null = false; sound = bins_sound }

  pub option_value_sound : (d e : Room) → Under d e → Sound ts (option_value text ts d) (option_value text ts e) (Quoted ∷ expr_firsts) (on_expr Plain) false
  unfolding option_value
  option_value_sound = (lawful_either (lawful_map (w Quoted) _) (lawful_map (expr_lawful text ts) _) refl refl).sound

  abbrev pub option_value_lawful : Lawful ts (option_value text ts)
  option_value_lawful = record { first = Quoted ∷ expr_firsts; cont = on_expr Plain; null = false; sound = option_value_sound }

  pub optset_sound : (d e : Room) → Under d e → Sound ts (optset text ts d) (optset text ts e) (OptionWord ∷ TypeOptionWord ∷ []) [] false
  unfolding optset
  optset_sound = (lawful_both (option_of text) (lawful_one ts (OptionWord ∷ TypeOptionWord ∷ [])) (lawful_both _ (w Dot) (lawful_both pair ident_lawful
      (lawful_both _ (w Assign) (lawful_both _ option_value_lawful (w Semi) refl) refl) refl) refl) refl).sound

  abbrev pub optset_lawful : Lawful ts (optset text ts)
  optset_lawful = record { first = OptionWord ∷ TypeOptionWord ∷ []; cont = []; null = false; sound = optset_sound }
