-- The sets of the rules of declarations and of a whole design text, and that each keeps its facts.
use Rattle.std.proofs.Common.{ℕ, List, [], ◌∷◌, ◌++◌, true, false, codes, refl}
use Rattle.cov_lexer.specs.declared.kind.Kind.{Kind}
use Rattle.cov_lexer.specs.declared.kind.Kind.TheVariants.{Ident, TypedefWord, EnumWord, SignedWord, UnsignedWord, CovergroupWord, EndgroupWord, IffWord, WithWord, OtherWord, InputWord, RefWord, NewWord, PosedgeWord, NegedgeWord, EdgeWord, OrWord, OpenParen, CloseParen, CloseSquare, OpenBrace, CloseBrace, Comma, Semi, Colon, AtSign, Assign}
use Rattle.cov_grammar.specs.declared.marked.Marked.{Marked}
use Rattle.cov_grammar.specs.declared.place.Room.{Room}
use Rattle.cov_grammar.specs.declared.place.Standing.TheVariants.{Plain}
use Rattle.cov_grammar.specs.Rule.{one, word, same_word, ahead, behind, both, either, map_to, maybe}
use Rattle.cov_grammar.specs.Expressions.{pair, snoc, expr, list_in}
use Rattle.cov_grammar.specs.Bins.{squares, ident}
use Rattle.cov_grammar.specs.Designs.{vector_words, fixed_words, vector_of, fixed_of, named_type, variables, enum_of, list_or, written, with_formal, edge_of, argument_of, by_event, by_function, sampling_or, group_of, sign, vector_span, vector, fixed, built_in, type_text, enum_name, enum_names, enum_decl, built_in_decl, arguments, instance_rest, variables_rest, named_decl, formal, formal_list, formals, edge, event, argument, argument_list, argument_parens, sampled, sampling, members, group_end, group, decl, design}
use Rattle.cov_grammar.proofs.Sound.{Under, Sound}
use Rattle.cov_grammar.proofs.Lawful.{Lawful, lawful_in, lawful_word, lawful_one, lawful_here, lawful_same_word, lawful_map, lawful_maybe, lawful_many, lawful_both, lawful_bind, lawful_either, lawful_fold}
use Rattle.cov_grammar.proofs.ExprLaws.{expr_firsts, on_expr, expr_lawful}
use Rattle.cov_grammar.proofs.BinsLaws.{ident_lawful}
use Rattle.cov_grammar.proofs.GroupLaws.{member_firsts, member_lawful}

abbrev pub signs : List Kind
signs = SignedWord ∷ UnsignedWord ∷ []

abbrev pub type_firsts : List Kind
type_firsts = vector_words ++ fixed_words ++ Ident ∷ []

-- the kinds that go on with a type
abbrev pub on_type : List Kind
on_type = squares ++ signs

abbrev pub directions : List Kind
directions = InputWord ∷ RefWord ∷ []

abbrev pub edge_words : List Kind
edge_words = PosedgeWord ∷ NegedgeWord ∷ EdgeWord ∷ []

abbrev pub decl_firsts : List Kind
decl_firsts = TypedefWord ∷ CovergroupWord ∷ type_firsts

abbrev pub append : {A : Type 0} → List A → List A → List A
append xs ys = xs ++ ys

module _ (text : List ℕ) (ts : List Marked) where
  abbrev w : (k : Kind) → Lawful ts (λ _. one ts (k ∷ []))
  w k = lawful_word ts k

  pub sign_sound : (d e : Room) → Under d e → Sound ts (sign text ts) (sign text ts) signs signs true
  unfolding sign
  sign_sound = (lawful_maybe (lawful_one ts signs) refl).sound

  abbrev pub sign_lawful : Lawful ts (λ _. sign text ts)
  sign_lawful = record { first = signs; cont = signs; null = true; sound = sign_sound }

  pub vector_span_sound : (d e : Room) → Under d e → Sound ts (vector_span text ts d) (vector_span text ts e) squares [] false
  unfolding vector_span
  vector_span_sound = (lawful_both _ (lawful_one ts squares) (lawful_both _ (lawful_both pair (expr_lawful text ts) (lawful_both _ (w Colon) (expr_lawful text ts) refl) refl) (w CloseSquare) refl) refl).sound

  abbrev pub vector_span_lawful : Lawful ts (vector_span text ts)
  vector_span_lawful = record { first = squares; cont = []; null = false; sound = vector_span_sound }

  pub vector_sound : (d e : Room) → Under d e → Sound ts (vector text ts d) (vector text ts e) vector_words on_type false
  unfolding vector
  vector_sound = (lawful_in (lawful_both vector_of (lawful_one ts vector_words) (lawful_both pair sign_lawful (lawful_maybe vector_span_lawful refl) refl) refl) vector_words on_type refl refl).sound

  abbrev pub vector_lawful : Lawful ts (vector text ts)
  vector_lawful = record { first = vector_words; cont = on_type; null = false; sound = vector_sound }

  pub fixed_sound : (d e : Room) → Under d e → Sound ts (fixed text ts) (fixed text ts) fixed_words signs false
  unfolding fixed
  fixed_sound = (lawful_both fixed_of (lawful_one ts fixed_words) sign_lawful refl).sound

  abbrev pub fixed_lawful : Lawful ts (λ _. fixed text ts)
  fixed_lawful = record { first = fixed_words; cont = signs; null = false; sound = fixed_sound }

  pub built_in_sound : (d e : Room) → Under d e → Sound ts (built_in text ts d) (built_in text ts e) (vector_words ++ fixed_words) on_type false
  unfolding built_in
  built_in_sound = (lawful_in (lawful_either vector_lawful fixed_lawful refl refl) (vector_words ++ fixed_words) on_type refl refl).sound

  abbrev pub built_in_lawful : Lawful ts (built_in text ts)
  built_in_lawful = record { first = vector_words ++ fixed_words; cont = on_type; null = false; sound = built_in_sound }

  pub type_text_sound : (d e : Room) → Under d e → Sound ts (type_text text ts d) (type_text text ts e) type_firsts on_type false
  unfolding type_text
  type_text_sound = (lawful_in (lawful_either built_in_lawful (lawful_map (w Ident) _) refl refl) type_firsts on_type refl refl).sound

  abbrev pub type_text_lawful : Lawful ts (type_text text ts)
  type_text_lawful = record { first = type_firsts; cont = on_type; null = false; sound = type_text_sound }

  -- [ "=" expr ]
  abbrev pub value_lawful : Lawful ts (λ e. maybe (ahead (word ts Assign) (expr text ts e)))
  value_lawful = lawful_maybe (lawful_both _ (w Assign) (expr_lawful text ts) refl) refl

  pub enum_name_sound : (d e : Room) → Under d e → Sound ts (enum_name text ts d) (enum_name text ts e) (Ident ∷ []) (Assign ∷ on_expr Plain) false
  unfolding enum_name
  enum_name_sound = (lawful_in (lawful_both pair (ident_lawful text ts) value_lawful refl) (Ident ∷ []) (Assign ∷ on_expr Plain) refl refl).sound

  abbrev pub enum_name_lawful : Lawful ts (enum_name text ts)
  enum_name_lawful = record { first = Ident ∷ []; cont = Assign ∷ on_expr Plain; null = false; sound = enum_name_sound }

  pub enum_names_sound : (d e : Room) → Under d e → Sound ts (enum_names text ts d) (enum_names text ts e) (Ident ∷ []) (Comma ∷ Assign ∷ on_expr Plain) false
  unfolding enum_names
  enum_names_sound = (lawful_in (lawful_fold snoc (lawful_map enum_name_lawful _) (lawful_both _ (w Comma) enum_name_lawful refl) refl refl refl) (Ident ∷ []) (Comma ∷ Assign ∷ on_expr Plain) refl refl).sound

  abbrev pub enum_names_lawful : Lawful ts (enum_names text ts)
  enum_names_lawful = record { first = Ident ∷ []; cont = Comma ∷ Assign ∷ on_expr Plain; null = false; sound = enum_names_sound }

  -- behind "typedef"
  abbrev pub enum_body_lawful : Lawful ts (λ e. ahead (word ts EnumWord) (both pair (maybe (vector text ts e)) (ahead (word ts OpenBrace) (behind (enum_names text ts e) (word ts CloseBrace)))))
  enum_body_lawful = lawful_both _ (w EnumWord) (lawful_both pair (lawful_maybe vector_lawful refl) (lawful_both _ (w OpenBrace) (lawful_both _ enum_names_lawful (w CloseBrace) refl) refl) refl) refl

  abbrev pub enum_rest_lawful : (t : Marked) → Lawful ts (λ e. both (enum_of t)
      (ahead (word ts EnumWord) (both pair (maybe (vector text ts e)) (ahead (word ts OpenBrace) (behind (enum_names text ts e) (word ts CloseBrace)))))
      (behind (ident text ts) (word ts Semi)))
  enum_rest_lawful t = lawful_both (enum_of t) enum_body_lawful (lawful_both _ (ident_lawful text ts) (w Semi) refl) refl

  pub enum_decl_sound : (d e : Room) → Under d e → Sound ts (enum_decl text ts d) (enum_decl text ts e) (TypedefWord ∷ []) [] false
  unfolding enum_decl
  enum_decl_sound d e h = (lawful_bind (w TypedefWord) (record { first = EnumWord ∷ []; cont = []; null = false; sound = λ t. (enum_rest_lawful t).sound }) refl).sound d e h

  abbrev pub enum_decl_lawful : Lawful ts (enum_decl text ts)
  enum_decl_lawful = record { first = TypedefWord ∷ []; cont = []; null = false; sound = enum_decl_sound }

  -- "," ident
  abbrev pub more_name_lawful : Lawful ts (λ _. ahead (word ts Comma) (word ts Ident))
  more_name_lawful = lawful_both _ (w Comma) (w Ident) refl

  pub built_in_decl_sound : (d e : Room) → Under d e → Sound ts (built_in_decl text ts d) (built_in_decl text ts e) (vector_words ++ fixed_words) [] false
  unfolding built_in_decl
  built_in_decl_sound = (lawful_both (variables text) built_in_lawful (lawful_both _ (lawful_fold snoc (lawful_map (w Ident) _) more_name_lawful refl refl refl) (w Semi) refl) refl).sound

  abbrev pub built_in_decl_lawful : Lawful ts (built_in_decl text ts)
  built_in_decl_lawful = record { first = vector_words ++ fixed_words; cont = []; null = false; sound = built_in_decl_sound }

  pub expr_list_sound : (d e : Room) → Under d e → Sound ts (list_in text ts (expr text ts d)) (list_in text ts (expr text ts e)) expr_firsts (Comma ∷ on_expr Plain) false
  unfolding list_in
  expr_list_sound = (lawful_in (lawful_fold snoc (lawful_map (expr_lawful text ts) _) (lawful_both _ (w Comma) (expr_lawful text ts) refl) refl refl refl) expr_firsts (Comma ∷ on_expr Plain) refl refl).sound

  abbrev pub expr_list_lawful : Lawful ts (λ e. list_in text ts (expr text ts e))
  expr_list_lawful = record { first = expr_firsts; cont = Comma ∷ on_expr Plain; null = false; sound = expr_list_sound }

  pub arguments_sound : (d e : Room) → Under d e → Sound ts (arguments text ts d) (arguments text ts e) (OpenParen ∷ []) [] false
  unfolding arguments
  arguments_sound = (lawful_both _ (w OpenParen) (lawful_both _ (lawful_maybe expr_list_lawful refl) (w CloseParen) refl) refl).sound

  abbrev pub arguments_lawful : Lawful ts (arguments text ts)
  arguments_lawful = record { first = OpenParen ∷ []; cont = []; null = false; sound = arguments_sound }

  pub instance_rest_sound : (p : Marked × Marked) (d e : Room) → Under d e → Sound ts (instance_rest text ts p d) (instance_rest text ts p e) (Assign ∷ []) [] false
  unfolding instance_rest
  instance_rest_sound p = (lawful_map (lawful_both _ (w Assign) (lawful_both _ (w NewWord) (lawful_both _ (lawful_maybe arguments_lawful refl) (w Semi) refl) refl) refl) _).sound

  abbrev pub instance_rest_lawful : (p : Marked × Marked) → Lawful ts (instance_rest text ts p)
  instance_rest_lawful p = record { first = Assign ∷ []; cont = []; null = false; sound = instance_rest_sound p }

  pub variables_rest_sound : (p : Marked × Marked) (d e : Room) → Under d e → Sound ts (variables_rest text ts p) (variables_rest text ts p) (Comma ∷ Semi ∷ []) [] false
  unfolding variables_rest
  variables_rest_sound p = (lawful_map (lawful_both _ (lawful_many more_name_lawful snoc refl refl (p.1 ∷ [])) (w Semi) refl) (variables text (named_type text p.0))).sound

  abbrev pub variables_rest_lawful : (p : Marked × Marked) → Lawful ts (λ _. variables_rest text ts p)
  variables_rest_lawful p = record { first = Comma ∷ Semi ∷ []; cont = []; null = false; sound = variables_rest_sound p }

  -- two names, and what stands behind them
  abbrev pub two_names_lawful : Lawful ts (λ _. both pair (word ts Ident) (word ts Ident))
  two_names_lawful = lawful_both pair (w Ident) (w Ident) refl

  abbrev pub named_rest_lawful : (p : Marked × Marked) → Lawful ts (λ e. either (instance_rest text ts p e) (variables_rest text ts p))
  named_rest_lawful p = lawful_either (instance_rest_lawful p) (variables_rest_lawful p) refl refl

  pub named_decl_sound : (d e : Room) → Under d e → Sound ts (named_decl text ts d) (named_decl text ts e) (Ident ∷ []) [] false
  unfolding named_decl
  named_decl_sound d e h = (lawful_bind two_names_lawful (record { first = Assign ∷ Comma ∷ Semi ∷ []; cont = []; null = false; sound = λ p. (named_rest_lawful p).sound }) refl).sound d e h

  abbrev pub named_decl_lawful : Lawful ts (named_decl text ts)
  named_decl_lawful = record { first = Ident ∷ []; cont = []; null = false; sound = named_decl_sound }

  -- a formal behind its beginning
  abbrev pub formal_rest_lawful : (start : ℕ) → Lawful ts (λ e. both (written start) (maybe (one ts directions))
      (both pair (both pair (type_text text ts e) (ident text ts)) (maybe (ahead (word ts Assign) (expr text ts e)))))
  formal_rest_lawful start = lawful_both (written start) (lawful_maybe (lawful_one ts directions) refl) (lawful_both pair (lawful_both pair type_text_lawful (ident_lawful text ts) refl) value_lawful refl) refl

  pub formal_sound : (d e : Room) → Under d e → Sound ts (formal text ts d) (formal text ts e) (directions ++ type_firsts) (Assign ∷ on_expr Plain) false
  unfolding formal
  formal_sound d e h = (lawful_bind (lawful_here ts) (record {
    first = directions ++ type_firsts;
    cont = Assign ∷ on_expr Plain;
    null = false;
    sound = λ start. (lawful_in (formal_rest_lawful start) (directions ++ type_firsts) (Assign ∷ on_expr Plain) refl refl).sound;
  }) refl).sound d e h

  abbrev pub formal_lawful : Lawful ts (formal text ts)
  formal_lawful = record { first = directions ++ type_firsts; cont = Assign ∷ on_expr Plain; null = false; sound = formal_sound }

  pub formal_list_sound : (d e : Room) → Under d e → Sound ts (formal_list text ts d) (formal_list text ts e) (directions ++ type_firsts) (Comma ∷ Assign ∷ on_expr Plain) false
  unfolding formal_list
  formal_list_sound = (lawful_in (lawful_fold with_formal (lawful_map formal_lawful (with_formal [])) (lawful_both _ (w Comma) formal_lawful refl) refl refl refl) (directions ++ type_firsts) (Comma ∷ Assign ∷ on_expr Plain) refl refl).sound

  abbrev pub formal_list_lawful : Lawful ts (formal_list text ts)
  formal_list_lawful = record { first = directions ++ type_firsts; cont = Comma ∷ Assign ∷ on_expr Plain; null = false; sound = formal_list_sound }

  -- "(" [ formal { "," formal } ] ")"
  abbrev pub formal_parens_lawful : Lawful ts (λ e. map_to list_or (ahead (word ts OpenParen) (behind (maybe (formal_list text ts e)) (word ts CloseParen))))
  formal_parens_lawful = lawful_map (lawful_both _ (w OpenParen) (lawful_both _ (lawful_maybe formal_list_lawful refl) (w CloseParen) refl) refl) list_or

  pub formals_sound : (d e : Room) → Under d e → Sound ts (formals text ts d) (formals text ts e) (OpenParen ∷ []) (OpenParen ∷ []) true
  unfolding formals
  formals_sound = (lawful_map (lawful_maybe formal_parens_lawful refl) list_or).sound

  abbrev pub formals_lawful : Lawful ts (formals text ts)
  formals_lawful = record { first = OpenParen ∷ []; cont = OpenParen ∷ []; null = true; sound = formals_sound }

  pub edge_sound : (d e : Room) → Under d e → Sound ts (edge text ts d) (edge text ts e) (edge_words ++ Ident ∷ []) (IffWord ∷ on_expr Plain) false
  unfolding edge
  edge_sound = (lawful_in (lawful_both edge_of (lawful_maybe (lawful_one ts edge_words) refl) (lawful_both pair (ident_lawful text ts) (lawful_maybe (lawful_both _ (w IffWord) (expr_lawful text ts) refl) refl) refl) refl) (edge_words ++ Ident ∷ []) (IffWord ∷ on_expr Plain) refl refl).sound

  abbrev pub edge_lawful : Lawful ts (edge text ts)
  edge_lawful = record { first = edge_words ++ Ident ∷ []; cont = IffWord ∷ on_expr Plain; null = false; sound = edge_sound }

  pub event_sound : (d e : Room) → Under d e → Sound ts (event text ts d) (event text ts e) (AtSign ∷ []) [] false
  unfolding event
  event_sound = (lawful_both _ (w AtSign) (lawful_both _ (w OpenParen) (lawful_both _ (lawful_fold snoc (lawful_map edge_lawful _) (lawful_both _ (lawful_one ts (OrWord ∷ Comma ∷ [])) edge_lawful refl) refl refl refl) (w CloseParen) refl) refl) refl).sound

  abbrev pub event_lawful : Lawful ts (event text ts)
  event_lawful = record { first = AtSign ∷ []; cont = []; null = false; sound = event_sound }

  -- an argument of a sample function behind its beginning
  abbrev pub argument_type_lawful : Lawful ts (λ e. ahead (maybe (word ts InputWord)) (type_text text ts e))
  argument_type_lawful = lawful_both _ (lawful_maybe (w InputWord) refl) type_text_lawful refl

  abbrev pub argument_rest_lawful : (start : ℕ) → Lawful ts (λ e. both (argument_of start) (ahead (maybe (word ts InputWord)) (type_text text ts e)) (ident text ts))
  argument_rest_lawful start = lawful_both (argument_of start) argument_type_lawful (ident_lawful text ts) refl

  pub argument_sound : (d e : Room) → Under d e → Sound ts (argument text ts d) (argument text ts e) (InputWord ∷ type_firsts) [] false
  unfolding argument
  argument_sound d e h = (lawful_bind (lawful_here ts) (record { first = InputWord ∷ type_firsts; cont = []; null = false; sound = λ start. (argument_rest_lawful start).sound }) refl).sound d e h

  abbrev pub argument_lawful : Lawful ts (argument text ts)
  argument_lawful = record { first = InputWord ∷ type_firsts; cont = []; null = false; sound = argument_sound }

  pub argument_list_sound : (d e : Room) → Under d e → Sound ts (argument_list text ts d) (argument_list text ts e) (InputWord ∷ type_firsts) (Comma ∷ []) false
  unfolding argument_list
  argument_list_sound = (lawful_fold snoc (lawful_map argument_lawful _) (lawful_both _ (w Comma) argument_lawful refl) refl refl refl).sound

  abbrev pub argument_list_lawful : Lawful ts (argument_list text ts)
  argument_list_lawful = record { first = InputWord ∷ type_firsts; cont = Comma ∷ []; null = false; sound = argument_list_sound }

  pub argument_parens_sound : (d e : Room) → Under d e → Sound ts (argument_parens text ts d) (argument_parens text ts e) (OpenParen ∷ []) [] false
  unfolding argument_parens
  argument_parens_sound = (lawful_map (lawful_both _ (w OpenParen) (lawful_both _ (lawful_maybe argument_list_lawful refl) (w CloseParen) refl) refl) list_or).sound

  abbrev pub argument_parens_lawful : Lawful ts (argument_parens text ts)
  argument_parens_lawful = record { first = OpenParen ∷ []; cont = []; null = false; sound = argument_parens_sound }

  -- behind "with" and behind "function"
  abbrev pub sample_lawful : Lawful ts (λ e. ahead (same_word text ts Ident (codes "sample")) (argument_parens text ts e))
  sample_lawful = lawful_both _ (lawful_same_word text ts Ident (codes "sample")) argument_parens_lawful refl

  abbrev pub function_lawful : Lawful ts (λ e. ahead (same_word text ts OtherWord (codes "function")) (ahead (same_word text ts Ident (codes "sample")) (argument_parens text ts e)))
  function_lawful = lawful_both _ (lawful_same_word text ts OtherWord (codes "function")) sample_lawful refl

  pub sampled_sound : (d e : Room) → Under d e → Sound ts (sampled text ts d) (sampled text ts e) (WithWord ∷ []) [] false
  unfolding sampled
  sampled_sound = (lawful_both _ (w WithWord) function_lawful refl).sound

  abbrev pub sampled_lawful : Lawful ts (sampled text ts)
  sampled_lawful = record { first = WithWord ∷ []; cont = []; null = false; sound = sampled_sound }

  -- event | sampled
  abbrev pub event_or_sampled_lawful : Lawful ts (λ e. either (map_to by_event (event text ts e)) (map_to by_function (sampled text ts e)))
  event_or_sampled_lawful = lawful_either (lawful_map event_lawful by_event) (lawful_map sampled_lawful by_function) refl refl

  pub sampling_sound : (d e : Room) → Under d e → Sound ts (sampling text ts d) (sampling text ts e) (AtSign ∷ WithWord ∷ []) (AtSign ∷ WithWord ∷ []) true
  unfolding sampling
  sampling_sound = (lawful_map (lawful_maybe event_or_sampled_lawful refl) sampling_or).sound

  abbrev pub sampling_lawful : Lawful ts (sampling text ts)
  sampling_lawful = record { first = AtSign ∷ WithWord ∷ []; cont = AtSign ∷ WithWord ∷ []; null = true; sound = sampling_sound }

  pub members_sound : (d e : Room) → Under d e → Sound ts (members text ts d) (members text ts e) member_firsts member_firsts true
  unfolding members
  members_sound = (lawful_many (member_lawful text ts) append refl refl []).sound

  abbrev pub members_lawful : Lawful ts (members text ts)
  members_lawful = record { first = member_firsts; cont = member_firsts; null = true; sound = members_sound }

  pub group_end_sound : (name : List ℕ) (d e : Room) → Under d e → Sound ts (group_end text ts name) (group_end text ts name) (EndgroupWord ∷ []) (Colon ∷ []) false
  unfolding group_end
  group_end_sound name = (lawful_both _ (w EndgroupWord) (lawful_maybe (lawful_both _ (w Colon) (lawful_same_word text ts Ident name) refl) refl) refl).sound

  abbrev pub group_end_lawful : (name : List ℕ) → Lawful ts (λ _. group_end text ts name)
  group_end_lawful name = record { first = EndgroupWord ∷ []; cont = Colon ∷ []; null = false; sound = group_end_sound name }

  -- the word and the name of a group, and what stands behind them
  abbrev pub group_head_lawful : Lawful ts (λ _. both pair (word ts CovergroupWord) (ident text ts))
  group_head_lawful = lawful_both pair (w CovergroupWord) (ident_lawful text ts) refl

  abbrev pub group_body_lawful : Lawful ts (λ e. both pair (both pair (formals text ts e) (sampling text ts e)) (ahead (word ts Semi) (members text ts e)))
  group_body_lawful = lawful_both pair (lawful_both pair formals_lawful sampling_lawful refl) (lawful_both _ (w Semi) members_lawful refl) refl

  abbrev pub group_rest_lawful : (h : Marked × List ℕ) → Lawful ts (λ e. both (group_of h)
      (both pair (both pair (formals text ts e) (sampling text ts e)) (ahead (word ts Semi) (members text ts e))) (group_end text ts h.1))
  group_rest_lawful h = lawful_both (group_of h) group_body_lawful (group_end_lawful h.1) refl

  pub group_sound : (d e : Room) → Under d e → Sound ts (group text ts d) (group text ts e) (CovergroupWord ∷ []) (Colon ∷ []) false
  unfolding group
  group_sound d e h = (lawful_bind group_head_lawful (record { first = OpenParen ∷ AtSign ∷ WithWord ∷ Semi ∷ []; cont = Colon ∷ []; null = false; sound = λ x. (group_rest_lawful x).sound }) refl).sound d e h

  abbrev pub group_lawful : Lawful ts (group text ts)
  group_lawful = record { first = CovergroupWord ∷ []; cont = Colon ∷ []; null = false; sound = group_sound }

  pub decl_sound : (d e : Room) → Under d e → Sound ts (decl text ts d) (decl text ts e) decl_firsts (Colon ∷ []) false
  unfolding decl
  decl_sound = (lawful_in (lawful_either enum_decl_lawful (lawful_either group_lawful (lawful_either built_in_decl_lawful named_decl_lawful refl refl) refl refl) refl refl) decl_firsts (Colon ∷ []) refl refl).sound

  abbrev pub decl_lawful : Lawful ts (decl text ts)
  decl_lawful = record { first = decl_firsts; cont = Colon ∷ []; null = false; sound = decl_sound }

  pub design_sound : (d e : Room) → Under d e → Sound ts (design text ts d) (design text ts e) decl_firsts (Colon ∷ decl_firsts) true
  unfolding design
  design_sound = (lawful_many decl_lawful append refl refl []).sound

  abbrev pub design_lawful : Lawful ts (design text ts)
  design_lawful = record { first = decl_firsts; cont = Colon ∷ decl_firsts; null = true; sound = design_sound }
