-- Begun declarations, and so begun designs, can be completed.
use Rattle.std.proofs.Common.{◌≡◌, ℕ, List, [], ◌∷◌, true, refl, codes}
use Rattle.cov_lexer.specs.declared.token.TokenKind.TheVariants as lexed
use Rattle.cov_lexer.specs.declared.kind.Kind.TheVariants.{Ident, OtherWord, BitWord, SignedWord, UnsignedWord, InputWord, RefWord, PosedgeWord, NegedgeWord, EdgeWord, OrWord, Comma}
use Rattle.cov_grammar.specs.declared.marked.Marked.{Marked}
use Rattle.cov_grammar.specs.declared.place.Room.{Room}
use Rattle.cov_lexer.specs.Spellings.{words, operators}
use Rattle.cov_grammar.specs.Rule.{one}
use Rattle.cov_grammar.specs.Bins.{squares}
use Rattle.cov_grammar.specs.Designs.{vector_words, fixed_words, sign, vector_span, vector, fixed, built_in, type_text, enum_name, enum_names, enum_decl, built_in_decl, arguments, instance_rest, variables_rest, named_decl, formal, formal_list, formals, edge, event, argument, argument_list, argument_parens, sampled, sampling, members, group_end, group, decl, design}
use Rattle.grammar_laws.proofs.Keeps.{Likeness, any, same, pairs}
use Rattle.grammar_laws.proofs.Completes.{Completes, Produces, here_produces, one_completes, one_produces, same_word_produces, bind_completes, bind_produces, either_completes, left_produces, many_produces}
use Rattle.grammar_laws.proofs.Combine.{both_completes, mapped_completes, mapped_produces, pair_completes, pair_produces, ahead_completes, ahead_produces, behind_produces, fold_produces, maybe_produces}
use Rattle.grammar_laws.proofs.Words.{ident_token, typedef_word, enum_word, covergroup_word, endgroup_word, iff_word, with_word, new_word, open_paren, close_paren, close_square, open_brace, close_brace, comma, semi, colon, at_sign, assign}
use Rattle.grammar_laws.proofs.Expressions.{expr_produces, list_produces}
use Rattle.grammar_laws.proofs.Bins.{ident_any, ident_produces}
use Rattle.grammar_laws.proofs.Groups.{member_produces}

module _ {S : Type 0} {R : Likeness S} where
  sign_produces : Produces true R any (λ (_ : S) text ts. sign text ts)
  unfolding sign
  sign_produces = maybe_produces (one_completes (SignedWord ∷ UnsignedWord ∷ []) (λ e. refl))

  span_completes : (r : Room) → Completes true R any (λ (_ : S) text ts. vector_span text ts r)
  unfolding vector_span
  span_completes r = ahead_completes (one_completes squares (λ e. refl)) (behind_produces (pair_produces _ (expr_produces r) (ahead_produces colon (expr_produces r))) close_square)

  vector_words_produce : Produces true R any (λ (_ : S) text ts. one ts vector_words)
  unfolding words operators
  vector_words_produce = one_produces vector_words BitWord (codes "bit") lexed.Keyword refl refl refl refl

  vector_produces : (r : Room) → Produces true R any (λ (_ : S) text ts. vector text ts r)
  unfolding vector
  vector_produces r = pair_produces _ vector_words_produce (pair_produces _ sign_produces (maybe_produces (span_completes r)))

  fixed_completes : Completes true R any (λ (_ : S) text ts. fixed text ts)
  unfolding fixed
  fixed_completes = pair_completes _ (one_completes fixed_words (λ e. refl)) sign_produces

  built_in_produces : (r : Room) → Produces true R any (λ (_ : S) text ts. built_in text ts r)
  unfolding built_in
  built_in_produces r = left_produces (vector_produces r) fixed_completes

  type_produces : (r : Room) → Produces true R any (λ (_ : S) text ts. type_text text ts r)
  unfolding type_text
  type_produces r = left_produces (built_in_produces r) (mapped_completes _ ident_token.begun)

  enum_name_produces : (r : Room) → Produces true R any (λ (_ : S) text ts. enum_name text ts r)
  unfolding enum_name
  enum_name_produces r = pair_produces _ ident_any (maybe_produces (ahead_completes assign.begun (expr_produces r)))

  enum_names_produces : (r : Room) → Produces true R any (λ (_ : S) text ts. enum_names text ts r)
  unfolding enum_names
  enum_names_produces r = fold_produces _ (mapped_produces _ (enum_name_produces r)) (ahead_completes comma.begun (enum_name_produces r))

module _ {S : Type 0} {R : Likeness S} where
  enum_decl_produces : (r : Room) → Produces true R any (λ (_ : S) text ts. enum_decl text ts r)
  unfolding enum_decl
  enum_decl_produces r = bind_produces _ typedef_word (pair_produces _
      (ahead_produces enum_word (pair_produces _ (maybe_produces (vector_produces r).begun) (ahead_produces open_brace (behind_produces (enum_names_produces r) close_brace))))
      (behind_produces ident_any semi))

  built_in_decl_produces : (r : Room) → Produces true R any (λ (_ : S) text ts. built_in_decl text ts r)
  unfolding built_in_decl
  built_in_decl_produces r = pair_produces _ (built_in_produces r)
      (behind_produces (fold_produces _ (mapped_produces _ ident_token) (ahead_completes comma.begun ident_token)) semi)

  arguments_produces : (r : Room) → Produces true R any (λ (_ : S) text ts. arguments text ts r)
  unfolding arguments
  arguments_produces r = ahead_produces open_paren (behind_produces (maybe_produces (list_produces (expr_produces r)).begun) close_paren)

  instance_produces : (g : S → Marked × Marked) (r : Room) → Produces true R any (λ s text ts. instance_rest text ts (g s) r)
  unfolding instance_rest
  instance_produces g r = mapped_produces _ (ahead_produces assign (ahead_produces new_word (behind_produces (maybe_produces (arguments_produces r).begun) semi)))

  variables_produces : (g : S → Marked × Marked) → Produces true R any (λ s text ts. variables_rest text ts (g s))
  unfolding variables_rest
  variables_produces g = mapped_produces _ (behind_produces (many_produces _ _ (ahead_completes comma.begun ident_token)) semi)

module _ {S : Type 0} {R : Likeness S} where
  named_decl_produces : (r : Room) → Produces true R any (λ (_ : S) text ts. named_decl text ts r)
  unfolding named_decl
  named_decl_produces r = bind_produces _ (pair_produces _ ident_token ident_token)
      (left_produces (instance_produces (λ (e : S × (Marked × Marked)). e.1) r) (variables_produces (λ e. e.1)).begun)

  formal_produces : (r : Room) → Produces true R any (λ (_ : S) text ts. formal text ts r)
  unfolding formal
  formal_produces r = bind_produces _ here_produces (pair_produces _ (maybe_produces (one_completes (InputWord ∷ RefWord ∷ []) (λ e. refl)))
      (pair_produces _ (pair_produces _ (type_produces r) ident_any) (maybe_produces (ahead_completes assign.begun (expr_produces r)))))

  formal_list_produces : (r : Room) → Produces true R any (λ (_ : S) text ts. formal_list text ts r)
  unfolding formal_list
  formal_list_produces r = fold_produces _ (mapped_produces _ (formal_produces r)) (ahead_completes comma.begun (formal_produces r))

  formals_produces : (r : Room) → Produces true R any (λ (_ : S) text ts. formals text ts r)
  unfolding formals
  formals_produces r = mapped_produces _ (maybe_produces (mapped_completes _ (ahead_completes open_paren.begun
      (behind_produces (maybe_produces (formal_list_produces r).begun) close_paren))))

  edge_produces : (r : Room) → Produces true R any (λ (_ : S) text ts. edge text ts r)
  unfolding edge
  edge_produces r = pair_produces _ (maybe_produces (one_completes (PosedgeWord ∷ NegedgeWord ∷ EdgeWord ∷ []) (λ e. refl)))
      (pair_produces _ ident_any (maybe_produces (ahead_completes iff_word.begun (expr_produces r))))

  event_completes : (r : Room) → Completes true R any (λ (_ : S) text ts. event text ts r)
  unfolding event
  event_completes r = ahead_completes at_sign.begun (ahead_produces open_paren
      (behind_produces (fold_produces _ (mapped_produces _ (edge_produces r)) (ahead_completes (one_completes (OrWord ∷ Comma ∷ []) (λ e. refl)) (edge_produces r))) close_paren))

  argument_produces : (r : Room) → Produces true R any (λ (_ : S) text ts. argument text ts r)
  unfolding argument
  argument_produces r = bind_produces _ here_produces
      (pair_produces _ (ahead_produces {P = any} (maybe_produces (one_completes (InputWord ∷ []) (λ e. refl))) (type_produces r)) ident_any)

module _ {S : Type 0} {R : Likeness S} where
  argument_list_produces : (r : Room) → Produces true R any (λ (_ : S) text ts. argument_list text ts r)
  unfolding argument_list
  argument_list_produces r = fold_produces _ (mapped_produces _ (argument_produces r)) (ahead_completes comma.begun (argument_produces r))

  parens_produce : (r : Room) → Produces true R any (λ (_ : S) text ts. argument_parens text ts r)
  unfolding argument_parens
  parens_produce r = mapped_produces _ (ahead_produces open_paren (behind_produces (maybe_produces (argument_list_produces r).begun) close_paren))

  sampled_completes : (r : Room) → Completes true R any (λ (_ : S) text ts. sampled text ts r)
  unfolding sampled words operators
  sampled_completes r = ahead_completes with_word.begun
      (ahead_produces (same_word_produces OtherWord (λ s. codes "function") lexed.Keyword refl (λ s. refl) refl (λ s z e. refl) refl)
      (ahead_produces (same_word_produces Ident (λ s. codes "sample") lexed.Ident refl (λ s. refl) refl (λ s z e. refl) refl) (parens_produce r)))

  sampling_produces : (r : Room) → Produces true R any (λ (_ : S) text ts. sampling text ts r)
  unfolding sampling
  sampling_produces r = mapped_produces _ (maybe_produces (either_completes (mapped_completes _ (event_completes r)) (mapped_completes _ (sampled_completes r))))

  members_produce : (r : Room) → Produces true R any (λ (_ : S) text ts. members text ts r)
  unfolding members
  members_produce r = many_produces _ _ (member_produces r).begun

  -- the name behind the end has the spelling of the group's
  group_end_produces : (name : S → List ℕ) → ((s z : S) → R.rel s z → name s ≡ name z) → Produces true R any (λ s text ts. group_end text ts (name s))
  unfolding group_end
  group_end_produces name fit = ahead_produces endgroup_word
      (maybe_produces (ahead_completes colon.begun (same_word_produces Ident name lexed.Ident refl (λ s. refl) refl fit refl)))

module _ {S : Type 0} {R : Likeness S} where
  group_completes : (r : Room) → Completes true R any (λ (_ : S) text ts. group text ts r)
  unfolding group
  group_completes r = bind_completes _ (both_completes {P = any} {O = same} {Q = pairs any same} _ (λ s z text other ts us a b c d r p q. (tt, q)) covergroup_word.begun ident_produces)
      (pair_produces _ (pair_produces _ (pair_produces _ (formals_produces r) (sampling_produces r)) (ahead_produces semi (members_produce r)))
      (group_end_produces (λ (e : S × (Marked × List ℕ)). e.1.1) (λ s z e. e.1.1)))

  decl_completes : (r : Room) → Completes true R any (λ (_ : S) text ts. decl text ts r)
  unfolding decl
  decl_completes r = either_completes (enum_decl_produces r).begun
      (either_completes (group_completes r) (either_completes (built_in_decl_produces r).begun (named_decl_produces r).begun))

  pub design_produces : (r : Room) → Produces true R any (λ (_ : S) text ts. design text ts r)
  unfolding design
  design_produces r = many_produces _ _ (decl_completes r)
