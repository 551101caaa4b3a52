-- A text has at most one design or one fault.
use Rattle.std.proofs.Common.{◌≡◌, ℕ, List, true, false, sym, ap, subst, ◌∙◌}
use Rattle.std.specs.Prelude.{Result, Ok, Err}
use Rattle.std.proofs.lemmas.Bool.{false≢true}
use Rattle.cov_tree.specs.declared.declarations.Decl.{Decl}
use Rattle.cov_lexer.specs.declared.token.Token.{Token}
use Rattle.cov_lexer.proofs.Covering.{one_list, fault_or_tokens, one_fault}
use Rattle.cov_grammar.specs.Marking.{marked}
use Rattle.cov_grammar.specs.Fault.{DerivesWithin, limits, is_foreign}
use Rattle.cov_grammar.proofs.Whole.{one_design, one_syntax_fault, one_too_deep, not_both_faults, fault_or_tree}
use Rattle.cov_parser.specs.declared.fault.ParseFault.{ParseFault}
use Rattle.cov_parser.specs.declared.fault.ParseFault.TheVariants as parsing
use Rattle.cov_parser.specs.Parse.{IsParseFault, place_of}
use Rattle.elab_base.specs.declared.fault.ElabKind.{ElabKind}
use Rattle.elab_base.specs.declared.fault.ElabFault.TheVariants as elaborating
use Rattle.elab_base.specs.Gives.{Refusal}
use Rattle.cov_design.specs.Elaboration.{Parts, Elaborates}
use Rattle.cov_compile.specs.declared.fault.CompileFault.{CompileFault}
use Rattle.cov_compile.specs.declared.fault.CompileFault.TheVariants.{Lex, Parse, Elab}
use Rattle.cov_compile.specs.Compiling.{Declares, IsDesign, IsUnparsed, IsUnelaborated, IsDesignFault}

module _ (text : List ℕ) where
  -- ---- tokens

  module _ (tokens : List Token) where
    supported_or_not : (at other k n : ℕ) → k ≡ n → is_foreign (marked text tokens) k ≡ false → is_foreign (marked text tokens) n ≡ true → ⊥
    supported_or_not at other k n e h t = false≢true (sym h ∙ ap (is_foreign (marked text tokens)) e ∙ t)

    same_place : (at other k n : ℕ) → k ≡ n → at ≡ place_of text (marked text tokens) k → other ≡ place_of text (marked text tokens) n → at ≡ other
    same_place at other k n e h t = h ∙ ap (place_of text (marked text tokens)) e ∙ sym t

    parse_fault_one : (fault other : ParseFault) → IsParseFault text tokens fault → IsParseFault text tokens other → fault ≡ other
    parse_fault_one (parsing.Syntax at) (parsing.Syntax other) h k =
        ap parsing.Syntax (same_place at other h.0 k.0 (one_syntax_fault text (marked text tokens) limits h.0 k.0 h.1 k.1) h.3 k.3)
    parse_fault_one (parsing.Syntax at) (parsing.NotSupported other) h k =
        absurd (supported_or_not at other h.0 k.0 (one_syntax_fault text (marked text tokens) limits h.0 k.0 h.1 k.1) h.2 k.2)
    parse_fault_one (parsing.Syntax at) (parsing.TooDeep other) h k = absurd (not_both_faults text (marked text tokens) limits h.0 k.0 h.1 k.1)
    parse_fault_one (parsing.NotSupported at) (parsing.Syntax other) h k =
        absurd (supported_or_not other at k.0 h.0 (one_syntax_fault text (marked text tokens) limits k.0 h.0 k.1 h.1) k.2 h.2)
    parse_fault_one (parsing.NotSupported at) (parsing.NotSupported other) h k =
        ap parsing.NotSupported (same_place at other h.0 k.0 (one_syntax_fault text (marked text tokens) limits h.0 k.0 h.1 k.1) h.3 k.3)
    parse_fault_one (parsing.NotSupported at) (parsing.TooDeep other) h k = absurd (not_both_faults text (marked text tokens) limits h.0 k.0 h.1 k.1)
    parse_fault_one (parsing.TooDeep at) (parsing.Syntax other) h k = absurd (not_both_faults text (marked text tokens) limits k.0 h.0 k.1 h.1)
    parse_fault_one (parsing.TooDeep at) (parsing.NotSupported other) h k = absurd (not_both_faults text (marked text tokens) limits k.0 h.0 k.1 h.1)
    parse_fault_one (parsing.TooDeep at) (parsing.TooDeep other) h k =
        ap parsing.TooDeep (same_place at other h.0 k.0 (one_too_deep text (marked text tokens) limits h.0 k.0 h.1 k.1) h.2 k.2)
    parse_fault_one parsing.Memory other h k = absurd h
    parse_fault_one fault parsing.Memory h k = absurd k

    no_tree : (fault : ParseFault) (decls : List Decl) → IsParseFault text tokens fault → DerivesWithin limits text (marked text tokens) decls → ⊥
    no_tree (parsing.Syntax at) decls h d = h.1.no_tree decls (limits, d)
    no_tree (parsing.NotSupported at) decls h d = h.1.no_tree decls (limits, d)
    no_tree (parsing.TooDeep at) decls h d = fault_or_tree text (marked text tokens) limits h.0 decls h.1 d
    no_tree parsing.Memory decls h d = absurd h

  -- ---- texts

  declares_one : (decls others : List Decl) → Declares text decls → Declares text others → decls ≡ others
  declares_one decls others h k =
      let same = one_list text h.tokens k.tokens h.lexes k.lexes in
      one_design text (marked text k.tokens) decls others (limits, subst (λ (ts : List Token). DerivesWithin limits text (marked text ts) decls) same h.derives) (limits, k.derives)

  unparsed_declares : (fault : ParseFault) (decls : List Decl) → IsUnparsed text fault → Declares text decls → ⊥
  unparsed_declares fault decls h d =
      let same = one_list text h.tokens d.tokens h.lexes d.lexes in
      no_tree d.tokens fault decls (subst (λ (ts : List Token). IsParseFault text ts fault) same h.fault_there) d.derives

  unparsed_one : (fault other : ParseFault) → IsUnparsed text fault → IsUnparsed text other → fault ≡ other
  unparsed_one fault other h k =
      let same = one_list text h.tokens k.tokens h.lexes k.lexes in
      parse_fault_one k.tokens fault other (subst (λ (ts : List Token). IsParseFault text ts fault) same h.fault_there) k.fault_there

  -- what elaboration says of the declarations of a text
  abbrev said : List Decl → Result Parts Refusal
  said decls = Elaborates (record { decls = decls })

  same_said : (decls others : List Decl) → Declares text decls → Declares text others → said decls ≡ said others
  same_said decls others h k = ap said (declares_one decls others h k)

  pub design_one : (parts other : Parts) → IsDesign parts text → IsDesign other text → parts ≡ other
  design_one parts other h k =
      let e = same_said h.decls k.decls h.declares k.declares in
      let a : said h.decls ≡ Ok parts = h.elaborates in
      let b : said k.decls ≡ Ok other = k.elaborates in
      cc (a, b, e)

  pub design_or_fault : (parts : Parts) (fault : CompileFault) → IsDesign parts text → IsDesignFault text fault → ⊥
  design_or_fault parts (Lex fault) h k = fault_or_tokens text fault h.declares.tokens k h.declares.lexes
  design_or_fault parts (Parse fault) h k = unparsed_declares fault h.decls k h.declares
  design_or_fault parts (Elab (elaborating.Fault kind at)) h k =
      let e = same_said h.decls k.decls h.declares k.declares in
      let a : said h.decls ≡ Ok parts = h.elaborates in
      let b : said k.decls ≡ Err (kind, at) = k.refused in
      cc (a, b, e)
  design_or_fault parts (Elab elaborating.Memory) h k = absurd k

  unelaborated_one : (kind other : ElabKind) (at place : ℕ) → IsUnelaborated text kind at → IsUnelaborated text other place → elaborating.Fault kind at ≡ elaborating.Fault other place
  unelaborated_one kind other at place h k =
      let e = same_said h.decls k.decls h.declares k.declares in
      let a : said h.decls ≡ Err (kind, at) = h.refused in
      let b : said k.decls ≡ Err (other, place) = k.refused in
      let same : ◌≡◌ {A = Refusal} (kind, at) (other, place) = cc (a, b, e) in
      λ i. elaborating.Fault (same i).0 (same i).1

  pub fault_one : (fault other : CompileFault) → IsDesignFault text fault → IsDesignFault text other → fault ≡ other
  fault_one (Lex fault) (Lex other) h k = ap Lex (one_fault text fault other h k)
  fault_one (Lex fault) (Parse other) h k = absurd (fault_or_tokens text fault k.tokens h k.lexes)
  fault_one (Lex fault) (Elab (elaborating.Fault kind at)) h k = absurd (fault_or_tokens text fault k.declares.tokens h k.declares.lexes)
  fault_one (Parse fault) (Lex other) h k = absurd (fault_or_tokens text other h.tokens k h.lexes)
  fault_one (Parse fault) (Parse other) h k = ap Parse (unparsed_one fault other h k)
  fault_one (Parse fault) (Elab (elaborating.Fault kind at)) h k = absurd (unparsed_declares fault k.decls h k.declares)
  fault_one (Elab (elaborating.Fault kind at)) (Lex other) h k = absurd (fault_or_tokens text other h.declares.tokens k h.declares.lexes)
  fault_one (Elab (elaborating.Fault kind at)) (Parse other) h k = absurd (unparsed_declares other h.decls k h.declares)
  fault_one (Elab (elaborating.Fault kind at)) (Elab (elaborating.Fault other place)) h k = ap Elab (unelaborated_one kind other at place h k)
  fault_one (Elab elaborating.Memory) other h k = absurd h
  fault_one fault (Elab elaborating.Memory) h k = absurd k
