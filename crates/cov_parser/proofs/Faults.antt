-- The one fault of a text, from what stopped its reading.
use Rattle.std.proofs.Common.{◌≡◌, ◌≢◌, ℕ, List, Bool, true, false, cond, length, refl, sym, ◌∙◌, ap, subst}
use Rattle.cov_tree.specs.declared.declarations.Decl.{Decl}
use Rattle.cov_lexer.specs.declared.token.Token.{Token}
use Rattle.cov_lexer.specs.Lexes.{Lexes, AllSpelled}
use Rattle.cov_lexer.proofs.Covering.{covers_spelled}
use Rattle.cov_grammar.specs.declared.marked.Marked.{Marked}
use Rattle.cov_grammar.specs.declared.place.Stop.{Stop}
use Rattle.cov_grammar.specs.declared.place.Stop.TheVariants as stop
use Rattle.cov_grammar.specs.Marking.{marked}
use Rattle.cov_grammar.specs.Fault.{DerivesWithin, Derives, IsSyntaxFault, IsCause, is_foreign, limits}
use Rattle.cov_grammar.proofs.Whole.{one_design, one_syntax_fault, one_too_deep, not_both_faults, fault_or_tree}
use Rattle.cov_parser.specs.declared.fault.ParseFault.{ParseFault}
use Rattle.cov_parser.specs.declared.fault.ParseFault.TheVariants.{Syntax, NotSupported, TooDeep, Memory}
use Rattle.cov_parser.specs.Parse.{place_of, IsParseFault}
use Rattle.cov_parser.specs.Told.{told}

pub lexed_spelled : (text : List ℕ) (tokens : List Token) → Lexes text tokens → AllSpelled text tokens
lexed_spelled text tokens h = covers_spelled text h.0 0 tokens (length text) h.1

module _ (text : List ℕ) (tokens : List Token) where
  abbrev ts : List Marked
  ts = marked text tokens

  -- the fault of a syntax fault at this token, where this tells whether it is foreign
  syntax_told : (k : ℕ) → IsSyntaxFault limits text ts k → (b : Bool) → is_foreign ts k ≡ b → IsParseFault text tokens (cond b (NotSupported (place_of text ts k)) (Syntax (place_of text ts k)))
  syntax_told k c true e = (k, c, e, refl)
  syntax_told k c false e = (k, c, e, refl)

  pub told_fault : (s : Stop) → IsCause limits text ts s → told text ts s ≢ Memory → IsParseFault text tokens (told text ts s)
  told_fault stop.Memory c n = absurd (n refl)
  told_fault (stop.Syntax k) c n = syntax_told k c (is_foreign ts k) refl
  told_fault (stop.TooDeep k) c n = (k, c, refl)

  syntax_is : (k n at : ℕ) → k ≡ n → is_foreign ts k ≡ false → at ≡ place_of text ts k → Syntax at ≡ cond (is_foreign ts n) (NotSupported (place_of text ts n)) (Syntax (place_of text ts n))
  syntax_is k n at e f a = rw (sym e, f, a) refl

  foreign_is : (k n at : ℕ) → k ≡ n → is_foreign ts k ≡ true → at ≡ place_of text ts k → NotSupported at ≡ cond (is_foreign ts n) (NotSupported (place_of text ts n)) (Syntax (place_of text ts n))
  foreign_is k n at e f a = rw (sym e, f, a) refl

  deep_is : (k n at : ℕ) → k ≡ n → at ≡ place_of text ts k → TooDeep at ≡ TooDeep (place_of text ts n)
  deep_is k n at e a = rw (sym e, a) refl

  pub told_only : (s : Stop) → IsCause limits text ts s → told text ts s ≢ Memory → (other : ParseFault) → IsParseFault text tokens other → other ≡ told text ts s
  told_only stop.Memory c n other h = absurd (n refl)
  told_only (stop.Syntax k) c n (Syntax at) h = syntax_is h.0 k at (one_syntax_fault text ts limits h.0 k h.1 c) h.2 h.3
  told_only (stop.Syntax k) c n (NotSupported at) h = foreign_is h.0 k at (one_syntax_fault text ts limits h.0 k h.1 c) h.2 h.3
  told_only (stop.Syntax k) c n (TooDeep at) h = absurd (not_both_faults text ts limits k h.0 c h.1)
  told_only (stop.TooDeep k) c n (Syntax at) h = absurd (not_both_faults text ts limits h.0 k h.1 c)
  told_only (stop.TooDeep k) c n (NotSupported at) h = absurd (not_both_faults text ts limits h.0 k h.1 c)
  told_only (stop.TooDeep k) c n (TooDeep at) h = deep_is h.0 k at (one_too_deep text ts limits h.0 k h.1 c) h.2
  told_only s c n Memory h = absurd h

  pub told_none : (s : Stop) → IsCause limits text ts s → told text ts s ≢ Memory → (decls : List Decl) → DerivesWithin limits text ts decls → ⊥
  told_none stop.Memory c n decls h = n refl
  told_none (stop.Syntax k) c n decls h = c.no_tree decls (limits, h)
  told_none (stop.TooDeep k) c n decls h = fault_or_tree text ts limits k decls c h

  pub derived_only : (decls : List Decl) → DerivesWithin limits text ts decls → (others : List Decl) → Derives text ts others → others ≡ decls
  derived_only decls h others k = one_design text ts others decls k (limits, h)

  pub derived_sound : (decls : List Decl) → DerivesWithin limits text ts decls → (fault : ParseFault) → IsParseFault text tokens fault → ⊥
  derived_sound decls h (Syntax at) f = f.1.no_tree decls (limits, h)
  derived_sound decls h (NotSupported at) f = f.1.no_tree decls (limits, h)
  derived_sound decls h (TooDeep at) f = fault_or_tree text ts limits f.0 decls f.1 h
  derived_sound decls h Memory f = f

  -- the same of a list of tokens and a fault that are equal to those
  module _ (found : List Marked) (same : found ≡ ts) where
    at_marked : (s : Stop) (f : ParseFault) → f ≡ told text found s → f ≡ told text ts s
    at_marked s f g = g ∙ ap (λ (x : List Marked). told text x s) same

    cause_marked : (s : Stop) → IsCause limits text found s → IsCause limits text ts s
    cause_marked s c = subst (λ (x : List Marked). IsCause limits text x s) same c

    pub found_fault : (s : Stop) (f : ParseFault) → f ≡ told text found s → IsCause limits text found s → f ≢ Memory → IsParseFault text tokens f
    found_fault s f g c n = subst (λ (x : ParseFault). IsParseFault text tokens x) (sym (at_marked s f g)) (told_fault s (cause_marked s c) (λ h. n (at_marked s f g ∙ h)))

    pub found_only : (s : Stop) (f : ParseFault) → f ≡ told text found s → IsCause limits text found s → f ≢ Memory → (other : ParseFault) → IsParseFault text tokens other → other ≡ f
    found_only s f g c n other h = told_only s (cause_marked s c) (λ h. n (at_marked s f g ∙ h)) other h ∙ sym (at_marked s f g)

    pub found_none : (s : Stop) (f : ParseFault) → f ≡ told text found s → IsCause limits text found s → f ≢ Memory → (decls : List Decl) → DerivesWithin limits text ts decls → ⊥
    found_none s f g c n decls h = told_none s (cause_marked s c) (λ h. n (at_marked s f g ∙ h)) decls h

    pub found_read : (decls : List Decl) → DerivesWithin limits text found decls → DerivesWithin limits text ts decls
    found_read decls h = subst (λ (x : List Marked). DerivesWithin limits text x decls) same h
