-- Tokens that keep what they spell are marked by it.
use Rattle.std.proofs.Common.{◌≡◌, ℕ, ◌+◌, List, [], ◌∷◌, ◌++◌, Bool, Some, None, false, ◌∙◌, ap, subst, refl, append_assoc, slice_get}
use Rattle.cov_lexer.specs.declared.kind.Kind.{Kind}
use Rattle.cov_lexer.specs.declared.kind.Kind.TheVariants.{Ident}
use Rattle.cov_lexer.specs.declared.token.Token.{Token}
use Rattle.cov_lexer.specs.Kinds.{has}
use Rattle.cov_lexer.specs.Lexes.{IsSpelled, AllSpelled}
use Rattle.cov_grammar.specs.declared.marked.Marked.{Marked}
use Rattle.cov_grammar.specs.Marking.{alone, expr_kinds, next_begins, with_neighbours, marked_from, marked}

pub kept_alone : (text : List ℕ) (t : Token) → IsSpelled text t.«at» t.kind (t.«at» + t.len) t.spelled → t.spelled ≡ alone text t
unfolding alone
kept_alone text t h = h

pub first_begins : (text : List ℕ) (t : Token) (tokens : List Token) → Some t ≡ slice_get tokens 0 → AllSpelled text tokens → has t.spelled expr_kinds ≡ next_begins text tokens
first_begins text t [] e all = absurd (cc)
first_begins text t (x ∷ later) e all =
    let same : t ≡ x = cc in
    ap (λ (k : Kind). has k expr_kinds) (ap (λ (u : Token). u.spelled) same ∙ kept_alone text x all.0)

pub none_begins : (text : List ℕ) (tokens : List Token) → None ≡ slice_get tokens 0 → false ≡ next_begins text tokens
none_begins text [] e = refl
none_begins text (x ∷ later) e = absurd (cc)

abbrev mark : Token → Kind → Marked
mark t k = record { kind = k; at = t.«at»; len = t.len }

pub mark_all : (text : List ℕ) (t : Token) (later rest : List Token) → AllSpelled text rest → rest ≡ t ∷ later → AllSpelled text later
mark_all text t later rest a e = (subst (λ (xs : List Token). AllSpelled text xs) e a).1

-- what is marked goes on with one token
pub mark_next : (text : List ℕ) (tokens : List Token) (named : Bool) (t : Token) (later rest : List Token) (found grown : List Marked) (k : Kind) (ident : Bool) →
    AllSpelled text rest × (found ++ marked_from text named rest ≡ marked text tokens) → rest ≡ t ∷ later →
    k ≡ with_neighbours named t.spelled (next_begins text later) → ident ≡ has t.spelled (Ident ∷ []) → grown ≡ found ++ mark t k ∷ [] →
    AllSpelled text later × (grown ++ marked_from text ident later ≡ marked text tokens)
mark_next text tokens named t later rest found grown k ident i e m n g =
    let all : AllSpelled text (t ∷ later) = subst (λ (xs : List Token). AllSpelled text xs) e i.0 in
    let kept = kept_alone text t all.0 in
    let before : found ++ marked_from text named (t ∷ later) ≡ marked text tokens = subst (λ (xs : List Token). found ++ marked_from text named xs ≡ marked text tokens) e i.1 in
    let own : k ≡ with_neighbours named (alone text t) (next_begins text later) = m ∙ ap (λ (z : Kind). with_neighbours named z (next_begins text later)) kept in
    let flag : ident ≡ has (alone text t) (Ident ∷ []) = n ∙ ap (λ (z : Kind). has z (Ident ∷ [])) kept in (
      all.1,
      rw (g, append_assoc) (ap (λ (z : Kind). found ++ mark t z ∷ marked_from text ident later) own
          ∙ ap (λ (b : Bool). found ++ mark t (with_neighbours named (alone text t) (next_begins text later)) ∷ marked_from text b later) flag ∙ before),
    )
