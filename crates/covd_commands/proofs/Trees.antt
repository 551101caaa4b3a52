-- A text has one list of declarations.
use Rattle.std.proofs.Common.{◌≡◌, ℕ, List, ap, subst}
use Rattle.cov_tree.specs.declared.declarations.Decl.{Decl}
use Rattle.cov_tree.specs.declared.declarations.DesignText.{DesignText}
use Rattle.cov_lexer.specs.declared.token.Token.{Token}
use Rattle.cov_lexer.proofs.Covering.{one_list}
use Rattle.cov_grammar.specs.Marking.{marked}
use Rattle.cov_grammar.specs.Fault.{DerivesWithin, limits}
use Rattle.cov_grammar.proofs.Whole.{one_design}
use Rattle.cov_compile.specs.Compiling.{Declares}

one_list_of : (text : List ℕ) (decls others : List Decl) → Declares text decls → Declares text others → decls ≡ others
one_list_of text decls others h k =
    let same = one_list text h.tokens k.tokens h.lexes k.lexes in
    one_design text (marked text k.tokens) decls others (limits, subst (λ (ts : List Token). DerivesWithin limits text (marked text ts) decls) same h.derives) (limits, k.derives)

pub one_tree : (text : List ℕ) (tree other : DesignText) → Declares text tree.decls → Declares text other.decls → tree ≡ other
one_tree text tree other h k =
    let tree_of : List Decl → DesignText = λ decls. record { decls = decls } in
    ap tree_of (one_list_of text tree.decls other.decls h k)
