-- Where a reader of a declaration stands, by its first token.
use Rattle.std.proofs.Common.{ℕ, ◌+◌, List, [], ◌∷◌, ◌++◌, refl}
use Rattle.cov_lexer.specs.declared.kind.Kind.TheVariants.{Ident, TypedefWord, CovergroupWord}
use Rattle.cov_grammar.specs.declared.marked.Marked.{Marked}
use Rattle.cov_grammar.specs.declared.place.Place.{Place}
use Rattle.cov_grammar.specs.declared.place.Room.{Room}
use Rattle.cov_grammar.specs.Rule.{In, either}
use Rattle.cov_grammar.specs.Designs.{vector_words, fixed_words, enum_decl, built_in_decl, named_decl, group, decl}
use Rattle.cov_grammar.proofs.Sets.{In_apart}
use Rattle.cov_grammar.proofs.Lawful.{Lawful, lawful_either}
use Rattle.cov_grammar.proofs.Compose.{left_reads, left_fails}
use Rattle.cov_grammar.proofs.Steps.{Leads, leads_self, then, left, right}
use Rattle.cov_grammar.proofs.DesignLaws.{enum_decl_lawful, built_in_decl_lawful, named_decl_lawful, group_lawful}

module _ (text : List ℕ) (ts : List Marked) where
  -- decl
  abbrev variables_lawful : Lawful ts (λ r. either (built_in_decl text ts r) (named_decl text ts r))
  variables_lawful = lawful_either (built_in_decl_lawful text ts) (named_decl_lawful text ts) refl refl

  abbrev others_lawful : Lawful ts (λ r. either (group text ts r) (either (built_in_decl text ts r) (named_decl text ts r)))
  others_lawful = lawful_either (group_lawful text ts) variables_lawful refl refl

  pub decl_enum : {d : Room} {p : Place} → In ts p.at (TypedefWord ∷ []) → Leads (enum_decl text ts) d p (decl text ts) d p (λ x. x)
  unfolding decl
  decl_enum {d = d} {p = p} h = left (enum_decl_lawful text ts) others_lawful refl refl (leads_self (decl text ts) d p) h

  decl_other : {d : Room} {p : Place} → (In ts p.at (TypedefWord ∷ []) → ⊥) → Leads (λ r. either (group text ts r) (either (built_in_decl text ts r) (named_decl text ts r))) d p (decl text ts) d p (λ x. x)
  unfolding decl
  decl_other {d = d} {p = p} n = right (enum_decl_lawful text ts) others_lawful refl refl (leads_self (decl text ts) d p) refl n

  pub decl_group : {d : Room} {p : Place} → (In ts p.at (TypedefWord ∷ []) → ⊥) → In ts p.at (CovergroupWord ∷ []) → Leads (group text ts) d p (decl text ts) d p (λ x. x)
  decl_group n h = left (group_lawful text ts) variables_lawful refl refl (decl_other n) h

  decl_variables : {d : Room} {p : Place} → (In ts p.at (TypedefWord ∷ []) → ⊥) → (In ts p.at (CovergroupWord ∷ []) → ⊥) → Leads (λ r. either (built_in_decl text ts r) (named_decl text ts r)) d p (decl text ts) d p (λ x. x)
  decl_variables n m = right (group_lawful text ts) variables_lawful refl refl (decl_other n) refl m

  pub decl_named : {d : Room} {p : Place} → (In ts p.at (TypedefWord ∷ []) → ⊥) → (In ts p.at (CovergroupWord ∷ []) → ⊥) → In ts p.at (Ident ∷ []) → Leads (named_decl text ts) d p (decl text ts) d p (λ x. x)
  decl_named {p = p} n m h = right (built_in_decl_lawful text ts) (named_decl_lawful text ts) refl refl (decl_variables n m) refl (λ v. In_apart ts p.at (vector_words ++ fixed_words) (Ident ∷ []) refl v h)

  pub decl_built_in : {d : Room} {p : Place} → (In ts p.at (TypedefWord ∷ []) → ⊥) → (In ts p.at (CovergroupWord ∷ []) → ⊥) → (In ts p.at (Ident ∷ []) → ⊥) → Leads (built_in_decl text ts) d p (decl text ts) d p (λ x. x)
  decl_built_in n m k = then (decl_variables n m) (record {
    reads = λ r. left_reads (built_in_decl_lawful text ts) (named_decl_lawful text ts) refl refl k r;
    fails = λ f. left_fails (built_in_decl_lawful text ts) (named_decl_lawful text ts) refl refl k f;
  })
