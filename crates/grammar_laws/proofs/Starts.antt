-- Where a tree says the byte at which it begins, a token begins there.
use Rattle.std.proofs.Common.{◌≡◌, ℕ, List, Option, Some, None, IsSome, false, inl, inr, refl, arith, slice_get}
use Rattle.std.proofs.lemmas.Bool.{cases_lt}
use Rattle.cov_tree.specs.declared.expr.Expr.{Expr}
use Rattle.cov_tree.specs.declared.bins.Step.{Step}
use Rattle.cov_tree.specs.declared.bins.BinsDecl.{BinsDecl}
use Rattle.cov_tree.specs.declared.groups.Formal.{Formal}
use Rattle.cov_tree.specs.declared.groups.Member.{Member}
use Rattle.cov_grammar.specs.declared.marked.Marked.{Marked}
use Rattle.cov_grammar.specs.declared.place.Place.{Place}
use Rattle.cov_grammar.specs.declared.place.Room.{Room}
use Rattle.cov_grammar.specs.declared.place.Standing.{Standing}
use Rattle.cov_grammar.specs.Rule.{Rule}
use Rattle.cov_grammar.specs.Expressions.{part_expr}
use Rattle.cov_grammar.specs.Bins.{step, bins}
use Rattle.cov_grammar.specs.Groups.{item}
use Rattle.cov_grammar.specs.Designs.{Written, formal, argument}
use Rattle.cov_grammar.proofs.Lawful.{Lawful, facts_of}
use Rattle.cov_grammar.proofs.ExprLaws.{part_expr_lawful}
use Rattle.cov_grammar.proofs.BinsLaws.{step_lawful, bins_lawful}
use Rattle.cov_grammar.proofs.GroupLaws.{item_lawful}
use Rattle.cov_grammar.proofs.DesignLaws.{formal_lawful, argument_lawful}

is_there : (o : Option Marked) (x : Marked) → o ≡ Some x → IsSome o
is_there None x h = absurd (cc)
is_there (Some y) x h = refl

token_there : {T : Type 0} {ts : List Marked} {F : Room → Rule T} (l : Lawful ts F) → l.null ≡ false → (r : Room) (p : Place) (t : T) (q : Place) → (F r).derives p t q →
    IsSome (slice_get ts p.at)
token_there {ts = ts} l filled r p t q h =
    let f = facts_of l r in
    let b = f.whole p t q h in
    let o = f.order p q.at b in
    elim (cases_lt p.at q.at) [
      | inl m ↦ (let s = f.starts p q.at b m in is_there (slice_get ts p.at) s.token s.stands)
      | inr m ↦ absurd (let e = (f.blank p t q h (omega arith)).0 in cc)
    ]

module _ (text : List ℕ) (ts : List Marked) (r : Room) (p q : Place) where
  pub expr_there : (s : Standing) (t : Expr) → (part_expr text ts s r).derives p t q → IsSome (slice_get ts p.at)
  expr_there s t h = token_there (part_expr_lawful text ts s) refl r p t q h

  pub step_there : (t : Step) → (step text ts r).derives p t q → IsSome (slice_get ts p.at)
  step_there t h = token_there (step_lawful text ts) refl r p t q h

  pub bins_there : (t : BinsDecl) → (bins text ts r).derives p t q → IsSome (slice_get ts p.at)
  bins_there t h = token_there (bins_lawful text ts) refl r p t q h

  pub item_there : (t : Member) → (item text ts r).derives p t q → IsSome (slice_get ts p.at)
  item_there t h = token_there (item_lawful text ts) refl r p t q h

  pub formal_there : (t : Written) → (formal text ts r).derives p t q → IsSome (slice_get ts p.at)
  formal_there t h = token_there (formal_lawful text ts) refl r p t q h

  pub argument_there : (t : Formal) → (argument text ts r).derives p t q → IsSome (slice_get ts p.at)
  argument_there t h = token_there (argument_lawful text ts) refl r p t q h
