-- Equations of binding.
use Rattle.std.proofs.Common.{◌≡◌, ℕ, Bool, List, [], ◌∷◌, Option, Some, None, Ok, Err, drop, refl, sym, ap, subst, ◌∙◌}
use Rattle.std.specs.Prelude.{Result, map, ◌||◌}
use Rattle.cov_tree.specs.declared.expr.Expr.{Expr}
use Rattle.cov_tree.specs.declared.expr.Expr.TheOpen as expr
use Rattle.cov_tree.specs.declared.expr.Expr.TheOpen.{Expr-F}
use Rattle.cov_tree.specs.declared.expr.Expr.TheViews.{out-Expr}
use Rattle.cov_tree.specs.declared.expr.Expr.TheFolds.{fold_out-Expr, map-Expr}
use Rattle.const_eval.specs.declared.fault.BindFault.{BindFault}
use Rattle.const_eval.specs.declared.fault.BindFault.TheVariants as fault
use Rattle.const_eval.specs.Scopes.{Names}
use Rattle.const_eval.specs.Terms.{Term}
use Rattle.const_eval.specs.Binding.{Seen, seen, seen_layer, bound_layer, bound_of, place_of, unsized_of, place_layer, unsized_layer, any_unsized, Gives, Fails, concatenated, concatenation, parts_behind, with_part}
use Rattle.const_eval.specs.Fronts.{IsFront, FrontIs}
use Rattle.const_eval.specs.declared.binding.Front.{Front}
use Rattle.std.specs.List.{list_any}

-- ---- an expression by its outermost form

pub seen_is : (names : Names) (e : Expr) → seen names e ≡ seen_layer names (map-Expr Expr Seen (seen names) (out-Expr e))
seen_is names e = fold_out-Expr Seen (seen_layer names) e

pub bound_is : (names : Names) (e : Expr) → bound_of names e ≡ bound_layer names (map-Expr Expr Seen (seen names) (out-Expr e))
bound_is names e = ap (λ (s : Seen). s.bound) (seen_is names e)

place_kept : (names : Names) (x : Expr-F Expr) → place_layer (map-Expr Expr Seen (seen names) x) ≡ place_layer x
place_kept names (expr.Num lit at) = refl
place_kept names (expr.Name name at) = refl
place_kept names (expr.Bit name index at) = refl
place_kept names (expr.Part name high low at) = refl
place_kept names (expr.Concat parts at) = refl
place_kept names (expr.Unary op arg at) = refl
place_kept names (expr.Binary op left right at) = refl
place_kept names (expr.Cond test first second at) = refl

unsized_kept : (names : Names) (x : Expr-F Expr) → unsized_layer (map-Expr Expr Seen (seen names) x) ≡ unsized_layer x
unsized_kept names (expr.Num lit at) = refl
unsized_kept names (expr.Name name at) = refl
unsized_kept names (expr.Bit name index at) = refl
unsized_kept names (expr.Part name high low at) = refl
unsized_kept names (expr.Concat parts at) = refl
unsized_kept names (expr.Unary op arg at) = refl
unsized_kept names (expr.Binary op left right at) = refl
unsized_kept names (expr.Cond test first second at) = refl

pub place_is : (names : Names) (e : Expr) → (seen names e).place ≡ place_of e
place_is names e = ap (λ (s : Seen). s.place) (seen_is names e) ∙ place_kept names (out-Expr e)

pub unsized_is : (names : Names) (e : Expr) → (seen names e).unsized ≡ unsized_of e
unsized_is names e = ap (λ (s : Seen). s.unsized) (seen_is names e) ∙ unsized_kept names (out-Expr e)

-- ---- concatenations

pub any_is : (names : Names) (es : List Expr) → any_unsized (map (seen names) es) ≡ list_any unsized_of es
any_is names [] = refl
any_is names (e ∷ es) = ap (λ b. b || any_unsized (map (seen names) es)) (unsized_is names e) ∙ ap (λ b. unsized_of e || b) (any_is names es)

pub whole_gives : (front : Front) (answer : Result (Option Term) BindFault) (unsized : Bool) (at : ℕ) (r : Result Term BindFault) → FrontIs front answer → ((terms : Option Term) → IsFront front terms → Gives r (concatenated terms unsized at)) → Gives r (concatenation answer unsized at)
whole_gives front (Ok terms) unsized at r is gives = gives terms is
whole_gives front (Err error) unsized at r is gives = absurd is

-- one part more
pub next_part : (names : Names) (terms : Option Term) (part : Expr) (parts : List Expr) (term : Term) → bound_of names part ≡ Ok term → parts_behind terms (map (seen names) (part ∷ parts)) ≡ parts_behind (Some (with_part terms term)) (map (seen names) parts)
next_part names terms part parts term e = rw e refl

pub bad_part : (names : Names) (terms : Option Term) (part : Expr) (parts : List Expr) (error : BindFault) → bound_of names part ≡ Err error → parts_behind terms (map (seen names) (part ∷ parts)) ≡ Err error
bad_part names terms part parts error e = rw e refl

fails_still : (error : BindFault) (a b : Result Term BindFault) (c : Result (Option Term) BindFault) → Fails error a → (a ≡ Err error → c ≡ Err error) → Fails error c
fails_still fault.Memory a b c is goes = tt
fails_still (fault.UnknownName at) a b c is goes = goes is
fails_still (fault.TooWide at) a b c is goes = goes is
fails_still (fault.BadSelect at) a b c is goes = goes is
fails_still (fault.BadConcat at) a b c is goes = goes is
fails_still (fault.UnknownLiteral at) a b c is goes = goes is
fails_still (fault.NotConstant at) a b c is goes = goes is

pub part_fails : (names : Names) (terms : Option Term) (parts rest : List Expr) (i : ℕ) (part : Expr) (error : BindFault) (all : Result (Option Term) BindFault) → drop i parts ≡ part ∷ rest → parts_behind terms (map (seen names) (drop i parts)) ≡ all → Fails error (bound_of names part) → Fails error all
part_fails names terms parts rest i part error all is now fails = fails_still error (bound_of names part) (bound_of names part) all fails (λ e. sym now ∙ ap (λ (es : List Expr). parts_behind terms (map (seen names) es)) is ∙ bad_part names terms part rest error e)

pub part_goes : (names : Names) (terms : Option Term) (parts rest : List Expr) (i : ℕ) (part : Expr) (term : Term) (all : Result (Option Term) BindFault) → drop i parts ≡ part ∷ rest → parts_behind terms (map (seen names) (drop i parts)) ≡ all → bound_of names part ≡ Ok term → parts_behind (Some (with_part terms term)) (map (seen names) rest) ≡ all
part_goes names terms parts rest i part term all is now e = sym (next_part names terms part rest term e) ∙ sym (ap (λ (es : List Expr). parts_behind terms (map (seen names) es)) is) ∙ now

pub concat_gives : (names : Names) (e : Expr) (parts given_parts : List Expr) (at : ℕ) (r : Result Term BindFault) → out-Expr e ≡ expr.Concat parts at → given_parts ≡ parts → Gives r (concatenation (parts_behind None (map (seen names) given_parts)) (any_unsized (map (seen names) given_parts)) at) → Gives r (bound_of names e)
concat_gives names e parts given_parts at r out same gives =
    let whole : Result Term BindFault = concatenation (parts_behind None (map (seen names) given_parts)) (any_unsized (map (seen names) given_parts)) at in
    let is : whole ≡ bound_of names e = ap (λ (es : List Expr). concatenation (parts_behind None (map (seen names) es)) (any_unsized (map (seen names) es)) at) same ∙ sym (bound_is names e ∙ ap (λ (x : Expr-F Expr). bound_layer names (map-Expr Expr Seen (seen names) x)) out) in
    subst (λ (a : Result Term BindFault). Gives r a) is gives
