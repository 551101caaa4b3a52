-- What is known of what is declared outside groups, and of sample arguments, stays known.
use Rattle.std.proofs.Common.{◌≡◌, ◌∙◌, ℕ, ◌≤◌, List, [], length, refl, sym, ap, subst, arith, Option, Ok}
use Rattle.std.specs.Prelude.{nat_lt, slice_get}
use Rattle.std.proofs.lemmas.List.{length_push}
use Rattle.cov_ground.specs.Limits.{most_signals, most_arguments, longest_design}
use Rattle.cov_tree.specs.declared.expr.Expr.{Expr}
use Rattle.cov_tree.specs.declared.groups.Formal.{Formal}
use Rattle.cov_tree.specs.declared.declarations.TypeText.{TypeText}
use Rattle.const_eval.specs.Typs.{Typ}
use Rattle.design_data.specs.declared.infos.Signal.{Signal}
use Rattle.design_data.specs.Limits.{HasWidth}
use Rattle.elab_base.specs.declared.fault.ElabKind.TheVariants as kind
use Rattle.elab_base.specs.Gives.{needs}
use Rattle.elab_base.specs.Steps.{unused}
use Rattle.elab_base.proofs.Keeps.{bind_ok, ok_is, each_keeps, needs_ok, all_push}
use Rattle.elab_decls.specs.declared.outside.Outside.{Outside}
use Rattle.elab_decls.specs.declared.formals.Formals.{Formals}
use Rattle.elab_decls.specs.Shapes.{shape_of}
use Rattle.elab_decls.specs.Enumerations.{Naming, value_in, valued, known_constant, constant, no_constants, constants_walked, base_shape, type_named, with_enumeration, enumeration}
use Rattle.elab_decls.specs.Variables.{with_signal, variable}
use Rattle.elab_decls.specs.Formals.{argument_or, given_meant, with_formal, formal, with_sample_argument, sample_argument, no_formals, formals_walked, samples_walked, formals_of}
use Rattle.elab_decls.specs.Invariant.{HaveWidths, IsOutside, AreArguments}
use Rattle.elab_decls.proofs.Widths.{shape_width}

-- ---- variables

pub variable_keeps : (typ : TypeText) (name : List ℕ) (at : ℕ) (s t : Outside) → variable typ name at s ≡ Ok t → IsOutside s → IsOutside t
unfolding variable with_signal
variable_keeps typ name at s t e known =
    let a = bind_ok (shape_of s typ at) _ t e in
    let u = bind_ok (unused s.names name at) _ t a.2 in
    let n = bind_ok (needs (nat_lt (length s.signals) most_signals) kind.DesignLimit at) _ t u.2 in
    let few = needs_ok (nat_lt (length s.signals) most_signals) kind.DesignLimit at n.0 n.1 in
    let signal : Signal = record { name = name; width = a.0.typ.width; signed = a.0.typ.signed } in
    let count = length_push s.signals signal in
    let here : IsOutside (with_signal name a.0 s) = record {
      few = grind (arith, few, count);
      widths = all_push (λ (x : Signal). HasWidth x.width) s.signals signal known.widths (shape_width s typ at a.0 a.1);
    } in
    subst IsOutside (ok_is _ t n.2) here

-- ---- enumerations: no signals

HasSignals : List Signal → Naming → Type 0
HasSignals signals s = s.0.signals ≡ signals

constant_keeps : (signals : List Signal) (typ : Typ) (at k : ℕ) (named : List ℕ × Option Expr) (s t : Naming) → constant typ at named s ≡ Ok t → HasSignals signals s → HasSignals signals t
unfolding constant known_constant HasSignals
constant_keeps signals typ at k named s t e h =
    let u = bind_ok (unused s.0.names named.0 at) _ t e in
    let w = bind_ok (value_in s.0.scope s.1.next named.1) _ t u.2 in
    let v = bind_ok (valued typ s.1.values w.0 at) _ t w.2 in
    subst (λ (x : Naming). x.0.signals ≡ signals) (ok_is _ t v.2) h

pub enumeration_keeps : (name : List ℕ) (base : Option TypeText) (names : List (List ℕ × Option Expr)) (at : ℕ) (s t : Outside) → enumeration name base names at s ≡ Ok t → IsOutside s → IsOutside t
unfolding enumeration type_named constants_walked HasSignals
enumeration_keeps name base names at s t e known =
    let u = bind_ok (unused s.names name at) _ t e in
    let a = bind_ok (base_shape s base at) _ t u.2 in
    let m = bind_ok (type_named name at s) _ t a.2 in
    let all = bind_ok (constants_walked a.0.typ at names m.0) _ t m.2 in
    let n = bind_ok (needs (nat_lt (length s.enumerations) longest_design) kind.DesignLimit at) _ m.0 m.1 in
    let same = ap (λ (x : Outside). x.signals) (ok_is _ m.0 n.2) in
    let kept = each_keeps (λ k. constant a.0.typ at) (HasSignals m.0.signals) (constant_keeps m.0.signals a.0.typ at) 0 names (m.0, no_constants) all.0 all.1 refl in
    let here : IsOutside (with_enumeration a.0 all.0) = record {
      few = subst (λ (xs : List Signal). length xs ≤ most_signals) (same ∙ sym kept) known.few;
      widths = subst HaveWidths (same ∙ sym kept) known.widths;
    } in
    subst IsOutside (ok_is _ t all.2) here

-- ---- formals and sample arguments

NoArguments : Formals → Type 0
NoArguments s = s.args ≡ []

formal_keeps : (outside : Outside) (args : List Expr) (at k : ℕ) (f : Formal) (s t : Formals) → formal outside args at k f s ≡ Ok t → NoArguments s → NoArguments t
unfolding formal with_formal NoArguments
formal_keeps outside args at k f s t e h =
    let u = bind_ok (unused s.names f.name f.at) _ t e in
    let a = bind_ok (shape_of outside f.typ f.at) _ t u.2 in
    let m = bind_ok (given_meant outside f.by_ref a.0 (argument_or (slice_get args k) f.default) at) _ t a.2 in
    subst (λ (x : Formals). x.args ≡ []) (ok_is _ t m.2) h

HasArguments : Formals → Type 0
HasArguments s = AreArguments s.args

sample_keeps : (outside : Outside) (k : ℕ) (f : Formal) (s t : Formals) → sample_argument outside f s ≡ Ok t → HasArguments s → HasArguments t
unfolding sample_argument with_sample_argument HasArguments
sample_keeps outside k f s t e h =
    let u = bind_ok (unused s.names f.name f.at) _ t e in
    let a = bind_ok (shape_of outside f.typ f.at) _ t u.2 in
    let n = bind_ok (needs (nat_lt (length s.args) most_arguments) kind.TooManyArgs f.at) _ t a.2 in
    let few = needs_ok (nat_lt (length s.args) most_arguments) kind.TooManyArgs f.at n.0 n.1 in
    let signal : Signal = record { name = f.name; width = a.0.typ.width; signed = a.0.typ.signed } in
    let count = length_push s.args signal in
    let here : HasArguments (with_sample_argument f.name a.0 s) = record {
      few = grind (arith, few, count);
      widths = all_push (λ (x : Signal). HasWidth x.width) s.args signal h.widths (shape_width outside f.typ f.at a.0 a.1);
    } in
    subst HasArguments (ok_is _ t n.2) here

no_arguments : (s : Formals) → NoArguments s → HasArguments s
unfolding NoArguments HasArguments
no_arguments s e = subst AreArguments (sym e) (record { few = omega arith; widths = tt })

pub formals_are : (outside : Outside) (formals samples : List Formal) (args : List Expr) (at : ℕ) (t : Formals) → formals_of outside formals samples args at ≡ Ok t → AreArguments t.args
unfolding formals_of formals_walked samples_walked HasArguments NoArguments
formals_are outside formals samples args at t e =
    let s = bind_ok (formals_walked outside args at formals) _ t e in
    let none = each_keeps (formal outside args at) NoArguments (λ k f x y e h. formal_keeps outside args at k f x y e h) 0 formals no_formals s.0 s.1 refl in
    each_keeps (λ k. sample_argument outside) HasArguments (λ k f x y e h. sample_keeps outside k f x y e h) 0 samples s.0 t s.2 (no_arguments s.0 none)
