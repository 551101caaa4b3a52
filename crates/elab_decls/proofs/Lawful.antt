-- Names of one scope are distinct, and constants are numbers of their base.
use Rattle.std.proofs.Common.{◌≡◌, ℕ, List, [], ◌∷◌, ◌++◌, refl, sym, ap, subst, true, false, cond, Option, Some, None, Ok}
use Rattle.std.specs.Prelude.{ℤ, is_some, not, ◌&&◌, nat_lt, length, slice_get}
use Rattle.std.specs.List.{AllByRecursion, list_any}
use Rattle.std.specs.Ordering.{int_eq}
use Rattle.std.proofs.lemmas.List.{append_assoc}
use Rattle.cov_ground.specs.Limits.{longest_design, most_arguments}
use Rattle.name_map.specs.Names.{Pairs, meaning_of, with_name}
use Rattle.cov_tree.specs.declared.expr.Expr.{Expr}
use Rattle.cov_tree.specs.declared.groups.Formal.{Formal}
use Rattle.cov_tree.specs.declared.declarations.TypeText.{TypeText}
use Rattle.const_eval.specs.Typs.{Typ}
use Rattle.elab_base.specs.declared.fault.ElabKind.TheVariants as kind
use Rattle.elab_base.specs.declared.names.What.TheVariants as what
use Rattle.elab_base.specs.Gives.{needs}
use Rattle.elab_base.specs.Steps.{unused}
use Rattle.elab_base.proofs.Keeps.{bind_ok, ok_is, each_keeps, needs_ok, and_first, all_push}
use Rattle.elab_decls.specs.declared.outside.Outside.{Outside}
use Rattle.elab_decls.specs.declared.outside.Enumeration.{Enumeration}
use Rattle.elab_decls.specs.declared.formals.Formals.{Formals}
use Rattle.elab_decls.specs.Shapes.{is_number, shape_of}
use Rattle.elab_decls.specs.Enumerations.{Naming, value_in, valued, known_constant, with_constant, constant, no_constants, constants_walked, base_shape, type_named, with_enumeration, enumeration}
use Rattle.elab_decls.specs.Variables.{with_signal, variable}
use Rattle.elab_decls.specs.Formals.{argument_or, given_meant, with_formal, formal, with_sample_argument, sample_argument, no_formals, formals_walked, samples_walked, formals_of}
use Rattle.elab_decls.specs.Laws.{AreNew, AreDistinct, AreOfBase}

-- ---- distinct names

new_last : {M : Type 0} (before pairs : Pairs M) (name : List ℕ) (m : M) → AreNew before pairs → meaning_of (before ++ pairs) name ≡ None → AreNew before (pairs ++ (name, m) ∷ [])
new_last {M} before [] name m all absent = (subst (λ (ps : Pairs M). meaning_of ps name ≡ None) (append_nil before) absent, tt)
  where
    append_nil : (ps : Pairs M) → ps ++ [] ≡ ps
    append_nil [] = refl
    append_nil (p ∷ ps) = ap (λ (r : Pairs M). p ∷ r) (append_nil ps)
new_last {M} before (p ∷ pairs) name m all absent =
    (all.0, new_last (before ++ p ∷ []) pairs name m all.1 (subst (λ (ps : Pairs M). meaning_of ps name ≡ None) (sym (append_assoc before (p ∷ []) pairs)) absent))

pub with_distinct : {M : Type 0} (pairs : Pairs M) (name : List ℕ) (m : M) → AreDistinct pairs → AreDistinct (with_name pairs name m)
with_distinct {M} pairs name m all = by (meaning_of pairs name) refl
  where
    by : (found : Option M) → meaning_of pairs name ≡ found → AreDistinct (cond (is_some (meaning_of pairs name)) pairs (pairs ++ (name, m) ∷ []))
    by (Some other) e = rw e all
    by None e = rw e (new_last [] pairs name m all e)

-- ---- formals and sample arguments

DistinctFormals : Formals → Type 0
DistinctFormals s = AreDistinct s.names

formal_distinct : (outside : Outside) (args : List Expr) (at k : ℕ) (f : Formal) (s t : Formals) → formal outside args at k f s ≡ Ok t → DistinctFormals s → DistinctFormals t
unfolding formal with_formal DistinctFormals
formal_distinct outside args at k f s t e h =
    let u = bind_ok (unused s.names f.name f.at) _ t e in
    let a = bind_ok (shape_of outside f.typ f.at) _ t u.2 in
    let m = bind_ok (given_meant outside f.by_ref a.0 (argument_or (slice_get args k) f.default) at) _ t a.2 in
    subst (λ (x : Formals). AreDistinct x.names) (ok_is _ t m.2) (with_distinct s.names f.name (what.Formal f.by_ref a.0.enumeration) h)

sample_distinct : (outside : Outside) (f : Formal) (s t : Formals) → sample_argument outside f s ≡ Ok t → DistinctFormals s → DistinctFormals t
unfolding sample_argument with_sample_argument DistinctFormals
sample_distinct outside f s t e h =
    let u = bind_ok (unused s.names f.name f.at) _ t e in
    let a = bind_ok (shape_of outside f.typ f.at) _ t u.2 in
    let n = bind_ok (needs (nat_lt (length s.args) most_arguments) kind.TooManyArgs f.at) _ t a.2 in
    subst (λ (x : Formals). AreDistinct x.names) (ok_is _ t n.2) (with_distinct s.names f.name (what.Formal false a.0.enumeration) h)

pub formals_distinct : (outside : Outside) (formals samples : List Formal) (args : List Expr) (at : ℕ) (t : Formals) → formals_of outside formals samples args at ≡ Ok t → AreDistinct t.names
unfolding formals_of formals_walked samples_walked DistinctFormals
formals_distinct outside formals samples args at t e =
    let s = bind_ok (formals_walked outside args at formals) _ t e in
    let first = each_keeps (formal outside args at) DistinctFormals (λ k f x y e h. formal_distinct outside args at k f x y e h) 0 formals no_formals s.0 s.1 tt in
    each_keeps (λ k. sample_argument outside) DistinctFormals (λ k f x y e h. sample_distinct outside f x y e h) 0 samples s.0 t s.2 first

-- ---- what is declared outside groups

pub record IsLawful (outside : Outside) : Type 0 where
  pub names : AreDistinct outside.names
  pub constants : AllByRecursion AreOfBase outside.enumerations

pub variable_lawful : (typ : TypeText) (name : List ℕ) (at : ℕ) (s t : Outside) → variable typ name at s ≡ Ok t → IsLawful s → IsLawful t
unfolding variable with_signal
variable_lawful typ name at s t e h =
    let a = bind_ok (shape_of s typ at) _ t e in
    let u = bind_ok (unused s.names name at) _ t a.2 in
    let n = bind_ok (needs (nat_lt (length s.signals) 4096) kind.DesignLimit at) _ t u.2 in
    let here : IsLawful (with_signal name a.0 s) = record { names = with_distinct s.names name (what.Variable a.0.enumeration) h.names; constants = h.constants } in
    subst IsLawful (ok_is _ t n.2) here

pub record IsLawfulNaming (typ : Typ) (s : Naming) : Type 0 where
  pub names : AreDistinct s.0.names
  pub before : AllByRecursion AreOfBase s.0.enumerations
  pub constants : AllByRecursion (λ (c : List ℕ × ℤ). is_number typ c.1 ≡ true) s.1.constants

constant_lawful : (typ : Typ) (at k : ℕ) (named : List ℕ × Option Expr) (s t : Naming) → constant typ at named s ≡ Ok t → IsLawfulNaming typ s → IsLawfulNaming typ t
unfolding constant known_constant valued
constant_lawful typ at k named s t e h =
    let u = bind_ok (unused s.0.names named.0 at) _ t e in
    let w = bind_ok (value_in s.0.scope s.1.next named.1) _ t u.2 in
    let v = bind_ok (valued typ s.1.values w.0 at) _ t w.2 in
    let n = bind_ok (needs (is_number typ w.0 && not (list_any (int_eq w.0) s.1.values)) kind.BadEnum at) _ v.0 v.1 in
    let both = needs_ok (is_number typ w.0 && not (list_any (int_eq w.0) s.1.values)) kind.BadEnum at n.0 n.1 in
    let one = and_first (is_number typ w.0) (not (list_any (int_eq w.0) s.1.values)) both in
    let is : is_number typ v.0 ≡ true = subst (λ (z : ℤ). is_number typ z ≡ true) (ok_is w.0 v.0 n.2) one in
    let here : IsLawfulNaming typ (known_constant named.0 v.0 typ s.0, with_constant named.0 v.0 s.1) = record {
      names = with_distinct s.0.names named.0 what.Constant h.names;
      before = h.before;
      constants = all_push (λ (c : List ℕ × ℤ). is_number typ c.1 ≡ true) s.1.constants (named.0, v.0) h.constants is;
    } in
    subst (IsLawfulNaming typ) (ok_is _ t v.2) here

pub enumeration_lawful : (name : List ℕ) (base : Option TypeText) (names : List (List ℕ × Option Expr)) (at : ℕ) (s t : Outside) → enumeration name base names at s ≡ Ok t → IsLawful s → IsLawful t
unfolding enumeration type_named constants_walked
enumeration_lawful name base names at s t e h =
    let u = bind_ok (unused s.names name at) _ t e in
    let a = bind_ok (base_shape s base at) _ t u.2 in
    let m = bind_ok (type_named name at s) _ t a.2 in
    let all = bind_ok (constants_walked a.0.typ at names m.0) _ t m.2 in
    let n = bind_ok (needs (nat_lt (length s.enumerations) longest_design) kind.DesignLimit at) _ m.0 m.1 in
    let begins : IsLawfulNaming a.0.typ (record s { names = with_name s.names name (what.Type (length s.enumerations)) }, no_constants) = record { names = with_distinct s.names name (what.Type (length s.enumerations)) h.names; before = h.constants; constants = tt } in
    let start = subst (λ (o : Outside). IsLawfulNaming a.0.typ (o, no_constants)) (ok_is _ m.0 n.2) begins in
    let kept = each_keeps (λ k. constant a.0.typ at) (IsLawfulNaming a.0.typ) (constant_lawful a.0.typ at) 0 names (m.0, no_constants) all.0 all.1 start in
    let last : Enumeration = record { typ = a.0.typ; low = a.0.low; constants = all.0.1.constants } in
    let here : IsLawful (with_enumeration a.0 all.0) = record { names = kept.names; constants = all_push AreOfBase all.0.0.enumerations last kept.before kept.constants } in
    subst IsLawful (ok_is _ t all.2) here
