-- What is declared outside groups keeps its laws on the walk, and a first fault stays the first.
use Rattle.std.proofs.Common.{◌≡◌, ℕ, ◌+◌, List, [], ◌∷◌, ◌++◌, subst, Result, Ok, Err}
use Rattle.std.specs.Prelude.{length, nat_lt, Option}
use Rattle.std.specs.List.{AllByRecursion}
use Rattle.cov_ground.specs.Limits.{most_instances}
use Rattle.name_map.specs.Names.{meaning_of}
use Rattle.cov_tree.specs.declared.expr.Expr.{Expr}
use Rattle.cov_tree.specs.declared.declarations.TypeText.{TypeText}
use Rattle.cov_tree.specs.declared.declarations.Decl.{Decl}
use Rattle.cov_tree.specs.declared.declarations.Decl.TheVariants as decls
use Rattle.elab_base.specs.declared.fault.ElabKind.TheVariants as kind
use Rattle.elab_base.specs.declared.names.What.{What}
use Rattle.elab_base.specs.declared.names.What.TheVariants as what
use Rattle.elab_base.specs.Gives.{Refusal, ◌>>=◌, needs, each_at}
use Rattle.elab_base.specs.Steps.{unused}
use Rattle.elab_base.proofs.Keeps.{bind_ok, ok_is, each_keeps}
use Rattle.elab_decls.specs.declared.outside.Outside.{Outside}
use Rattle.elab_decls.specs.Enumerations.{enumeration}
use Rattle.elab_decls.specs.Variables.{variable}
use Rattle.elab_decls.specs.Formals.{args_fit, formals_of}
use Rattle.elab_decls.specs.Laws.{AreDistinct, AreOfBase}
use Rattle.elab_decls.proofs.Lawful.{IsLawful, with_distinct, variable_lawful, enumeration_lawful}
use Rattle.cov_design.specs.declared.known.Known.{Known}
use Rattle.cov_design.specs.Groups.{named, groups_fit, group}
use Rattle.cov_design.specs.Instances.{formals_at, samples_at, members_at, group_meant, entered, body_walked, with_instance, instance_of, instance}
use Rattle.cov_design.specs.Walk.{outside_step, declared, nothing, walked}

-- ---- the first fault

pub fault_stays : {A S : Type 0} (step : ℕ → A → S → Result S Refusal) (k : ℕ) (xs ys : List A) (s : S) (e : Refusal) → each_at step k xs s ≡ Err e → each_at step k (xs ++ ys) s ≡ Err e
unfolding each_at
fault_stays step k [] ys s e h = absurd cc
fault_stays {A} {S} step k (x ∷ xs) ys s e h = by (step k x s) (λ t g. fault_stays step (k + 1) xs ys t e g) h
  where
    by : (r : Result S Refusal) → ((t : S) → each_at step (k + 1) xs t ≡ Err e → each_at step (k + 1) (xs ++ ys) t ≡ Err e) → (r >>= each_at step (k + 1) xs) ≡ Err e → (r >>= each_at step (k + 1) (xs ++ ys)) ≡ Err e
    by (Ok t) rest g = rest t g
    by (Err d) rest g = g

pub first_fault : (front more : List Decl) (e : Refusal) → each_at (declared (front ++ more)) 0 front nothing ≡ Err e → walked (front ++ more) ≡ Err e
unfolding walked
first_fault front more e h = fault_stays (declared (front ++ more)) 0 front more nothing e h

-- ---- names and constants

LawfulKnown : Known → Type 0
LawfulKnown known = IsLawful known.outside

named_lawful : (name : List ℕ) (meaning : What) (outside : Outside) → IsLawful outside → IsLawful (named name meaning outside)
named_lawful name meaning outside h = record { names = with_distinct outside.names name meaning h.names; constants = h.constants }

instance_lawful : (text : List Decl) (of_group name : List ℕ) (args : List Expr) (at : ℕ) (s t : Known) → instance text of_group name args at s ≡ Ok t → LawfulKnown s → LawfulKnown t
unfolding instance instance_of with_instance LawfulKnown
instance_lawful text of_group name args at s t e h =
    let u = bind_ok (unused s.outside.names name at) _ t e in
    let g = bind_ok (group_meant (length s.groups) (meaning_of s.outside.names of_group) at) _ t u.2 in
    let a = bind_ok (needs (args_fit (formals_at text g.0.0) args) kind.ArgCount at) _ t g.2 in
    let n = bind_ok (needs (nat_lt (length s.instances) most_instances) kind.DesignLimit at) _ t a.2 in
    let f = bind_ok (formals_of s.outside (formals_at text g.0.0) (samples_at text g.0.0) args at) _ t n.2 in
    let b = bind_ok (body_walked (entered s.outside f.0.inner) f.0.names s.counts (members_at text g.0.0)) _ t f.2 in
    subst (λ (k : Known). IsLawful k.outside) (ok_is _ t b.2) (named_lawful name what.Instance s.outside h)

group_lawful : (place : ℕ) (name : List ℕ) (at : ℕ) (s t : Known) → group place name at s ≡ Ok t → LawfulKnown s → LawfulKnown t
unfolding group LawfulKnown
group_lawful place name at s t e h =
    let u = bind_ok (unused s.outside.names name at) _ t e in
    let c = bind_ok (groups_fit s at) _ t u.2 in
    subst (λ (k : Known). IsLawful k.outside) (ok_is _ t c.2) (named_lawful name (what.Group place c.0) s.outside h)

variable_step : (typ : TypeText) (name : List ℕ) (at : ℕ) (s t : Known) → outside_step (variable typ name at) s ≡ Ok t → LawfulKnown s → LawfulKnown t
unfolding LawfulKnown
variable_step typ name at s t e h =
    let o = bind_ok (variable typ name at s.outside) _ t e in
    subst (λ (k : Known). IsLawful k.outside) (ok_is _ t o.2) (variable_lawful typ name at s.outside o.0 o.1 h)

enumeration_step : (name : List ℕ) (base : Option TypeText) (names : List (List ℕ × Option Expr)) (at : ℕ) (s t : Known) → outside_step (enumeration name base names at) s ≡ Ok t → LawfulKnown s → LawfulKnown t
unfolding LawfulKnown
enumeration_step name base names at s t e h =
    let o = bind_ok (enumeration name base names at s.outside) _ t e in
    subst (λ (k : Known). IsLawful k.outside) (ok_is _ t o.2) (enumeration_lawful name base names at s.outside o.0 o.1 h)

declared_lawful : (text : List Decl) (place : ℕ) (decl : Decl) (s t : Known) → declared text place decl s ≡ Ok t → LawfulKnown s → LawfulKnown t
declared_lawful text place (decls.Enum name base names at) s t e h = enumeration_step name base names at s t e h
declared_lawful text place (decls.Var typ name at) s t e h = variable_step typ name at s t e h
declared_lawful text place (decls.Group name formals event args ms at) s t e h = group_lawful place name at s t e h
declared_lawful text place (decls.Instance of_group name args at) s t e h = instance_lawful text of_group name args at s t e h

pub walked_lawful : (text : List Decl) (known : Known) → walked text ≡ Ok known → IsLawful known.outside
unfolding walked LawfulKnown
walked_lawful text known e = each_keeps (declared text) LawfulKnown (declared_lawful text) 0 text nothing known e (record { names = tt; constants = tt })

pub walked_names : (text : List Decl) (known : Known) → walked text ≡ Ok known → AreDistinct known.outside.names
walked_names text known e = (walked_lawful text known e).names

pub walked_constants : (text : List Decl) (known : Known) → walked text ≡ Ok known → AllByRecursion AreOfBase known.outside.enumerations
walked_constants text known e = (walked_lawful text known e).constants
