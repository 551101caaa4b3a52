-- The items of an instance have distinct names.
use Rattle.std.proofs.Common.{◌≡◌, ℕ, List, length, subst, Option, Ok}
use Rattle.std.specs.Prelude.{nat_lt}
use Rattle.std.specs.List.{AllByRecursion}
use Rattle.cov_ground.specs.Limits.{most_instances}
use Rattle.name_map.specs.Names.{Pairs, meaning_of}
use Rattle.cov_tree.specs.declared.expr.Expr.{Expr}
use Rattle.cov_tree.specs.declared.groups.Member.{Member}
use Rattle.cov_tree.specs.declared.declarations.TypeText.{TypeText}
use Rattle.cov_tree.specs.declared.declarations.Decl.{Decl}
use Rattle.cov_tree.specs.declared.declarations.Decl.TheVariants as decls
use Rattle.elab_base.specs.declared.fault.ElabKind.TheVariants as kind
use Rattle.elab_base.specs.declared.names.What.{What}
use Rattle.elab_base.specs.Gives.{needs}
use Rattle.elab_base.specs.Steps.{unused}
use Rattle.elab_base.proofs.Keeps.{bind_ok, ok_is, each_keeps, all_push}
use Rattle.elab_decls.specs.declared.outside.Outside.{Outside}
use Rattle.elab_decls.specs.Enumerations.{enumeration}
use Rattle.elab_decls.specs.Variables.{variable}
use Rattle.elab_decls.specs.Formals.{args_fit, formals_of}
use Rattle.elab_decls.specs.Options.{group_options}
use Rattle.elab_decls.specs.Laws.{AreDistinct}
use Rattle.elab_members.specs.declared.counts.Counts.{Counts}
use Rattle.elab_members.specs.Members.{inside_in, members_walked}
use Rattle.elab_members.specs.Scopes.{HasDistinctItems}
use Rattle.elab_members.proofs.Scoped.{IsScope, members_scope}
use Rattle.cov_design.specs.declared.known.Known.{Known}
use Rattle.cov_design.specs.declared.instances.Body.{Body}
use Rattle.cov_design.specs.Groups.{groups_fit, group}
use Rattle.cov_design.specs.Instances.{formals_at, samples_at, members_at, group_meant, entered, body_walked, inst_info, with_instance, instance_of, instance}
use Rattle.cov_design.specs.Walk.{outside_step, declared, nothing, walked}

-- ---- members

body_scope : (outside : Outside) (names : Pairs What) (start : Counts) (ms : List Member) (body : Body) → body_walked outside names start ms ≡ Ok body → IsScope body.items
unfolding body_walked
body_scope outside names start ms body e =
    let o = bind_ok (group_options outside.scope ms) _ body e in
    let inside = inside_in names o.0 ms in
    let m = bind_ok (members_walked outside inside start ms) _ body o.2 in
    subst (λ (b : Body). IsScope b.items) (ok_is _ body m.2) (members_scope outside inside start ms m.0 m.1)

-- ---- instances

AreScoped : Known → Type 0
AreScoped known = AllByRecursion HasDistinctItems known.instances

instance_scoped : (text : List Decl) (of_group name : List ℕ) (args : List Expr) (at : ℕ) (s t : Known) → instance text of_group name args at s ≡ Ok t → AreScoped s → AreScoped t
unfolding instance instance_of with_instance AreScoped
instance_scoped text of_group name args at s t e h =
    let u = bind_ok (unused s.outside.names name at) _ t e in
    let g = bind_ok (group_meant (length s.groups) (meaning_of s.outside.names of_group) at) _ t u.2 in
    let a = bind_ok (needs (args_fit (formals_at text g.0.0) args) kind.ArgCount at) _ t g.2 in
    let n = bind_ok (needs (nat_lt (length s.instances) most_instances) kind.DesignLimit at) _ t a.2 in
    let f = bind_ok (formals_of s.outside (formals_at text g.0.0) (samples_at text g.0.0) args at) _ t n.2 in
    let b = bind_ok (body_walked (entered s.outside f.0.inner) f.0.names s.counts (members_at text g.0.0)) _ t f.2 in
    let scope = body_scope (entered s.outside f.0.inner) f.0.names s.counts (members_at text g.0.0) b.0 b.1 in
    let last = inst_info name g.0.1 f.0.args b.0 in
    subst (λ (k : Known). AllByRecursion HasDistinctItems k.instances) (ok_is _ t b.2) (all_push HasDistinctItems s.instances last h (subst AreDistinct scope.names scope.distinct))

group_scoped : (place : ℕ) (name : List ℕ) (at : ℕ) (s t : Known) → group place name at s ≡ Ok t → AreScoped s → AreScoped t
unfolding group AreScoped
group_scoped place name at s t e h =
    let u = bind_ok (unused s.outside.names name at) _ t e in
    let c = bind_ok (groups_fit s at) _ t u.2 in
    subst (λ (k : Known). AllByRecursion HasDistinctItems k.instances) (ok_is _ t c.2) h

variable_scoped : (typ : TypeText) (name : List ℕ) (at : ℕ) (s t : Known) → outside_step (variable typ name at) s ≡ Ok t → AreScoped s → AreScoped t
unfolding AreScoped
variable_scoped typ name at s t e h =
    let o = bind_ok (variable typ name at s.outside) _ t e in
    subst (λ (k : Known). AllByRecursion HasDistinctItems k.instances) (ok_is _ t o.2) h

enumeration_scoped : (name : List ℕ) (base : Option TypeText) (names : List (List ℕ × Option Expr)) (at : ℕ) (s t : Known) → outside_step (enumeration name base names at) s ≡ Ok t → AreScoped s → AreScoped t
unfolding AreScoped
enumeration_scoped name base names at s t e h =
    let o = bind_ok (enumeration name base names at s.outside) _ t e in
    subst (λ (k : Known). AllByRecursion HasDistinctItems k.instances) (ok_is _ t o.2) h

declared_scoped : (text : List Decl) (place : ℕ) (decl : Decl) (s t : Known) → declared text place decl s ≡ Ok t → AreScoped s → AreScoped t
declared_scoped text place (decls.Enum name base names at) s t e h = enumeration_scoped name base names at s t e h
declared_scoped text place (decls.Var typ name at) s t e h = variable_scoped typ name at s t e h
declared_scoped text place (decls.Group name formals event args ms at) s t e h = group_scoped place name at s t e h
declared_scoped text place (decls.Instance of_group name args at) s t e h = instance_scoped text of_group name args at s t e h

pub items_distinct : (text : List Decl) (known : Known) → walked text ≡ Ok known → AllByRecursion HasDistinctItems known.instances
unfolding walked AreScoped
items_distinct text known e = each_keeps (declared text) AreScoped (declared_scoped text) 0 text nothing known e tt
