-- Where a text has a design, its event scopes are there: the walk that enters no group's body keeps up with the whole one.
use Rattle.std.proofs.Common.{◌≡◌, ◌∙◌, ℕ, ◌+◌, List, [], ◌∷◌, ◌++◌, length, refl, sym, ap, arith, Bool, true, false, Result, Ok}
use Rattle.std.specs.Prelude.{nat_lt, nat_eq}
use Rattle.std.proofs.lemmas.List.{length_push, length-set}
use Rattle.cov_ground.specs.Limits.{most_instances, longest_design}
use Rattle.name_map.specs.Names.{meaning_of}
use Rattle.cov_tree.specs.declared.expr.Expr.{Expr}
use Rattle.cov_tree.specs.declared.declarations.Decl.{Decl}
use Rattle.cov_tree.specs.declared.declarations.Decl.TheVariants as decls
use Rattle.cov_tree.specs.declared.declarations.DesignText.{DesignText}
use Rattle.const_eval.specs.Scopes.{Names, Levels}
use Rattle.cov_options.specs.Table.{defaults}
use Rattle.design_data.specs.declared.infos.GroupInfo.{GroupInfo}
use Rattle.elab_base.specs.declared.fault.ElabKind.TheVariants as kind
use Rattle.elab_base.specs.declared.names.What.TheVariants as what
use Rattle.elab_base.specs.Gives.{Refusal, needs, each_at}
use Rattle.elab_base.specs.Steps.{unused}
use Rattle.elab_base.proofs.Keeps.{bind_ok, ok_is}
use Rattle.elab_decls.specs.declared.outside.Outside.{Outside}
use Rattle.elab_decls.specs.declared.formals.Formals.{Formals}
use Rattle.elab_decls.specs.Enumerations.{enumeration}
use Rattle.elab_decls.specs.Variables.{variable}
use Rattle.elab_decls.specs.Formals.{args_fit, formals_walked, formals_of}
use Rattle.cov_design.specs.declared.known.Known.{Known}
use Rattle.cov_design.specs.declared.events.Seen.{Seen}
use Rattle.cov_design.specs.Groups.{group_info, named, groups_fit, group}
use Rattle.cov_design.specs.Instances.{formals_at, samples_at, members_at, group_meant, entered, body_walked, inst_info, with_instance, instance_of, instance}
use Rattle.cov_design.specs.Walk.{outside_step, declared, nothing, walked}
use Rattle.cov_design.specs.Events.{formals_here, formals_if, instance_seen, known_seen, seen, nothing_seen, all_seen, levels_of, event_levels}
use Rattle.cov_design.specs.Elaboration.{Parts, Elaborates}

-- what the walk knows outside groups, it has seen
pub record Follows (k : Known) (s : Seen) : Type 0 where
  pub outside : s.known.outside ≡ k.outside
  pub groups : length s.known.groups ≡ length k.groups
  pub instances : s.instances ≡ length k.instances

-- the step is made too, and still follows
abbrev Steps : (Seen → Result Seen Refusal) → Known → Seen → Type 0
Steps step t s = (u : Seen) × (step s ≡ Ok u) × Follows t u

outside_steps : (f : Outside → Result Outside Refusal) (k t : Known) (s : Seen) → outside_step f k ≡ Ok t → Follows k s → Steps (known_seen (outside_step f)) t s
unfolding known_seen
outside_steps f k t s e h =
    let o = bind_ok (f k.outside) _ t e in
    let made : f s.known.outside ≡ Ok o.0 = ap f h.outside ∙ o.1 in
    let u : Seen = record s { known = record s.known { outside = o.0 } } in
    let is = ok_is _ t o.2 in (
      u,
      rw made refl,
      record {
        outside = ap (λ (x : Known). x.outside) is;
        groups = h.groups ∙ ap (λ (x : Known). length x.groups) is;
        instances = h.instances ∙ ap (λ (x : Known). length x.instances) is;
      },
    )

group_steps : (place : ℕ) (name : List ℕ) (at : ℕ) (k t : Known) (s : Seen) → group place name at k ≡ Ok t → Follows k s → Steps (known_seen (group place name at)) t s
unfolding known_seen group groups_fit
group_steps place name at k t s e h =
    let u = bind_ok (unused k.outside.names name at) _ t e in
    let c = bind_ok (groups_fit k at) _ t u.2 in
    let n = bind_ok (needs (nat_lt (length k.groups) longest_design) kind.DesignLimit at) _ c.0 c.1 in
    let unused' : unused s.known.outside.names name at ≡ Ok u.0 = ap (λ (o : Outside). unused o.names name at) h.outside ∙ u.1 in
    let fits : needs (nat_lt (length s.known.groups) longest_design) kind.DesignLimit at ≡ Ok n.0 = ap (λ (m : ℕ). needs (nat_lt m longest_design) kind.DesignLimit at) h.groups ∙ n.1 in
    let one : GroupInfo = group_info name defaults in
    let count = length s.known.groups in
    let new : Known = record s.known { outside = named name (what.Group place count) s.known.outside; groups = s.known.groups ++ one ∷ [] } in
    let is = ok_is _ t c.2 in
    let same : count ≡ c.0 = h.groups ∙ ok_is (length k.groups) c.0 n.2 in
    let mine = length_push s.known.groups one in
    let other = length_push k.groups one in
    let g = h.groups in
    let longer : length (s.known.groups ++ one ∷ []) ≡ length (k.groups ++ one ∷ []) = omega (arith, mine, other, g) in (
      record s { known = new },
      rw (unused', fits) refl,
      record {
        outside = (λ i. named name (what.Group place (same i)) (h.outside i)) ∙ ap (λ (x : Known). x.outside) is;
        groups = longer ∙ ap (λ (x : Known). length x.groups) is;
        instances = h.instances ∙ ap (λ (x : Known). length x.instances) is;
      },
    )

-- the formals of an instance of the design can be had
here_are : (text : List Decl) (of_group : List ℕ) (args : List Expr) (at : ℕ) (k : Known) (s : Seen) (place : ℕ × ℕ) (f : Formals) → group_meant (length k.groups) (meaning_of k.outside.names of_group) at ≡ Ok place → formals_walked k.outside args at (formals_at text place.0) ≡ Ok f → Follows k s
    → formals_here text of_group args at s.known ≡ Ok f.inner
unfolding formals_here
here_are text of_group args at k s place f e g h =
    let meant : group_meant (length s.known.groups) (meaning_of s.known.outside.names of_group) at ≡ Ok place = (λ i. group_meant (h.groups i) (meaning_of (h.outside i).names of_group) at) ∙ e in
    let walked' : formals_walked s.known.outside args at (formals_at text place.0) ≡ Ok f = ap (λ (o : Outside). formals_walked o args at (formals_at text place.0)) h.outside ∙ g in
    rw (meant, walked') refl

if_are : (b : Bool) (text : List Decl) (of_group : List ℕ) (args : List Expr) (at : ℕ) (s : Seen) (inner : Names) → formals_here text of_group args at s.known ≡ Ok inner → (names : Names) × (formals_if b text of_group args at s ≡ Ok names)
if_are true text of_group args at s inner e = (inner, e)
if_are false text of_group args at s inner e = (s.formals, refl)

instance_steps : (text : List Decl) (n : ℕ) (of_group name : List ℕ) (args : List Expr) (at : ℕ) (k t : Known) (s : Seen) → instance text of_group name args at k ≡ Ok t → Follows k s → Steps (instance_seen text n of_group name args at) t s
unfolding instance instance_of with_instance formals_of instance_seen
instance_steps text n of_group name args at k t s e h =
    let u = bind_ok (unused k.outside.names name at) _ t e in
    let g = bind_ok (group_meant (length k.groups) (meaning_of k.outside.names of_group) at) _ t u.2 in
    let a = bind_ok (needs (args_fit (formals_at text g.0.0) args) kind.ArgCount at) _ t g.2 in
    let m = bind_ok (needs (nat_lt (length k.instances) most_instances) kind.DesignLimit at) _ t a.2 in
    let f = bind_ok (formals_of k.outside (formals_at text g.0.0) (samples_at text g.0.0) args at) _ t m.2 in
    let b = bind_ok (body_walked (entered k.outside f.0.inner) f.0.names k.counts (members_at text g.0.0)) _ t f.2 in
    let w = bind_ok (formals_walked k.outside args at (formals_at text g.0.0)) _ f.0 f.1 in
    let few : needs (nat_lt s.instances most_instances) kind.DesignLimit at ≡ Ok m.0 = ap (λ (i : ℕ). needs (nat_lt i most_instances) kind.DesignLimit at) h.instances ∙ m.1 in
    let names = if_are (nat_eq s.instances n) text of_group args at s w.0.inner (here_are text of_group args at k s g.0 w.0 g.1 w.1 h) in
    let had = names.1 in
    let is = ok_is _ t b.2 in
    let inst = inst_info name g.0.1 f.0.args b.0 in
    let new : Seen = record { known = record s.known { outside = named name what.Instance s.known.outside }; instances = s.instances + 1; formals = names.0 } in
    let more = length_push k.instances inst in
    let i = h.instances in
    let count : s.instances + 1 ≡ length (k.instances ++ inst ∷ []) = omega (arith, more, i) in
    let same = length-set k.groups g.0.1 (group_info of_group b.0.options) in (
      new,
      rw (few, had) refl,
      record {
        outside = (λ j. named name what.Instance (h.outside j)) ∙ ap (λ (x : Known). x.outside) is;
        groups = h.groups ∙ (sym same ∙ ap (λ (x : Known). length x.groups) is);
        instances = count ∙ ap (λ (x : Known). length x.instances) is;
      },
    )

step_follows : (text : List Decl) (n place : ℕ) (decl : Decl) (k t : Known) (s : Seen) → declared text place decl k ≡ Ok t → Follows k s → Steps (seen text n place decl) t s
step_follows text n place (decls.Enum name base names at) k t s e h = outside_steps (enumeration name base names at) k t s e h
step_follows text n place (decls.Var typ name at) k t s e h = outside_steps (variable typ name at) k t s e h
step_follows text n place (decls.Group name formals event args ms at) k t s e h = group_steps place name at k t s e h
step_follows text n place (decls.Instance of_group name args at) k t s e h = instance_steps text n of_group name args at k t s e h

each_follows : (text : List Decl) (n i : ℕ) (ds : List Decl) (k t : Known) (s : Seen) → each_at (declared text) i ds k ≡ Ok t → Follows k s → (u : Seen) × (each_at (seen text n) i ds s ≡ Ok u)
unfolding each_at
each_follows text n i [] k t s e h = (s, refl)
each_follows text n i (decl ∷ ds) k t s e h =
    let b = bind_ok (declared text i decl k) (each_at (declared text) (i + 1) ds) t e in
    let one = step_follows text n i decl k b.0 s b.1 h in
    let rest = each_follows text n (i + 1) ds b.0 t one.0 b.2 one.2 in
    let made = one.1 in
    (rest.0, rw made rest.1)

begins : Follows nothing nothing_seen
begins = record { outside = refl; groups = refl; instances = refl }

pub scopes_stand : (text : DesignText) (parts : Parts) (n : ℕ) → Elaborates text ≡ Ok parts → (levels : Levels) × (event_levels text.decls n ≡ Ok levels)
unfolding Elaborates walked event_levels all_seen
scopes_stand text parts n e =
    let w = bind_ok (walked text.decls) _ parts e in
    let s = each_follows text.decls n 0 text.decls nothing w.0 nothing_seen w.1 begins in
    let made = s.1 in
    (levels_of text.decls s.0, rw made refl)
