-- What was declared is within all limits.
use Rattle.std.proofs.Common.{◌≡◌, ℕ, ◌<◌, ◌≤◌, List, [], ◌∷◌, ◌++◌, length, refl, sym, ap, subst, arith, Option, Some, None, Ok}
use Rattle.std.specs.Prelude.{nat_lt, set}
use Rattle.std.specs.List.{AllByRecursion}
use Rattle.std.proofs.lemmas.List.{length_push, length-set}
use Rattle.cov_ground.specs.Limits.{most_instances, most_items, most_design_bins, most_design_ranges}
use Rattle.name_map.specs.Names.{Pairs, meaning_of}
use Rattle.cov_tree.specs.declared.expr.Expr.{Expr}
use Rattle.cov_tree.specs.declared.groups.Member.{Member}
use Rattle.cov_tree.specs.declared.declarations.TypeText.{TypeText}
use Rattle.cov_tree.specs.declared.declarations.Decl.{Decl}
use Rattle.cov_tree.specs.declared.declarations.Decl.TheVariants as decls
use Rattle.cov_options.specs.Table.{defaults}
use Rattle.design_data.specs.declared.infos.GroupInfo.{GroupInfo}
use Rattle.design_data.specs.declared.infos.InstInfo.{InstInfo}
use Rattle.design_data.specs.Bins.{bins_in}
use Rattle.design_data.specs.Limits.{ranges_in}
use Rattle.elab_base.specs.declared.fault.ElabKind.TheVariants as kind
use Rattle.elab_base.specs.declared.names.What.{What}
use Rattle.elab_base.specs.declared.names.What.TheVariants as what
use Rattle.elab_base.specs.Gives.{needs}
use Rattle.elab_base.specs.Steps.{unused}
use Rattle.elab_base.proofs.Keeps.{bind_ok, ok_is, each_keeps, needs_ok, all_push, all_as}
use Rattle.elab_decls.specs.declared.outside.Outside.{Outside}
use Rattle.elab_decls.specs.declared.formals.Formals.{Formals}
use Rattle.elab_decls.specs.Enumerations.{enumeration}
use Rattle.elab_decls.specs.Variables.{variable}
use Rattle.elab_decls.specs.Formals.{args_fit, formals_of}
use Rattle.elab_decls.specs.Options.{group_options}
use Rattle.elab_decls.specs.Invariant.{IsOutside, AreArguments}
use Rattle.elab_decls.proofs.Kept.{variable_keeps, enumeration_keeps, formals_are}
use Rattle.elab_decls.proofs.Hits.{group_keeps}
use Rattle.elab_order.proofs.Numbering.{total-append}
use Rattle.elab_members.specs.declared.counts.Counts.{Counts}
use Rattle.elab_members.specs.Members.{inside_in, members_walked}
use Rattle.elab_members.proofs.Within.{AreItems, members_keep}
use Rattle.cov_design.specs.declared.known.Known.{Known}
use Rattle.cov_design.specs.declared.instances.Body.{Body}
use Rattle.cov_design.specs.Groups.{group_info, named, groups_fit, group}
use Rattle.cov_design.specs.Instances.{formals_at, samples_at, members_at, group_meant, entered, body_walked, inst_info, with_instance, instance_of, instance}
use Rattle.cov_design.specs.Walk.{outside_step, declared, nothing, walked}
use Rattle.cov_design.specs.Invariant.{IsDeclared, IsKnown}

-- ---- what is declared outside groups

outside_known : (known : Known) (outside : Outside) → IsKnown known → IsOutside outside → IsKnown (record known { outside = outside })
outside_known known outside k o = record {
  outside = o;
  instance_count = k.instance_count;
  each = k.each;
  items = k.items;
  few_items = k.few_items;
  bins = k.bins;
  few_bins = k.few_bins;
  ranges = k.ranges;
  few_ranges = k.few_ranges;
}

variable_known : (typ : TypeText) (name : List ℕ) (at : ℕ) (s t : Known) → outside_step (variable typ name at) s ≡ Ok t → IsKnown s → IsKnown t
variable_known typ name at s t e known =
    let o = bind_ok (variable typ name at s.outside) _ t e in
    subst IsKnown (ok_is _ t o.2) (outside_known s o.0 known (variable_keeps typ name at s.outside o.0 o.1 known.outside))

enumeration_known : (name : List ℕ) (base : Option TypeText) (names : List (List ℕ × Option Expr)) (at : ℕ) (s t : Known) → outside_step (enumeration name base names at) s ≡ Ok t → IsKnown s → IsKnown t
enumeration_known name base names at s t e known =
    let o = bind_ok (enumeration name base names at s.outside) _ t e in
    subst IsKnown (ok_is _ t o.2) (outside_known s o.0 known (enumeration_keeps name base names at s.outside o.0 o.1 known.outside))

-- a further name changes no signal
named_outside : (name : List ℕ) (meaning : What) (outside : Outside) → IsOutside outside → IsOutside (named name meaning outside)
named_outside name meaning outside o = record { few = o.few; widths = o.widths }

-- ---- groups

more_groups : (n m : ℕ) → n ≤ m → (inst : InstInfo) → IsDeclared n inst → IsDeclared m inst
more_groups n m le inst d = let lt = d.group in record { group = omega (arith, lt, le); args = d.args; items = d.items }

all_more : (n m : ℕ) → n ≤ m → (insts : List InstInfo) → AllByRecursion (IsDeclared n) insts → AllByRecursion (IsDeclared m) insts
all_more n m le insts all = all_as (IsDeclared n) (IsDeclared m) (more_groups n m le) insts all

group_keeps_known : (place : ℕ) (name : List ℕ) (at : ℕ) (s t : Known) → group place name at s ≡ Ok t → IsKnown s → IsKnown t
unfolding group
group_keeps_known place name at s t e known =
    let u = bind_ok (unused s.outside.names name at) _ t e in
    let c = bind_ok (groups_fit s at) _ t u.2 in
    let one : GroupInfo = group_info name defaults in
    let count = length_push s.groups one in
    let here : IsKnown (record s { outside = named name (what.Group place c.0) s.outside; groups = s.groups ++ one ∷ [] }) = record {
      outside = named_outside name (what.Group place c.0) s.outside known.outside;
      instance_count = known.instance_count;
      each = all_more (length s.groups) (length (s.groups ++ one ∷ [])) (omega (arith, count)) s.instances known.each;
      items = known.items;
      few_items = known.few_items;
      bins = known.bins;
      few_bins = known.few_bins;
      ranges = known.ranges;
      few_ranges = known.few_ranges;
    } in
    subst IsKnown (ok_is _ t c.2) here

-- ---- members

body_keeps : (outside : Outside) (names : Pairs What) (start : Counts) (ms : List Member) (body : Body) → start.items ≤ most_items → start.bins ≤ most_design_bins → start.ranges ≤ most_design_ranges → body_walked outside names start ms ≡ Ok body → AreItems start body.items
unfolding body_walked
body_keeps outside names start ms body items bins ranges e =
    let o = bind_ok (group_options outside.scope ms) _ body e in
    let inside = inside_in names o.0 ms in
    let m = bind_ok (members_walked outside inside start ms) _ body o.2 in
    let all = members_keep outside inside start ms m.0 items bins ranges (group_keeps outside.scope ms o.0 o.1) m.1 in
    subst (λ (b : Body). AreItems start b.items) (ok_is _ body m.2) all

-- ---- instances

group_below : (groups : ℕ) (w : Option What) (at : ℕ) (place : ℕ × ℕ) → group_meant groups w at ≡ Ok place → place.1 < groups
unfolding group_meant
group_below groups (Some (what.Group text g)) at place e =
    let n = bind_ok (needs (nat_lt g groups) kind.UnknownType at) _ place e in
    let lt = needs_ok (nat_lt g groups) kind.UnknownType at n.0 n.1 in
    let is = ap (λ (p : ℕ × ℕ). p.1) (ok_is (text, g) place n.2) in
    grind (arith, lt, is)
group_below groups (Some (what.Type enumeration)) at place e = absurd cc
group_below groups (Some what.Constant) at place e = absurd cc
group_below groups (Some (what.Variable enumeration)) at place e = absurd cc
group_below groups (Some what.Instance) at place e = absurd cc
group_below groups (Some (what.Formal by_ref enumeration)) at place e = absurd cc
group_below groups (Some (what.Item index)) at place e = absurd cc
group_below groups (Some what.Bin) at place e = absurd cc
group_below groups None at place e = absurd cc

added_instance : (name of_group : List ℕ) (g : ℕ) (formals : Formals) (body : Body) (s : Known) → g < length s.groups → length s.instances < most_instances → AreArguments formals.args → AreItems s.counts body.items
    → IsKnown s → IsKnown (with_instance name of_group g formals.args body s)
unfolding with_instance
added_instance name of_group g formals body s below few args all known =
    let inst = inst_info name g formals.args body in
    let infos = set s.groups g (group_info of_group body.options) in
    let same = length-set s.groups g (group_info of_group body.options) in
    let count = length_push s.instances inst in
    let items' = total-append (λ (x : InstInfo). length x.items) s.instances (inst ∷ []) in
    let bins' = total-append (λ (x : InstInfo). bins_in x.items) s.instances (inst ∷ []) in
    let ranges' = total-append (λ (x : InstInfo). ranges_in x.items) s.instances (inst ∷ []) in
    let i = known.items in
    let b = known.bins in
    let r = known.ranges in
    let ai = all.items in
    let ab = all.bins in
    let ar = all.ranges in
    let one : IsDeclared (length s.groups) inst = record { group = below; args = args; items = all.each } in
    let each = all_push (IsDeclared (length s.groups)) s.instances inst known.each one in
    record {
      outside = named_outside name what.Instance s.outside known.outside;
      instance_count = omega (arith, few, count);
      each = subst (λ (n : ℕ). AllByRecursion (IsDeclared n) (s.instances ++ inst ∷ [])) (sym same) each;
      items = omega (arith, i, ai, items');
      few_items = all.few_items;
      bins = omega (arith, b, ab, bins');
      few_bins = all.few_bins;
      ranges = omega (arith, r, ar, ranges');
      few_ranges = all.few_ranges;
    }

instance_of_keeps : (text : List Decl) (place : ℕ × ℕ) (of_group name : List ℕ) (args : List Expr) (at : ℕ) (s t : Known) → instance_of text place of_group name args at s ≡ Ok t → place.1 < length s.groups → length s.instances < most_instances → IsKnown s → IsKnown t
unfolding instance_of
instance_of_keeps text place of_group name args at s t e below few known =
    let f = bind_ok (formals_of s.outside (formals_at text place.0) (samples_at text place.0) args at) _ t e in
    let outside = entered s.outside f.0.inner in
    let b = bind_ok (body_walked outside f.0.names s.counts (members_at text place.0)) _ t f.2 in
    let all = body_keeps outside f.0.names s.counts (members_at text place.0) b.0 known.few_items known.few_bins known.few_ranges b.1 in
    let are = formals_are s.outside (formals_at text place.0) (samples_at text place.0) args at f.0 f.1 in
    subst IsKnown (ok_is _ t b.2) (added_instance name of_group place.1 f.0 b.0 s below few are all known)

instance_keeps : (text : List Decl) (of_group name : List ℕ) (args : List Expr) (at : ℕ) (s t : Known) → instance text of_group name args at s ≡ Ok t → IsKnown s → IsKnown t
unfolding instance
instance_keeps text of_group name args at s t e known =
    let u = bind_ok (unused s.outside.names name at) _ t e in
    let g = bind_ok (group_meant (length s.groups) (meaning_of s.outside.names of_group) at) _ t u.2 in
    let a = bind_ok (needs (args_fit (formals_at text g.0.0) args) kind.ArgCount at) _ t g.2 in
    let n = bind_ok (needs (nat_lt (length s.instances) most_instances) kind.DesignLimit at) _ t a.2 in
    let few = needs_ok (nat_lt (length s.instances) most_instances) kind.DesignLimit at n.0 n.1 in
    let below = group_below (length s.groups) (meaning_of s.outside.names of_group) at g.0 g.1 in
    instance_of_keeps text g.0 of_group name args at s t n.2 below (grind (arith, few)) known

-- ---- the walk

declared_keeps : (text : List Decl) (place : ℕ) (decl : Decl) (s t : Known) → declared text place decl s ≡ Ok t → IsKnown s → IsKnown t
declared_keeps text place (decls.Enum name base names at) s t e known = enumeration_known name base names at s t e known
declared_keeps text place (decls.Var typ name at) s t e known = variable_known typ name at s t e known
declared_keeps text place (decls.Group name formals event args ms at) s t e known = group_keeps_known place name at s t e known
declared_keeps text place (decls.Instance of_group name args at) s t e known = instance_keeps text of_group name args at s t e known

begins : IsKnown nothing
begins = record {
  outside = record { few = omega arith; widths = tt };
  instance_count = omega arith;
  each = tt;
  items = refl;
  few_items = omega arith;
  bins = refl;
  few_bins = omega arith;
  ranges = refl;
  few_ranges = omega arith;
}

pub walked_known : (text : List Decl) (known : Known) → walked text ≡ Ok known → IsKnown known
unfolding walked
walked_known text known e = each_keeps (declared text) IsKnown (declared_keeps text) 0 text nothing known e begins
