-- One bin, item, instance or group more.
use Rattle.std.proofs.Common.{◌≡◌, ◌∙◌, ℕ, ◌+◌, ◌<◌, ◌≤◌, List, [], ◌∷◌, ◌++◌, length, drop, get_or, drop-cons, add-one, Bool, true, false, refl, sym, ap, subst, arith}
use Rattle.std.specs.Prelude.{◌==◌}
use Rattle.std.specs.List.{flat_map}
use Rattle.cov_ground.specs.Limits.{most_design_bins}
use Rattle.design_data.specs.declared.infos.BinInfo.{BinInfo}
use Rattle.design_data.specs.declared.infos.ItemInfo.{ItemInfo}
use Rattle.design_data.specs.declared.infos.InstInfo.{InstInfo}
use Rattle.design_data.specs.declared.infos.GroupInfo.{GroupInfo}
use Rattle.design_data.specs.Bins.{bins_in, total, items_of_group, items_from}
use Rattle.ucis_model.specs.declared.node.Node.{Node}
use Rattle.ucis_model.specs.declared.node.NodeKind.TheVariants as kinds
use Rattle.ucis_model.proofs.Longer.{item_longer, instances_longer, group_longer}
use Rattle.ucis_model.specs.Nodes.{bins_of, own_of, has_some, bin_node, with_bins, with_item, with_items, with_instance, with_instances, with_group, with_groups}

pub next_is : {A : Type 0} (xs : List A) (i : ℕ) (x : A) → i < length xs → x ≡ get_or xs i x → drop i xs ≡ x ∷ drop (i + 1) xs
next_is xs i x lt is = drop-cons xs i x lt ∙ rw (add-one, ← is) refl

-- ---- bins

pub more_bins : (parent at_least next : ℕ) (bins : List BinInfo) (i : ℕ) (bin : BinInfo) (nodes new whole : List Node) → i < length bins → bin ≡ get_or bins i bin → new ≡ nodes ++ bin_node parent at_least next bin ∷ []
    → with_bins parent at_least next (drop i bins) nodes ≡ whole → with_bins parent at_least (next + 1) (drop (i + 1) bins) new ≡ whole
more_bins parent at_least next bins i bin nodes new whole lt is e h = rw e (ap (λ (bs : List BinInfo). with_bins parent at_least next bs nodes) (sym (next_is bins i bin lt is)) ∙ h)

-- ---- items

pub more_items : (parent next bins : ℕ) (items : List ItemInfo) (i : ℕ) (item : ItemInfo) (nodes new whole : List Node) → i < length items → item ≡ get_or items i item → new ≡ with_item parent next item nodes → bins ≡ length item.bins
    → with_items parent next (drop i items) nodes ≡ whole → with_items parent (next + bins) (drop (i + 1) items) new ≡ whole
more_items parent next bins items i item nodes new whole lt is e n h = rw (e, n) (ap (λ (xs : List ItemInfo). with_items parent next xs nodes) (sym (next_is items i item lt is)) ∙ h)

-- what is counted so far, and what is left
pub more_counted : {X : Type 0} (f : X → ℕ) (xs : List X) (i : ℕ) (x : X) (next more whole : ℕ) → i < length xs → x ≡ get_or xs i x → more ≡ f x → next + total f (drop i xs) ≡ whole → (next + more) + total f (drop (i + 1) xs) ≡ whole
more_counted f xs i x next more whole lt is n h = let g = subst (λ ys. next + total f ys ≡ whole) (next_is xs i x lt is) h in omega (arith, g, n)

pub counted_fits : {X : Type 0} (f : X → ℕ) (xs : List X) (i : ℕ) (x : X) (next whole most : ℕ) → i < length xs → x ≡ get_or xs i x → next + total f (drop i xs) ≡ whole → whole ≤ most → next + f x ≤ most
counted_fits f xs i x next whole most lt is h le = let g = subst (λ ys. next + total f ys ≡ whole) (next_is xs i x lt is) h in omega (arith, g, le)

pub still_item : (parent next : ℕ) (item : ItemInfo) (nodes new : List Node) → new ≡ with_item parent next item nodes → parent < length nodes → parent < length new
still_item parent next item nodes new e lt = let h = item_longer parent next item nodes in let g = ap (λ (ns : List Node). length ns) e in omega (arith, h, g, lt)

-- ---- instances of a group

own_parts : (inst : InstInfo) (insts : List InstInfo) (group : ℕ) (b : Bool) → (inst.group == group) ≡ b → own_of (inst ∷ insts) group ≡ own_of (inst ∷ []) group ++ own_of insts group
own_parts inst insts group true e = rw e refl
own_parts inst insts group false e = rw e refl

-- the group's own instances from one instance on: this one, if it is one of them, and those behind it
pub own_next : (insts : List InstInfo) (i : ℕ) (inst : InstInfo) (group : ℕ) → i < length insts → inst ≡ get_or insts i inst → own_of (drop i insts) group ≡ own_of (inst ∷ []) group ++ own_of (drop (i + 1) insts) group
own_next insts i inst group lt is = ap (λ (xs : List InstInfo). own_of xs group) (next_is insts i inst lt is) ∙ own_parts inst (drop (i + 1) insts) group (inst.group == group) refl

total-append : {X : Type 0} (f : X → ℕ) (xs ys : List X) → total f (xs ++ ys) ≡ total f xs + total f ys
total-append f [] ys = omega arith
total-append f (x ∷ xs) ys = let h = total-append f xs ys in omega (arith, h)

instances-append : (parent next : ℕ) (xs ys : List InstInfo) (before : List Node) → with_instances parent next (xs ++ ys) before ≡ with_instances parent (next + bins_of xs) ys (with_instances parent next xs before)
instances-append parent next [] ys before = let e : next ≡ next + 0 = omega arith in ap (λ (n : ℕ). with_instances parent n ys before) e
instances-append parent next (x ∷ xs) ys before =
    let e : (next + bins_in x.items) + bins_of xs ≡ next + (bins_in x.items + bins_of xs) = omega arith in
    instances-append parent (next + bins_in x.items) xs ys (with_instance parent next x before) ∙ ap (λ (n : ℕ). with_instances parent n ys (with_instances parent (next + bins_in x.items) xs (with_instance parent next x before))) e

pub more_instances : (parent next bins : ℕ) (insts : List InstInfo) (i : ℕ) (inst : InstInfo) (group : ℕ) (nodes new whole : List Node) → i < length insts → inst ≡ get_or insts i inst
    → new ≡ with_instances parent next (own_of (inst ∷ []) group) nodes → bins ≡ bins_of (own_of (inst ∷ []) group)
    → with_instances parent next (own_of (drop i insts) group) nodes ≡ whole
    → with_instances parent (next + bins) (own_of (drop (i + 1) insts) group) new ≡ whole
more_instances parent next bins insts i inst group nodes new whole lt is e n h =
    let all = own_next insts i inst group lt is in
    let one = own_of (inst ∷ []) group in
    let rest = own_of (drop (i + 1) insts) group in
    rw (e, n) (sym (instances-append parent next one rest nodes) ∙ (ap (λ (xs : List InstInfo). with_instances parent next xs nodes) (sym all) ∙ h))

pub own_counted : (insts : List InstInfo) (i : ℕ) (inst : InstInfo) (group next bins whole : ℕ) → i < length insts → inst ≡ get_or insts i inst → bins ≡ bins_of (own_of (inst ∷ []) group) → next + bins_of (own_of (drop i insts) group) ≡ whole
    → (next + bins) + bins_of (own_of (drop (i + 1) insts) group) ≡ whole
own_counted insts i inst group next bins whole lt is n h =
    let all = own_next insts i inst group lt is in
    let parts = total-append (λ (x : InstInfo). bins_in x.items) (own_of (inst ∷ []) group) (own_of (drop (i + 1) insts) group) in
    let g = subst (λ (xs : List InstInfo). next + bins_of xs ≡ whole) all h in
    omega (arith, parts, g, n)

pub own_fits : (insts : List InstInfo) (i : ℕ) (inst : InstInfo) (group next whole : ℕ) → i < length insts → inst ≡ get_or insts i inst → next + bins_of (own_of (drop i insts) group) ≡ whole → whole ≤ most_design_bins
    → next + bins_of (own_of (inst ∷ []) group) ≤ most_design_bins
own_fits insts i inst group next whole lt is h le = let g = own_counted insts i inst group next (bins_of (own_of (inst ∷ []) group)) whole lt is refl h in omega (arith, g, le)

pub still_instances : (parent next : ℕ) (insts : List InstInfo) (nodes new : List Node) → new ≡ with_instances parent next insts nodes → parent < length nodes → parent < length new
still_instances parent next insts nodes new e lt = let h = instances_longer parent next insts nodes in let g = ap (λ (ns : List Node). length ns) e in omega (arith, h, g, lt)

own_found : (inst : InstInfo) (insts : List InstInfo) (group : ℕ) → (inst.group == group) ≡ true → has_some (own_of (inst ∷ insts) group) ≡ true
own_found inst insts group e = rw e refl

-- an instance of the group, from which on there are some
pub some_own : (insts : List InstInfo) (i : ℕ) (inst : InstInfo) (group : ℕ) → i < length insts → inst ≡ get_or insts i inst → (inst.group == group) ≡ true → own_of (drop i insts) group ≡ own_of insts group → true ≡ has_some (own_of insts group)
some_own insts i inst group lt is e h = sym (ap has_some (sym h ∙ ap (λ (xs : List InstInfo). own_of xs group) (next_is insts i inst lt is)) ∙ own_found inst (drop (i + 1) insts) group e)

own_passed : (inst : InstInfo) (insts : List InstInfo) (group : ℕ) → (inst.group == group) ≡ false → own_of (inst ∷ insts) group ≡ own_of insts group
own_passed inst insts group e = rw e refl

-- an instance of another group
pub other_own : (insts : List InstInfo) (i : ℕ) (inst : InstInfo) (group : ℕ) → i < length insts → inst ≡ get_or insts i inst → (inst.group == group) ≡ false → own_of (drop i insts) group ≡ own_of insts group → own_of (drop (i + 1) insts) group ≡ own_of insts group
other_own insts i inst group lt is e h = sym (own_passed inst (drop (i + 1) insts) group e) ∙ (ap (λ (xs : List InstInfo). own_of xs group) (sym (next_is insts i inst lt is)) ∙ h)

-- ---- groups

bins_in_all : (insts : List InstInfo) → bins_in (flat_map (λ inst. inst.items) insts) ≡ bins_of insts
bins_in_all [] = refl
bins_in_all (inst ∷ insts) = total-append (λ (item : ItemInfo). length item.bins) inst.items (flat_map (λ inst. inst.items) insts) ∙ ap (λ (n : ℕ). bins_in inst.items + n) (bins_in_all insts)

pub own_bins : (insts : List InstInfo) (group : ℕ) → bins_in (items_of_group insts group) ≡ bins_of (own_of insts group)
own_bins insts group = bins_in_all (own_of insts group)

-- the bins of a group and of those behind it
pub group_bins : (insts : List InstInfo) (place : ℕ) (group : GroupInfo) (groups : List GroupInfo) → bins_in (items_from insts place (group ∷ groups)) ≡ bins_of (own_of insts place) + bins_in (items_from insts (place + 1) groups)
group_bins insts place group groups = total-append (λ (item : ItemInfo). length item.bins) (items_of_group insts place) (items_from insts (place + 1) groups) ∙ ap (λ (n : ℕ). n + bins_in (items_from insts (place + 1) groups)) (own_bins insts place)

pub group_alone : (next : ℕ) (group : GroupInfo) (own : List InstInfo) (nodes : List Node) → has_some own ≡ false → nodes ≡ with_group next group own nodes
unfolding with_group
group_alone next group [] nodes e = refl
group_alone next group (inst ∷ insts) nodes e = absurd cc

pub group_whole : (next bins : ℕ) (group : GroupInfo) (own : List InstInfo) (nodes new : List Node) → has_some own ≡ true → bins ≡ bins_of own
    → new ≡ with_instances (length nodes) next own (nodes ++ record { kind = kinds.CoverGroup; name = group.name; parent = 0; first_bin = next; bins = bins; weight = group.weight; type_weight = 1; goal = group.goal; at_least = 1; merge = group.merge } ∷ [])
    → new ≡ with_group next group own nodes
unfolding with_group
group_whole next bins group [] nodes new e is made = absurd cc
group_whole next bins group (inst ∷ insts) nodes new e is made = made ∙ ap (λ (n : ℕ). with_instances (length nodes) next (inst ∷ insts) (nodes ++ record { kind = kinds.CoverGroup; name = group.name; parent = 0; first_bin = next; bins = n; weight = group.weight; type_weight = 1; goal = group.goal; at_least = 1; merge = group.merge } ∷ [])) is

pub more_groups : (next bins : ℕ) (insts : List InstInfo) (groups : List GroupInfo) (i : ℕ) (group : GroupInfo) (nodes new whole : List Node) → i < length groups → group ≡ get_or groups i group → new ≡ with_group next group (own_of insts i) nodes → bins ≡ bins_of (own_of insts i)
    → with_groups next insts i (drop i groups) nodes ≡ whole → with_groups (next + bins) insts (i + 1) (drop (i + 1) groups) new ≡ whole
more_groups next bins insts groups i group nodes new whole lt is e n h = rw (e, n) (ap (λ (xs : List GroupInfo). with_groups next insts i xs nodes) (sym (next_is groups i group lt is)) ∙ h)

pub groups_counted : (insts : List InstInfo) (groups : List GroupInfo) (i : ℕ) (group : GroupInfo) (next bins whole : ℕ) → i < length groups → group ≡ get_or groups i group → bins ≡ bins_of (own_of insts i) → next + bins_in (items_from insts i (drop i groups)) ≡ whole
    → (next + bins) + bins_in (items_from insts (i + 1) (drop (i + 1) groups)) ≡ whole
groups_counted insts groups i group next bins whole lt is n h =
    let g = subst (λ (xs : List GroupInfo). next + bins_in (items_from insts i xs) ≡ whole) (next_is groups i group lt is) h in
    let parts = group_bins insts i group (drop (i + 1) groups) in
    omega (arith, parts, g, n)

pub groups_fit : (insts : List InstInfo) (groups : List GroupInfo) (i : ℕ) (group : GroupInfo) (next whole : ℕ) → i < length groups → group ≡ get_or groups i group → next + bins_in (items_from insts i (drop i groups)) ≡ whole → whole ≤ most_design_bins
    → next + bins_of (own_of insts i) ≤ most_design_bins
groups_fit insts groups i group next whole lt is h le = let g = groups_counted insts groups i group next (bins_of (own_of insts i)) whole lt is refl h in omega (arith, g, le)

pub still_group : (next : ℕ) (group : GroupInfo) (own : List InstInfo) (nodes new : List Node) → new ≡ with_group next group own nodes → 0 < length nodes → 0 < length new
still_group next group own nodes new e lt = let h = group_longer next group own nodes in let g = ap (λ (ns : List Node). length ns) e in omega (arith, h, g, lt)
