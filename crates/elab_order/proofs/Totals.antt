-- What is counted over all items in the order of their numbers is what is counted over the instances.
use Rattle.std.proofs.Common.{◌≡◌, ◌∙◌, ℕ, suc, ◌+◌, ◌<◌, List, [], ◌∷◌, length, refl, sym, subst, ap, Bool, true, false, cond, arith}
use Rattle.std.specs.Prelude.{◌==◌, nat_le, if◌then◌else◌}
use Rattle.std.specs.List.{AllByRecursion}
use Rattle.design_data.specs.declared.infos.GroupInfo.{GroupInfo}
use Rattle.design_data.specs.declared.infos.InstInfo.{InstInfo}
use Rattle.design_data.specs.declared.infos.ItemInfo.{ItemInfo}
use Rattle.design_data.specs.Bins.{items_of_group, items_from, numbered_items, total}
use Rattle.elab_order.specs.declared.numbers.Load.{Load}
use Rattle.elab_order.specs.Order.{items_numbered, first_of, numbered_from, numbered}
use Rattle.elab_order.proofs.Numbering.{total-append, total-numbered as items_total}

-- of the instances of a group from `k` on
abbrev from_group : (ItemInfo → ℕ) → ℕ → List InstInfo → ℕ
from_group f k insts = total (λ inst. if nat_le k inst.group then total f inst.items else 0) insts

none_step : (k g b x : ℕ) (p : Bool) → nat_le k g ≡ p → g < k → x ≡ 0 → cond p b 0 + x ≡ 0
none_step k g b x true e lt h = absurd (grind (arith, e, lt))
none_step k g b x false e lt h = omega (arith, h)

none_from : (f : ItemInfo → ℕ) (k : ℕ) (insts : List InstInfo) → AllByRecursion (λ inst. inst.group < k) insts → from_group f k insts ≡ 0
none_from f k [] all = refl
none_from f k (inst ∷ insts) all = none_step k inst.group (total f inst.items) (from_group f k insts) (nat_le k inst.group) refl all.0 (none_from f k insts all.1)

split_step : (f : ItemInfo → ℕ) (k : ℕ) (inst : InstInfo) (insts : List InstInfo) (p q r : Bool) → (inst.group == k) ≡ p → nat_le (k + 1) inst.group ≡ q → nat_le k inst.group ≡ r
    → total f (items_of_group insts k) + from_group f (k + 1) insts ≡ from_group f k insts
    → total f (items_of_group (inst ∷ insts) k) + from_group f (k + 1) (inst ∷ insts) ≡ from_group f k (inst ∷ insts)
split_step f k inst insts true true r e g h i = absurd (grind (arith, e, g))
split_step f k inst insts true false true e g h i = let a = total-append f inst.items (items_of_group insts k) in rw (e, g, h) (omega (arith, a, i))
split_step f k inst insts true false false e g h i = absurd (grind (arith, e, h))
split_step f k inst insts false true true e g h i = rw (e, g, h) (omega (arith, i))
split_step f k inst insts false true false e g h i = absurd (grind (arith, g, h))
split_step f k inst insts false false true e g h i = absurd (grind (arith, e, g, h))
split_step f k inst insts false false false e g h i = rw (e, g, h) (omega (arith, i))

split : (f : ItemInfo → ℕ) (k : ℕ) (insts : List InstInfo) → total f (items_of_group insts k) + from_group f (k + 1) insts ≡ from_group f k insts
split f k [] = refl
split f k (inst ∷ insts) = split_step f k inst insts (inst.group == k) (nat_le (k + 1) inst.group) (nat_le k inst.group) refl refl refl (split f k insts)

below_as : (n m : ℕ) (insts : List InstInfo) → n ≡ m → AllByRecursion (λ inst. inst.group < n) insts → AllByRecursion (λ inst. inst.group < m) insts
below_as n m insts e all = subst (λ (k : ℕ). AllByRecursion (λ (inst : InstInfo). inst.group < k) insts) e all

by_groups : (f : ItemInfo → ℕ) (k : ℕ) (groups : List GroupInfo) (insts : List InstInfo) → AllByRecursion (λ inst. inst.group < k + length groups) insts → total f (items_from insts k groups) ≡ from_group f k insts
by_groups f k [] insts all = let e : k + 0 ≡ k = omega arith in sym (none_from f k insts (below_as (k + 0) k insts e all))
by_groups f k (g ∷ groups) insts all =
    let e : k + suc (length groups) ≡ (k + 1) + length groups = omega arith in
    let rest = by_groups f (k + 1) groups insts (below_as (k + suc (length groups)) ((k + 1) + length groups) insts e all) in
    total-append f (items_of_group insts k) (items_from insts (k + 1) groups) ∙ (ap (λ (n : ℕ). total f (items_of_group insts k) + n) rest ∙ split f k insts)

from_first : (f : ItemInfo → ℕ) (insts : List InstInfo) → from_group f 0 insts ≡ total (λ inst. total f inst.items) insts
from_first f [] = refl
from_first f (inst ∷ insts) = let all : nat_le 0 inst.group ≡ true = grind arith in rw all (ap (λ (n : ℕ). total f inst.items + n) (from_first f insts))

pub total-numbered_items : (f : ItemInfo → ℕ) (groups : List GroupInfo) (insts : List InstInfo) → AllByRecursion (λ inst. inst.group < length groups) insts → total f (numbered_items groups insts) ≡ total (λ inst. total f inst.items) insts
total-numbered_items f groups insts all =
    let e : length groups ≡ 0 + length groups = omega arith in
    by_groups f 0 groups insts (below_as (length groups) (0 + length groups) insts e all) ∙ from_first f insts

-- ---- numbers change nothing else

from_same : (f : ItemInfo → ℕ) → ((item : ItemInfo) (n : ℕ) → f (record item { first_bin = n }) ≡ f item) → (loads : List Load) (i : ℕ) (insts : List InstInfo) → total (λ inst. total f inst.items) (numbered_from loads i insts) ≡ total (λ inst. total f inst.items) insts
from_same f same loads i [] = refl
from_same f same loads i (inst ∷ insts) = let h = from_same f same loads (i + 1) insts in let e = items_total f same (first_of loads i inst.group) inst.items in omega (arith, h, e)

groups_same : (n : ℕ) (loads : List Load) (i : ℕ) (insts : List InstInfo) → AllByRecursion (λ inst. inst.group < n) insts → AllByRecursion (λ inst. inst.group < n) (numbered_from loads i insts)
groups_same n loads i [] all = tt
groups_same n loads i (inst ∷ insts) all = (all.0, groups_same n loads (i + 1) insts all.1)

-- what numbered instances count over their items in the order of the numbers
pub total-numbered : (f : ItemInfo → ℕ) → ((item : ItemInfo) (n : ℕ) → f (record item { first_bin = n }) ≡ f item) → (groups : List GroupInfo) (insts : List InstInfo) → AllByRecursion (λ inst. inst.group < length groups) insts → total f (numbered_items groups (numbered insts)) ≡ total (λ inst. total f inst.items) insts
unfolding numbered
total-numbered f same groups insts all = total-numbered_items f groups (numbered_from _ 0 insts) (groups_same (length groups) _ 0 insts all) ∙ from_same f same _ 0 insts

-- how many instances and items there are
length-from : (loads : List Load) (i : ℕ) (insts : List InstInfo) → length (numbered_from loads i insts) ≡ length insts
length-from loads i [] = refl
length-from loads i (inst ∷ insts) = ap (λ (n : ℕ). suc n) (length-from loads (i + 1) insts)

pub length-numbered : (insts : List InstInfo) → length (numbered insts) ≡ length insts
unfolding numbered
length-numbered insts = length-from _ 0 insts

length-items : (n : ℕ) (items : List ItemInfo) → length (items_numbered n items) ≡ length items
length-items n [] = refl
length-items n (item ∷ items) = ap (λ (k : ℕ). suc k) (length-items (n + length item.bins) items)

items_in-from : (loads : List Load) (i : ℕ) (insts : List InstInfo) → total (λ inst. length inst.items) (numbered_from loads i insts) ≡ total (λ inst. length inst.items) insts
items_in-from loads i [] = refl
items_in-from loads i (inst ∷ insts) = let h = items_in-from loads (i + 1) insts in let e = length-items (first_of loads i inst.group) inst.items in omega (arith, h, e)

pub items_in-numbered : (insts : List InstInfo) → total (λ inst. length inst.items) (numbered insts) ≡ total (λ inst. length inst.items) insts
unfolding numbered
items_in-numbered insts = items_in-from _ 0 insts
