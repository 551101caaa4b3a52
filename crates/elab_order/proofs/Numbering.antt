-- Numbered instances have their bins in the order of the nodes, without a gap.
use Rattle.std.proofs.Common.{◌≡◌, ◌∙◌, ℕ, suc, ◌+◌, List, [], ◌∷◌, ◌++◌, length, map, drop, refl, sym, subst, ap, Bool, true, false, cond, arith, add-one}
use Rattle.std.specs.Prelude.{◌==◌, nat_lt, if◌then◌else◌}
use Rattle.design_data.specs.declared.infos.GroupInfo.{GroupInfo}
use Rattle.design_data.specs.declared.infos.InstInfo.{InstInfo}
use Rattle.design_data.specs.declared.infos.ItemInfo.{ItemInfo}
use Rattle.design_data.specs.Bins.{items_of_group, items_from, numbered_items, bins_in, total, IsNumberedFrom}
use Rattle.elab_order.specs.declared.numbers.Load.{Load}
use Rattle.elab_order.specs.Order.{items_numbered, load_of, bins_where, first_of, numbered_from, numbered}
use Rattle.elab_order.proofs.Steps.{suc_more, drop_next}

pub total-append : {X : Type 0} (f : X → ℕ) (xs ys : List X) → total f (xs ++ ys) ≡ total f xs + total f ys
total-append f [] ys = omega arith
total-append f (x ∷ xs) ys = let h = total-append f xs ys in omega (arith, h)

items_numbered-append : (n : ℕ) (xs ys : List ItemInfo) → items_numbered n (xs ++ ys) ≡ items_numbered n xs ++ items_numbered (n + bins_in xs) ys
items_numbered-append n [] ys = ap (λ (k : ℕ). items_numbered k ys) (omega arith)
items_numbered-append n (x ∷ xs) ys = ap (λ (r : List ItemInfo). record x { first_bin = n } ∷ r) (items_numbered-append (n + length x.bins) xs ys ∙ ap (λ (k : ℕ). items_numbered (n + length x.bins) xs ++ items_numbered k ys) (omega arith))

numbered_is : (n : ℕ) (xs : List ItemInfo) → IsNumberedFrom n (items_numbered n xs)
numbered_is n [] = tt
numbered_is n (x ∷ xs) = (refl, numbered_is (n + length x.bins) xs)

-- numbers change nothing else
pub total-numbered : (f : ItemInfo → ℕ) → ((item : ItemInfo) (n : ℕ) → f (record item { first_bin = n }) ≡ f item) → (n : ℕ) (xs : List ItemInfo) → total f (items_numbered n xs) ≡ total f xs
total-numbered f same n [] = refl
total-numbered f same n (x ∷ xs) = let h = total-numbered f same (n + length x.bins) xs in let e = same x n in omega (arith, h, e)

bins_in-numbered : (n : ℕ) (xs : List ItemInfo) → bins_in (items_numbered n xs) ≡ bins_in xs
bins_in-numbered n xs = total-numbered (λ item. length item.bins) (λ item k. refl) n xs

IsNumbered-append : (n : ℕ) (xs ys : List ItemInfo) → IsNumberedFrom n xs → IsNumberedFrom (n + bins_in xs) ys → IsNumberedFrom n (xs ++ ys)
IsNumbered-append n [] ys h g = let e : n + 0 ≡ n = omega arith in subst (λ (k : ℕ). IsNumberedFrom k ys) e g
IsNumbered-append n (x ∷ xs) ys h g = let e : n + (length x.bins + bins_in xs) ≡ (n + length x.bins) + bins_in xs = omega arith in (h.0, IsNumbered-append (n + length x.bins) xs ys h.1 (subst (λ (k : ℕ). IsNumberedFrom k ys) e g))

-- ---- one group

first_more : (loads : List Load) (i group : ℕ) (load : Load) (rest : List Load) → drop i loads ≡ load ∷ rest → first_of loads (suc i) group ≡ first_of loads i group + (if load.group == group then load.bins else 0)
first_more loads i group load rest e =
    let h = suc_more (λ (l : Load). if l.group == group then l.bins else 0) loads i load rest e in
    omega (arith, h)

-- the group's own items are numbered one behind the other
own_step : (loads : List Load) (i group : ℕ) (inst : InstInfo) (insts : List InstInfo) (b : Bool) → (inst.group == group) ≡ b → drop i loads ≡ load_of inst ∷ map load_of insts
    → items_of_group (numbered_from loads (i + 1) insts) group ≡ items_numbered (first_of loads (suc i) group) (items_of_group insts group)
    → items_of_group (numbered_from loads i (inst ∷ insts)) group ≡ items_numbered (first_of loads i group) (items_of_group (inst ∷ insts) group)
own_step loads i group inst insts true b e rest =
    let same : inst.group ≡ group = grind (arith, b) in
    let counts : (if inst.group == group then bins_in inst.items else 0) ≡ bins_in inst.items = rw b refl in
    let more : first_of loads (suc i) group ≡ first_of loads i group + bins_in inst.items = first_more loads i group (load_of inst) (map load_of insts) e ∙ ap (λ (k : ℕ). first_of loads i group + k) counts in
    rw b (ap (λ (g : ℕ). items_numbered (first_of loads i g) inst.items ++ items_of_group (numbered_from loads (i + 1) insts) group) same
    ∙ (ap (λ (r : List ItemInfo). items_numbered (first_of loads i group) inst.items ++ r) (rest ∙ ap (λ (n : ℕ). items_numbered n (items_of_group insts group)) more)
    ∙ sym (items_numbered-append (first_of loads i group) inst.items (items_of_group insts group))))
own_step loads i group inst insts false b e rest =
    let counts : (if inst.group == group then bins_in inst.items else 0) ≡ 0 = rw b refl in
    let more : first_of loads (suc i) group ≡ first_of loads i group + 0 = first_more loads i group (load_of inst) (map load_of insts) e ∙ ap (λ (k : ℕ). first_of loads i group + k) counts in
    let none : first_of loads (suc i) group ≡ first_of loads i group = omega (arith, more) in
    rw b (rest ∙ ap (λ (n : ℕ). items_numbered n (items_of_group insts group)) none)

own : (loads : List Load) (i group : ℕ) (insts : List InstInfo) → drop i loads ≡ map load_of insts → items_of_group (numbered_from loads i insts) group ≡ items_numbered (first_of loads i group) (items_of_group insts group)
own loads i group [] e = refl
own loads i group (inst ∷ insts) e =
    let one : suc i ≡ i + 1 = sym (add-one i) in
    let next : drop (i + 1) loads ≡ map load_of insts = subst (λ (k : ℕ). drop k loads ≡ map load_of insts) one (drop_next i loads (load_of inst) (map load_of insts) e) in
    let rest = own loads (i + 1) group insts next in
    own_step loads i group inst insts (inst.group == group) refl e (rest ∙ ap (λ (k : ℕ). items_numbered (first_of loads k group) (items_of_group insts group)) (sym one))

-- ---- all groups

below_step : (k g b x y z : ℕ) (p q r : Bool) → nat_lt k (g + 1) ≡ p → nat_lt k g ≡ q → (k == g) ≡ r → x ≡ y + z → cond p b 0 + x ≡ (cond q b 0 + y) + (cond r b 0 + z)
below_step k g b x y z true true true e f h i = absurd (grind (arith, f, h))
below_step k g b x y z true true false e f h i = omega (arith, i)
below_step k g b x y z true false true e f h i = omega (arith, i)
below_step k g b x y z true false false e f h i = absurd (grind (arith, e, f, h))
below_step k g b x y z false true r e f h i = absurd (grind (arith, e, f))
below_step k g b x y z false false true e f h i = absurd (grind (arith, e, h))
below_step k g b x y z false false false e f h i = omega (arith, i)

below_more : (g : ℕ) (loads : List Load) → bins_where (λ h. nat_lt h (g + 1)) loads ≡ bins_where (λ h. nat_lt h g) loads + bins_where (λ h. h == g) loads
below_more g [] = refl
below_more g (x ∷ xs) = below_step x.group g x.bins (bins_where (λ h. nat_lt h (g + 1)) xs) (bins_where (λ h. nat_lt h g) xs) (bins_where (λ h. h == g) xs) (nat_lt x.group (g + 1)) (nat_lt x.group g) (x.group == g) refl refl refl (below_more g xs)

group_step : (g : ℕ) (inst : InstInfo) (insts : List InstInfo) (b : Bool) → (inst.group == g) ≡ b → bins_where (λ h. h == g) (map load_of insts) ≡ bins_in (items_of_group insts g) → bins_where (λ h. h == g) (map load_of (inst ∷ insts)) ≡ bins_in (items_of_group (inst ∷ insts) g)
group_step g inst insts true e h = rw e (ap (λ (k : ℕ). bins_in inst.items + k) h ∙ sym (total-append (λ (item : ItemInfo). length item.bins) inst.items (items_of_group insts g)))
group_step g inst insts false e h = rw e (omega (arith, h))

group_bins : (g : ℕ) (insts : List InstInfo) → bins_where (λ h. h == g) (map load_of insts) ≡ bins_in (items_of_group insts g)
group_bins g [] = refl
group_bins g (inst ∷ insts) = group_step g inst insts (inst.group == g) refl (group_bins g insts)

from_is : (k : ℕ) (groups : List GroupInfo) (insts : List InstInfo) → IsNumberedFrom (bins_where (λ h. nat_lt h k) (map load_of insts)) (items_from (numbered_from (map load_of insts) 0 insts) k groups)
from_is k [] insts = tt
from_is k (g ∷ groups) insts =
    let loads = map load_of insts in
    let all = numbered_from loads 0 insts in
    let below = bins_where (λ h. nat_lt h k) loads in
    let mine = items_of_group insts k in
    let first : first_of loads 0 k ≡ below = omega arith in
    let e : items_of_group all k ≡ items_numbered below mine = own loads 0 k insts refl ∙ ap (λ (n : ℕ). items_numbered n mine) first in
    let count : bins_in (items_of_group all k) ≡ bins_in mine = ap bins_in e ∙ bins_in-numbered below mine in
    let next : bins_where (λ h. nat_lt h (k + 1)) loads ≡ below + bins_in (items_of_group all k) = below_more k loads ∙ ap (λ (n : ℕ). below + n) (group_bins k insts ∙ sym count) in
    IsNumbered-append below (items_of_group all k) (items_from all (k + 1) groups)
    (subst (λ (xs : List ItemInfo). IsNumberedFrom below xs) (sym e) (numbered_is below mine))
    (subst (λ (n : ℕ). IsNumberedFrom n (items_from all (k + 1) groups)) next (from_is (k + 1) groups insts))

none_below : (loads : List Load) → bins_where (λ h. nat_lt h 0) loads ≡ 0
none_below [] = refl
none_below (x ∷ xs) = let none : nat_lt x.group 0 ≡ false = grind arith in let h = none_below xs in rw none (omega (arith, h))

pub numbered_is_numbered : (groups : List GroupInfo) (insts : List InstInfo) → IsNumberedFrom 0 (numbered_items groups (numbered insts))
unfolding numbered
numbered_is_numbered groups insts = subst (λ (n : ℕ). IsNumberedFrom n (items_from (numbered_from (map load_of insts) 0 insts) 0 groups)) (none_below (map load_of insts)) (from_is 0 groups insts)
