-- Sums that are cut at the greatest number of 64 bits, and numbers of bins.
use Rattle.std.proofs.Common.{◌≡◌, ℕ, ◌+◌, ◌-◌, ◌^◌, ◌<◌, ◌≤◌, min, zero, suc, Bool, true, false, cond, eqb, List, [], ◌∷◌, ◌++◌, length, get_or, take, drop, Some, None, refl, ap, sym, subst, ◌∙◌, arith, append_assoc}
use Rattle.std.specs.Prelude.{filter}
use Rattle.std.specs.List.{flat_map}
use Rattle.std.proofs.lemmas.Bool.{eqb-true}
use Rattle.std.proofs.lemmas.Bool.Decides.{Decides-eqb}
use Rattle.std.proofs.lemmas.List.{take_more, take_all, append-nil, take-append-drop, drop_more}
use Rattle.design_data.specs.declared.infos.ItemInfo.{ItemInfo}
use Rattle.design_data.specs.declared.infos.InstInfo.{InstInfo}
use Rattle.design_data.specs.declared.infos.GroupInfo.{GroupInfo}
use Rattle.design_data.specs.Bins.{total, bins_in, items_of_group, items_from, IsNumberedFrom}
use Rattle.design_data.specs.Tested.{EndsAt}

pub total_append : {X : Type 0} (f : X → ℕ) (xs ys : List X) → total f (xs ++ ys) ≡ total f xs + total f ys
total_append f [] ys = omega arith
total_append f (x ∷ xs) ys = omega (arith, total_append f xs ys)

pub total_more : {X : Type 0} (f : X → ℕ) (xs : List X) (i : ℕ) (d : X) → i < length xs → total f (take (i + 1) xs) ≡ total f (take i xs) + f (get_or xs i d)
total_more f xs i d lt =
    let both = total_append f (take i xs) (get_or xs i d ∷ []) in
    let one : total f (get_or xs i d ∷ []) ≡ f (get_or xs i d) = omega arith in
    ap (total f) (take_more xs i d lt) ∙ omega (arith, both, one)

abbrev pub cut : ℕ → ℕ
cut n = min n (2 ^ 64 - 1)

pub cut_sum : (a b s t : ℕ) → s ≡ cut a → t ≡ cut b → cut (s + t) ≡ cut (a + b)
cut_sum a b s t p q = omega (arith, p, q)

module _ {X : Type 0} (f : X → ℕ) (xs : List X) where
  pub sum_more : (i : ℕ) (d : X) (s t : ℕ) → i < length xs → s ≡ cut (total f (take i xs)) → t ≡ cut (f (get_or xs i d)) → cut (s + t) ≡ cut (total f (take (i + 1) xs))
  sum_more i d s t lt p q = cut_sum (total f (take i xs)) (f (get_or xs i d)) s t p q ∙ ap cut (sym (total_more f xs i d lt))

  pub sum_done : (i s : ℕ) → length xs ≤ i → s ≡ cut (total f (take i xs)) → s ≡ cut (total f xs)
  sum_done i s le p = p ∙ ap (λ (l : List X). cut (total f l)) (take_all i xs le)

-- ---- groups

abbrev one : Bool → InstInfo → List ItemInfo → List ItemInfo
one true x items = x.items ++ items
one false x items = items

abbrev wanted : ℕ → InstInfo → Bool
wanted group inst = eqb inst.group group

abbrev those : List InstInfo → List ItemInfo
those insts = flat_map (λ (inst : InstInfo). inst.items) insts

flat_cond : (b : Bool) (x : InstInfo) (l : List InstInfo) → those (cond b (x ∷ l) l) ≡ one b x (those l)
flat_cond true x l = refl
flat_cond false x l = refl

one_append : (b : Bool) (x : InstInfo) (p q : List ItemInfo) → one b x (p ++ q) ≡ one b x p ++ q
one_append true x p q = sym (append_assoc x.items p q)
one_append false x p q = refl

group_cons : (x : InstInfo) (xs : List InstInfo) (group : ℕ) → items_of_group (x ∷ xs) group ≡ one (wanted group x) x (items_of_group xs group)
group_cons x xs group = flat_cond (wanted group x) x (filter (wanted group) xs)

of_group_append : (xs ys : List InstInfo) (group : ℕ) → items_of_group (xs ++ ys) group ≡ items_of_group xs group ++ items_of_group ys group
of_group_append [] ys group = refl
of_group_append (x ∷ xs) ys group =
    group_cons x (xs ++ ys) group ∙ ap (one (wanted group x) x) (of_group_append xs ys group)
    ∙ one_append (wanted group x) x (items_of_group xs group) (items_of_group ys group)
    ∙ ap (λ (l : List ItemInfo). l ++ items_of_group ys group) (sym (group_cons x xs group))

pub of_group_more : (xs : List InstInfo) (group i : ℕ) (x : InstInfo) → i < length xs → x ≡ get_or xs i x → items_of_group (take (i + 1) xs) group ≡ items_of_group (take i xs) group ++ items_of_group (x ∷ []) group
of_group_more xs group i x lt at =
    ap (λ (l : List InstInfo). items_of_group l group) (take_more xs i x lt) ∙ of_group_append (take i xs) (get_or xs i x ∷ []) group
    ∙ ap (λ (y : InstInfo). items_of_group (take i xs) group ++ items_of_group (y ∷ []) group) (sym at)

-- an instance that is one of the group, or isn't
pub in_group : (x : InstInfo) (group : ℕ) → x.group ≡ group → items_of_group (x ∷ []) group ≡ x.items
in_group x group e = group_cons x [] group ∙ ap (λ (b : Bool). one b x []) ((Decides-eqb x.group group).1 e) ∙ append-nil x.items

pub out_of_group : (x : InstInfo) (group : ℕ) → (x.group ≡ group → ⊥) → items_of_group (x ∷ []) group ≡ []
out_of_group x group n = group_cons x [] group ∙ ap (λ (b : Bool). one b x []) (by (wanted group x) refl)
  where
    by : (b : Bool) → wanted group x ≡ b → wanted group x ≡ false
    by true e = absurd (n (eqb-true x.group group e))
    by false e = e

from_at : (insts : List InstInfo) (first : ℕ) (gs : List GroupInfo) (k : ℕ) → k < length gs → items_from insts first (take (k + 1) gs) ≡ items_from insts first (take k gs) ++ items_of_group insts (first + k)
from_at insts first [] k lt = absurd (omega (arith, lt))
from_at insts first (g ∷ gs) zero lt = let e : first ≡ first + 0 = omega arith in append-nil (items_of_group insts first) ∙ ap (items_of_group insts) e
from_at insts first (g ∷ gs) (suc k) lt =
    let e : first + 1 + k ≡ first + suc k = omega arith in
    let n : suc k + 1 ≡ suc (k + 1) = omega arith in
    ap (λ (m : ℕ). items_from insts first (take m (g ∷ gs))) n
    ∙ ap (λ (l : List ItemInfo). items_of_group insts first ++ l) (from_at insts (first + 1) gs k (omega (arith, lt)))
    ∙ sym (append_assoc (items_of_group insts first) (items_from insts (first + 1) (take k gs)) (items_of_group insts (first + 1 + k)))
    ∙ ap (λ (m : ℕ). (items_of_group insts first ++ items_from insts (first + 1) (take k gs)) ++ items_of_group insts m) e

-- the items of one group more
pub from_more : (insts : List InstInfo) (groups : List GroupInfo) (k : ℕ) → k < length groups → items_from insts 0 (take (k + 1) groups) ≡ items_from insts 0 (take k groups) ++ items_of_group insts k
from_more insts groups k lt = from_at insts 0 groups k lt ∙ (let e : 0 + k ≡ k = omega arith in ap (λ (n : ℕ). items_from insts 0 (take k groups) ++ items_of_group insts n) e)

from_front : (insts : List InstInfo) (first : ℕ) (gs : List GroupInfo) (k : ℕ) → (rest : List ItemInfo) × (items_from insts first gs ≡ items_from insts first (take k gs) ++ rest)
from_front insts first gs zero = (items_from insts first gs, refl)
from_front insts first [] (suc k) = ([], refl)
from_front insts first (g ∷ gs) (suc k) =
    let r = from_front insts (first + 1) gs k in
    (r.0, ap (λ (l : List ItemInfo). items_of_group insts first ++ l) r.1 ∙ sym (append_assoc (items_of_group insts first) (items_from insts (first + 1) (take k gs)) r.0))

-- ---- numbers

numbered_both : (first : ℕ) (xs ys : List ItemInfo) → IsNumberedFrom first xs → IsNumberedFrom (first + bins_in xs) ys → IsNumberedFrom first (xs ++ ys)
numbered_both first [] ys p q = let e : first + 0 ≡ first = omega arith in subst (λ (n : ℕ). IsNumberedFrom n ys) e q
numbered_both first (x ∷ xs) ys p q =
    let e : first + (length x.bins + bins_in xs) ≡ first + length x.bins + bins_in xs = omega arith in
    (p.0, numbered_both (first + length x.bins) xs ys p.1 (subst (λ (n : ℕ). IsNumberedFrom n ys) e q))

numbered_back : (first : ℕ) (xs ys : List ItemInfo) → IsNumberedFrom first (xs ++ ys) → IsNumberedFrom (first + bins_in xs) ys
numbered_back first [] ys h = let e : first ≡ first + 0 = omega arith in subst (λ (n : ℕ). IsNumberedFrom n ys) e h
numbered_back first (x ∷ xs) ys h =
    let e : first + length x.bins + bins_in xs ≡ first + (length x.bins + bins_in xs) = omega arith in
    subst (λ (n : ℕ). IsNumberedFrom n ys) e (numbered_back (first + length x.bins) xs ys h.1)

-- more items behind those that end at a number
pub ends_more : (first end next : ℕ) (xs ys all : List ItemInfo) → all ≡ xs ++ ys → EndsAt first xs (Some end) → EndsAt end ys (Some next) → EndsAt first all (Some next)
ends_more first end next xs ys all at p q =
    subst (λ (l : List ItemInfo). EndsAt first l (Some next)) (sym at)
    (numbered_both first xs ys p.0 (subst (λ (n : ℕ). IsNumberedFrom n ys) p.1 q.0), omega (arith, p.1, q.1, total_append (λ (item : ItemInfo). length item.bins) xs ys))

pub ends_not : (first end : ℕ) (xs ys all : List ItemInfo) → all ≡ xs ++ ys → EndsAt first xs (Some end) → EndsAt end ys None → IsNumberedFrom first all → ⊥
ends_not first end xs ys all at p q h = q (subst (λ (n : ℕ). IsNumberedFrom n ys) (sym p.1) (numbered_back first xs ys (subst (IsNumberedFrom first) at h)))

-- the front of a numbered list is numbered
pub numbered_front : (first : ℕ) (xs ys : List ItemInfo) → IsNumberedFrom first (xs ++ ys) → IsNumberedFrom first xs
numbered_front first [] ys h = tt
numbered_front first (x ∷ xs) ys h = (h.0, numbered_front (first + length x.bins) xs ys h.1)

-- ---- as loops go on

pub item_more : (first end i : ℕ) (items : List ItemInfo) (x : ItemInfo) → i < length items → x ≡ get_or items i x → x.first_bin ≡ end → EndsAt first (take i items) (Some end) → EndsAt first (take (i + 1) items) (Some (end + length x.bins))
item_more first end i items x lt at e p =
    let own : EndsAt end (x ∷ []) (Some (end + length x.bins)) = ((e, tt), omega arith) in
    ends_more first end (end + length x.bins) (take i items) (x ∷ []) (take (i + 1) items) (take_more items i x lt ∙ ap (λ (y : ItemInfo). take i items ++ y ∷ []) (sym at)) p own

pub item_not : (first end i : ℕ) (items : List ItemInfo) (x : ItemInfo) → i < length items → x ≡ get_or items i x → (x.first_bin ≡ end → ⊥) → EndsAt first (take i items) (Some end) → IsNumberedFrom first items → ⊥
item_not first end i items x lt at n p h =
    let back = numbered_back first (take i items) (drop i items) (subst (IsNumberedFrom first) (sym (take-append-drop i items)) h) in
    let here = subst (IsNumberedFrom (first + bins_in (take i items))) (drop_more items i x lt) back in
    n (ap (λ (y : ItemInfo). y.first_bin) at ∙ here.0 ∙ sym p.1)

pub group_more : (first end next i group : ℕ) (insts : List InstInfo) (x : InstInfo) → i < length insts → x ≡ get_or insts i x → EndsAt first (items_of_group (take i insts) group) (Some end) → EndsAt end (items_of_group (x ∷ []) group) (Some next) → EndsAt first (items_of_group (take (i + 1) insts) group) (Some next)
group_more first end next i group insts x lt at p q = ends_more first end next (items_of_group (take i insts) group) (items_of_group (x ∷ []) group) (items_of_group (take (i + 1) insts) group) (of_group_more insts group i x lt at) p q

pub group_not : (first end i group : ℕ) (insts : List InstInfo) (x : InstInfo) → i < length insts → x ≡ get_or insts i x → EndsAt first (items_of_group (take i insts) group) (Some end) → EndsAt end (items_of_group (x ∷ []) group) None → IsNumberedFrom first (items_of_group insts group) → ⊥
group_not first end i group insts x lt at p q h =
    let parts : items_of_group insts group ≡ items_of_group (take (i + 1) insts) group ++ items_of_group (drop (i + 1) insts) group =
    ap (λ (l : List InstInfo). items_of_group l group) (sym (take-append-drop (i + 1) insts)) ∙ of_group_append (take (i + 1) insts) (drop (i + 1) insts) group in
    let front = numbered_front first (items_of_group (take (i + 1) insts) group) (items_of_group (drop (i + 1) insts) group) (subst (IsNumberedFrom first) parts h) in
    ends_not first end (items_of_group (take i insts) group) (items_of_group (x ∷ []) group) (items_of_group (take (i + 1) insts) group) (of_group_more insts group i x lt at) p q front

pub groups_more : (end next k : ℕ) (insts : List InstInfo) (groups : List GroupInfo) → k < length groups → EndsAt 0 (items_from insts 0 (take k groups)) (Some end) → EndsAt end (items_of_group insts k) (Some next) → EndsAt 0 (items_from insts 0 (take (k + 1) groups)) (Some next)
groups_more end next k insts groups lt p q = ends_more 0 end next (items_from insts 0 (take k groups)) (items_of_group insts k) (items_from insts 0 (take (k + 1) groups)) (from_more insts groups k lt) p q

pub groups_not : (end k : ℕ) (insts : List InstInfo) (groups : List GroupInfo) → k < length groups → EndsAt 0 (items_from insts 0 (take k groups)) (Some end) → EndsAt end (items_of_group insts k) None → IsNumberedFrom 0 (items_from insts 0 groups) → ⊥
groups_not end k insts groups lt p q h =
    let r = from_front insts 0 groups (k + 1) in
    ends_not 0 end (items_from insts 0 (take k groups)) (items_of_group insts k) (items_from insts 0 (take (k + 1) groups)) (from_more insts groups k lt) p q (numbered_front 0 (items_from insts 0 (take (k + 1) groups)) r.0 (subst (IsNumberedFrom 0) r.1 h))

module _ (f : ItemInfo → ℕ) where
  pub group_sum_more : (i group s t : ℕ) (insts : List InstInfo) (x : InstInfo) → i < length insts → x ≡ get_or insts i x → s ≡ cut (total f (items_of_group (take i insts) group)) → t ≡ cut (total f (items_of_group (x ∷ []) group)) → cut (s + t) ≡ cut (total f (items_of_group (take (i + 1) insts) group))
  group_sum_more i group s t insts x lt at p q =
      cut_sum (total f (items_of_group (take i insts) group)) (total f (items_of_group (x ∷ []) group)) s t p q
      ∙ ap cut (sym (ap (total f) (of_group_more insts group i x lt at) ∙ total_append f (items_of_group (take i insts) group) (items_of_group (x ∷ []) group)))

  pub groups_sum_more : (k s t : ℕ) (insts : List InstInfo) (groups : List GroupInfo) → k < length groups → s ≡ cut (total f (items_from insts 0 (take k groups))) → t ≡ cut (total f (items_of_group insts k)) → cut (s + t) ≡ cut (total f (items_from insts 0 (take (k + 1) groups)))
  groups_sum_more k s t insts groups lt p q =
      cut_sum (total f (items_from insts 0 (take k groups))) (total f (items_of_group insts k)) s t p q
      ∙ ap cut (sym (ap (total f) (from_more insts groups k lt) ∙ total_append f (items_from insts 0 (take k groups)) (items_of_group insts k)))
