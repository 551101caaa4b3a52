-- The numbers of a design are those of its bins, and a design and a record have one tally.
use Rattle.std.proofs.Common.{eq-eqb, ◌≡◌, ◌⊎◌, ℕ, zero, suc, ◌+◌, ◌-◌, ◌<◌, ◌≤◌, List, [], ◌∷◌, ◌++◌, length, Bool, true, false, cond, Some, refl, ap, sym, subst, ◌∙◌, inl, inr, arith}
use Rattle.std.specs.Prelude.{filter, slice_get, slice_index, ◌==◌}
use Rattle.std.specs.List.{flat_map, AllByRecursion}
use Rattle.std.proofs.lemmas.Bool.{cases_lt, false≢true}
use Rattle.std.proofs.lemmas.List.{ext_get_or}
use Rattle.std.proofs.lemmas.Option.{slice_get_within, cond_some}
use Rattle.cov_spec.proofs.Numbers.{number_is_one}
use Rattle.design_data.specs.declared.infos.ItemInfo.{ItemInfo}
use Rattle.design_data.specs.declared.infos.InstInfo.{InstInfo}
use Rattle.design_data.specs.declared.infos.GroupInfo.{GroupInfo}
use Rattle.design_data.specs.declared.infos.BinInfo.{BinInfo}
use Rattle.design_data.specs.declared.design.Design.{Design}
use Rattle.design_data.specs.Bins.{items_of_group, items_from, numbered_items, bins_in, IsNumberedFrom}
use Rattle.design_data.specs.Limits.{IsInstance}
use Rattle.record_codec.specs.declared.record.Record.{Record}
use Rattle.record_codec.specs.Samples.{samples_of}
use Rattle.cov_counting.specs.Tallies.{Hit, IsBin, IsTally}

-- ---- members

abbrev pub Member : {X : Type 0} → List X → X → Type 0
Member [] y = ⊥
Member (x ∷ xs) y = (x ≡ y) ⊎ Member xs y

module _ {X : Type 0} where
  pub from_append : (xs ys : List X) (y : X) → Member (xs ++ ys) y → Member xs y ⊎ Member ys y
  from_append [] ys y m = inr m
  from_append (x ∷ xs) ys y (inl e) = inl (inl e)
  from_append (x ∷ xs) ys y (inr m) = elim (from_append xs ys y m) [ inl a ↦ inl (inr a) | inr b ↦ inr b ]

  from_filter : (p : X → Bool) (xs : List X) (y : X) → Member (filter p xs) y → Member xs y
  from_filter p [] y m = m
  from_filter p (x ∷ xs) y m = by (p x) (from_filter p xs y) m
    where
      by : (b : Bool) → (Member (filter p xs) y → Member xs y) → Member (cond b (x ∷ filter p xs) (filter p xs)) y → Member (x ∷ xs) y
      by true rest (inl e) = inl e
      by true rest (inr m) = inr (rest m)
      by false rest m = inr (rest m)

  some_at : (xs : List X) (k : ℕ) → k < length xs → (x : X) × (slice_get xs k ≡ Some x)
  some_at [] k lt = absurd (omega (arith, lt))
  some_at (x ∷ xs) zero lt = (x, refl)
  some_at (x ∷ xs) (suc k) lt = some_at xs k (omega (arith, lt))

  place : (xs : List X) (y : X) → Member xs y → (k : ℕ) × (slice_get xs k ≡ Some y)
  place [] y m = absurd m
  place (x ∷ xs) y (inl e) = (zero, ap (λ (z : X). Some z) e)
  place (x ∷ xs) y (inr m) = let p : (k : ℕ) × (slice_get xs k ≡ Some y) = place xs y m in (suc p.0, p.1)

pub from_flat : {X Y : Type 0} (f : X → List Y) (xs : List X) (y : Y) → Member (flat_map f xs) y → (x : X) × Member xs x × Member (f x) y
from_flat f [] y m = absurd m
from_flat f (x ∷ xs) y m = elim (from_append (f x) (flat_map f xs) y m) [
  | inl here ↦ (x, inl refl, here)
  | inr later ↦ let r = from_flat f xs y later in (r.0, inr r.1, r.2)
]

-- ---- items of a design

in_group : (instances : List InstInfo) (group : ℕ) (item : ItemInfo) → Member (items_of_group instances group) item → (inst : InstInfo) × Member instances inst × Member inst.items item
in_group instances group item m =
    let r : (inst : InstInfo) × Member (filter (λ inst. inst.group == group) instances) inst × Member inst.items item = from_flat (λ (inst : InstInfo). inst.items) (filter (λ (inst : InstInfo). inst.group == group) instances) item m in
    (r.0, from_filter (λ (inst : InstInfo). inst.group == group) instances r.0 r.1, r.2)

in_groups : (instances : List InstInfo) (first : ℕ) (groups : List GroupInfo) (item : ItemInfo) → Member (items_from instances first groups) item → (inst : InstInfo) × Member instances inst × Member inst.items item
in_groups instances first [] item m = absurd m
in_groups instances first (group ∷ groups) item m = elim (from_append (items_of_group instances first) (items_from instances (first + 1) groups) item m) [
  | inl here ↦ in_group instances first item here
  | inr later ↦ in_groups instances (first + 1) groups item later
]

-- the item that has the bin of a number
holder : (first number : ℕ) (items : List ItemInfo) → IsNumberedFrom first items → first ≤ number → number < first + bins_in items
    → (item : ItemInfo) × Member items item × (k : ℕ) × (k < length item.bins) × (number ≡ item.first_bin + k)
holder first number [] h ge lt = absurd (omega (arith, ge, lt))
holder first number (item ∷ items) h ge lt = elim (cases_lt number (first + length item.bins)) [
  | inl here ↦ (item, inl refl, number - first, omega (arith, ge, here), omega (arith, h.0, ge))
  | inr later ↦ let r = holder (first + length item.bins) number items h.1 later (omega (arith, lt)) in (r.0, inr r.1, r.2, r.3, r.4)
]

pub bin_of : (d : Design) (number : ℕ) → number < d.bin_count → (instance : ℕ) × (inst : InstInfo) × (item : ItemInfo) × (bin : BinInfo) × IsBin d instance inst item bin number
bin_of d number lt =
    let r = holder 0 number (numbered_items d.groups d.instances) d.within.numbered (omega arith) (omega (arith, lt, d.within.count)) in
    let i = in_groups d.instances 0 d.groups r.0 r.1 in
    let p = place d.instances i.0 i.1 in
    let q = place i.0.items r.0 i.2 in
    let b = some_at r.0.bins r.2 r.3 in
    (p.0, i.0, r.0, b.0, record { is_instance = p.1; item_index = q.0; is_item = q.1; bin_index = r.2; is_bin = b.1; is_number = r.4 })

pub one : (d : Design) (r : Record) (a b : List ℕ) → IsTally d r a → IsTally d r b → a ≡ b
one d r a b h k = ext_get_or 0 a b (h.same ∙ sym k.same) (λ number lt.
    let x = bin_of d number (omega (arith, lt, h.same)) in
    number_is_one (Hit x.1.items x.2 x.3 (samples_of r x.0)) (length (samples_of r x.0)) (slice_index a number) (slice_index b number) (h.at x.0 x.1 x.2 x.3 number x.4) (k.at x.0 x.1 x.2 x.3 number x.4))

-- ---- each bin's number is one

module _ {X : Type 0} where
  pub in_append_left : (xs ys : List X) (y : X) → Member xs y → Member (xs ++ ys) y
  in_append_left [] ys y m = absurd m
  in_append_left (x ∷ xs) ys y (inl e) = inl e
  in_append_left (x ∷ xs) ys y (inr m) = inr (in_append_left xs ys y m)

  pub in_append_right : (xs ys : List X) (y : X) → Member ys y → Member (xs ++ ys) y
  in_append_right [] ys y m = m
  in_append_right (x ∷ xs) ys y m = inr (in_append_right xs ys y m)

  in_filter : (p : X → Bool) (xs : List X) (y : X) → p y ≡ true → Member xs y → Member (filter p xs) y
  in_filter p [] y e m = absurd m
  in_filter p (x ∷ xs) y e m = by (p x) refl (in_filter p xs y e) m
    where
      by : (b : Bool) → p x ≡ b → (Member xs y → Member (filter p xs) y) → Member (x ∷ xs) y → Member (cond b (x ∷ filter p xs) (filter p xs)) y
      by true is go (inl same) = inl same
      by true is go (inr rest) = inr (go rest)
      by false is go (inl same) = absurd (false≢true (sym is ∙ ap p same ∙ e))
      by false is go (inr rest) = go rest

  pub at_member : (xs : List X) (k : ℕ) (x : X) → slice_get xs k ≡ Some x → Member xs x
  at_member [] k x e = (cc)
  at_member (y ∷ xs) zero x e = inl (cond_some true y x e).1
  at_member (y ∷ xs) (suc k) x e = inr (at_member xs k x e)

pub in_flat : {X Y : Type 0} (f : X → List Y) (xs : List X) (x : X) (y : Y) → Member xs x → Member (f x) y → Member (flat_map f xs) y
in_flat f [] x y m n = absurd m
in_flat f (z ∷ xs) x y (inl e) n = in_append_left (f z) (flat_map f xs) y (subst (λ (w : _). Member (f w) y) (sym e) n)
in_flat f (z ∷ xs) x y (inr m) n = in_append_right (f z) (flat_map f xs) y (in_flat f xs x y m n)

-- what holds of each element holds of the one at an index
pub each_at : {X : Type 0} (P : X → Type 0) (xs : List X) (k : ℕ) (x : X) → AllByRecursion P xs → slice_get xs k ≡ Some x → P x
each_at P [] k x h e = (cc)
each_at P (y ∷ xs) zero x h e = subst P (cond_some true y x e).1 h.0
each_at P (y ∷ xs) (suc k) x h e = each_at P xs k x h.1 e

items_have : (instances : List InstInfo) (first : ℕ) (groups : List GroupInfo) (inst : InstInfo) (item : ItemInfo) → Member instances inst → Member inst.items item
    → first ≤ inst.group → inst.group < first + length groups → Member (items_from instances first groups) item
items_have instances first [] inst item m n le lt = absurd (omega (arith, le, lt))
items_have instances first (group ∷ groups) inst item m n le lt = elim (cases_lt first inst.group) [
  | inl more ↦ in_append_right (items_of_group instances first) (items_from instances (first + 1) groups) item (items_have instances (first + 1) groups inst item m n (omega (arith, more)) (omega (arith, lt)))
  | inr less ↦
      let same : inst.group ≡ first = omega (arith, le, less) in
      in_append_left (items_of_group instances first) (items_from instances (first + 1) groups) item
      (in_flat (λ (i : InstInfo). i.items) (filter (λ (i : InstInfo). i.group == first) instances) inst item
      (in_filter (λ (i : InstInfo). i.group == first) instances inst (ap (λ (g : ℕ). g == first) same ∙ eq-eqb first first refl) m) n)
]

item_below : (first : ℕ) (items : List ItemInfo) (item : ItemInfo) → IsNumberedFrom first items → Member items item → item.first_bin + length item.bins ≤ first + bins_in items
item_below first [] item h m = absurd m
item_below first (x ∷ items) item h (inl e) = omega (arith, h.0, ap (λ (i : ItemInfo). i.first_bin + length i.bins) e)
item_below first (x ∷ items) item h (inr m) = omega (arith, item_below (first + length x.bins) items item h.1 m)

pub bin_below : (d : Design) (instance : ℕ) (inst : InstInfo) (item : ItemInfo) (bin : BinInfo) (number : ℕ) → IsBin d instance inst item bin number → number < d.bin_count
bin_below d instance inst item bin number b =
    let valid = each_at (IsInstance (length d.groups)) d.instances instance inst d.within.each b.is_instance in
    let listed = items_have d.instances 0 d.groups inst item (at_member d.instances instance inst b.is_instance) (at_member inst.items b.item_index item b.is_item) (omega arith) (omega (arith, valid.group)) in
    let below = item_below 0 (numbered_items d.groups d.instances) item d.within.numbered listed in
    let some = slice_get_within item.bins b.bin_index bin b.is_bin in
    omega (arith, below, some, b.is_number, d.within.count)
