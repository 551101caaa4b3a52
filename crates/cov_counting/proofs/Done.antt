-- Counts that stand at their numbers stay there as further counts come behind them.
use Rattle.std.proofs.Common.{eq-eqb, ◌≡◌, ℕ, ◌+◌, ◌<◌, List, [], ◌∷◌, ◌++◌, length, get_or, take, drop, Some, Bool, true, cond, refl, ap, sym, subst, ◌∙◌, inl, inr, arith, length-append, append_assoc}
use Rattle.std.specs.Prelude.{slice_get, slice_index, filter, ◌==◌}
use Rattle.std.specs.List.{flat_map}
use Rattle.std.proofs.lemmas.Bool.{cases_lt, ne_eqb}
use Rattle.std.proofs.lemmas.List.{append-nil, get_or_append_left, get_or-append-add, drop_more, take_more}
use Rattle.std.proofs.lemmas.List.Concat.{flat_map-append}
use Rattle.std.proofs.lemmas.List.Elements.{filter-append}
use Rattle.std.proofs.lemmas.Option.{slice_get_within, slice_get_read, cond_some}
use Rattle.design_data.specs.declared.infos.ItemInfo.{ItemInfo}
use Rattle.design_data.specs.declared.infos.InstInfo.{InstInfo}
use Rattle.design_data.specs.declared.infos.GroupInfo.{GroupInfo}
use Rattle.design_data.specs.declared.infos.BinInfo.{BinInfo}
use Rattle.design_data.specs.Bins.{bins_in, items_of_group, items_from, IsNumberedFrom}
use Rattle.record_codec.specs.Samples.{Env}
use Rattle.cov_counting.specs.Tallies.{IsCount}
use Rattle.cov_counting.specs.Steps.{Extends, ItemDone, ItemsDone}

-- ---- more counts

pub extends_none : (a : List ℕ) → Extends a a 0
extends_none a = ([], sym (append-nil a), refl)

pub extends_more : (a b c : List ℕ) (n m : ℕ) → Extends a b n → Extends b c m → Extends a c (n + m)
extends_more a b c n m e f = (
  e.0 ++ f.0,
  f.1 ∙ ap (λ (x : List ℕ). x ++ f.0) e.1 ∙ simp append_assoc,
  length-append e.0 f.0 ∙ omega (arith, e.2, f.2),
)

pub length_more : (a b : List ℕ) (n : ℕ) → Extends a b n → length b ≡ length a + n
length_more a b n e = ap length e.1 ∙ length-append a e.0 ∙ omega (arith, e.2)

pub index_stays : (a b : List ℕ) (n k : ℕ) → Extends a b n → k < length a → slice_index b k ≡ slice_index a k
index_stays a b n k e lt = ap (λ (x : List ℕ). get_or x k 0) e.1 ∙ get_or_append_left a e.0 0 k lt

module _ (items : List ItemInfo) (item : ItemInfo) (all : List Env) (a b : List ℕ) (n : ℕ) where
  pub item_stays : ItemDone items item all a → Extends a b n → ItemDone items item all b
  item_stays h e = record {
    within = omega (arith, h.within, length_more a b n e);
    at = λ k bin is. subst (λ (c : ℕ). IsCount items item bin all c) (sym (index_stays a b n (item.first_bin + k) e (omega (arith, h.within, slice_get_within item.bins k bin is)))) (h.at k bin is);
  }

pub items_stay : (items : List ItemInfo) (all : List Env) (a b : List ℕ) (n : ℕ) → ItemsDone items all a → Extends a b n → ItemsDone items all b
items_stay items all a b n h e = λ k item is. item_stays items item all a b n (h k item is) e

-- ---- one bin, one item

-- the last of some counts
last_at : (a : List ℕ) (c n : ℕ) → n ≡ length a → slice_index (a ++ c ∷ []) n ≡ c
last_at a c n e = let z : n ≡ length a + 0 = omega (arith, e) in ap (λ (k : ℕ). get_or (a ++ c ∷ []) k 0) z ∙ get_or-append-add a (c ∷ []) 0 0

-- an element at an index is the one that was read there
pub same_at : {X : Type 0} (xs : List X) (k i : ℕ) (x y : X) → k ≡ i → i < length xs → y ≡ get_or xs i y → slice_get xs k ≡ Some x → x ≡ y
same_at xs k i x y e lt is at = (cond_some true x y (sym at ∙ ap (slice_get xs) e ∙ slice_get_read xs (length xs) i y refl lt is)).1

module _ (items : List ItemInfo) (item : ItemInfo) (all : List Env) where
  pub bin_next : (a b : List ℕ) (i : ℕ) (bin : BinInfo) (count : ℕ) → length a ≡ item.first_bin + i → b ≡ a ++ count ∷ [] → i < length item.bins → bin ≡ get_or item.bins i bin → IsCount items item bin all count
      → ((k : ℕ) (x : BinInfo) → k < i → slice_get item.bins k ≡ Some x → IsCount items item x all (slice_index a (item.first_bin + k)))
      → (k : ℕ) (x : BinInfo) → k < i + 1 → slice_get item.bins k ≡ Some x → IsCount items item x all (slice_index b (item.first_bin + k))
  bin_next a b i bin count len is lt at here old k x less e = elim (cases_lt k i) [
    | inl lower ↦ subst (λ (c : ℕ). IsCount items item x all c) (sym (index_stays a b 1 (item.first_bin + k) (count ∷ [], is, refl) (omega (arith, len, lower)))) (old k x lower e)
    | inr ge ↦
        let same : k ≡ i = omega (arith, ge, less) in
        let bin_is : x ≡ bin = same_at item.bins k i x bin same lt at e in
        let value : slice_index b (item.first_bin + k) ≡ count = ap (λ (ys : List ℕ). get_or ys (item.first_bin + k) 0) is ∙ last_at a count (item.first_bin + k) (omega (arith, len, same)) in
        subst (λ (c : ℕ). IsCount items item x all c) (sym value) (subst (λ (y : BinInfo). IsCount items item y all count) (sym bin_is) here)
  ]

pub item_next : (items : List ItemInfo) (all : List Env) (a b : List ℕ) (i n : ℕ) (item : ItemInfo) → Extends a b n → i < length items → item ≡ get_or items i item → ItemDone items item all b
    → ((k : ℕ) (x : ItemInfo) → k < i → slice_get items k ≡ Some x → ItemDone items x all a)
    → (k : ℕ) (x : ItemInfo) → k < i + 1 → slice_get items k ≡ Some x → ItemDone items x all b
item_next items all a b i n item ext lt at here old k x less e = elim (cases_lt k i) [
  | inl lower ↦ item_stays items x all a b n (old k x lower e) ext
  | inr ge ↦ subst (λ (y : ItemInfo). ItemDone items y all b) (sym (same_at items k i x item (omega (arith, ge, less)) lt at e)) here
]

-- ---- numbering

pub bins_in-append : (xs ys : List ItemInfo) → bins_in (xs ++ ys) ≡ bins_in xs + bins_in ys
bins_in-append [] ys = omega arith
bins_in-append (x ∷ xs) ys = omega (arith, bins_in-append xs ys)

pub numbered_front : (first : ℕ) (xs ys : List ItemInfo) → IsNumberedFrom first (xs ++ ys) → IsNumberedFrom first xs
numbered_front first [] ys h = tt
numbered_front first (x ∷ xs) ys h = (h.0, numbered_front (first + length x.bins) xs ys h.1)

pub numbered_back : (first : ℕ) (xs ys : List ItemInfo) → IsNumberedFrom first (xs ++ ys) → IsNumberedFrom (first + bins_in xs) ys
numbered_back first [] ys h = let e : first ≡ first + 0 = omega arith in subst (λ (n : ℕ). IsNumberedFrom n ys) e h
numbered_back first (x ∷ xs) ys h =
    let e : first + length x.bins + bins_in xs ≡ first + (length x.bins + bins_in xs) = omega arith in
    subst (λ (n : ℕ). IsNumberedFrom n ys) e (numbered_back (first + length x.bins) xs ys h.1)

pub bins_more : (items : List ItemInfo) (i : ℕ) (item : ItemInfo) → i < length items → item ≡ get_or items i item → bins_in (take (i + 1) items) ≡ bins_in (take i items) + length item.bins
bins_more items i item lt at = ap bins_in (take_more items i item lt) ∙ bins_in-append (take i items) (get_or items i item ∷ []) ∙ omega (arith, ap (λ (x : ItemInfo). length x.bins) at)

-- the first of the items from an index on, and the others
pub numbered_at : (first : ℕ) (items : List ItemInfo) (i : ℕ) (item : ItemInfo) → i < length items → item ≡ get_or items i item → IsNumberedFrom first (drop i items)
    → (item.first_bin ≡ first) × IsNumberedFrom (first + length item.bins) (drop (i + 1) items)
numbered_at first items i item lt at h =
    let e : drop i items ≡ item ∷ drop (i + 1) items = drop_more items i item lt ∙ ap (λ (x : ItemInfo). x ∷ drop (i + 1) items) (sym at) in
    let k : IsNumberedFrom first (item ∷ drop (i + 1) items) = subst (IsNumberedFrom first) e h in
    (k.0, k.1)

-- ---- groups

some_first : (groups : List GroupInfo) (g : ℕ) → g < length groups → (x : GroupInfo) × (drop g groups ≡ x ∷ drop (g + 1) groups)
some_first [] g lt = absurd (omega (arith, lt))
some_first (x ∷ groups) g lt = (get_or (x ∷ groups) g x, drop_more (x ∷ groups) g x lt)

pub group_then : (group : ℕ) (inst : InstInfo) (insts : List InstInfo) → inst.group ≡ group → items_of_group (inst ∷ insts) group ≡ inst.items ++ items_of_group insts group
group_then group inst insts e = ap (λ (b : Bool). flat_map (λ (i : InstInfo). i.items) (cond b (inst ∷ filter (λ i. i.group == group) insts) (filter (λ i. i.group == group) insts))) (eq-eqb inst.group group e)

pub group_else : (group : ℕ) (inst : InstInfo) (insts : List InstInfo) → (inst.group ≡ group → ⊥) → items_of_group (inst ∷ insts) group ≡ items_of_group insts group
group_else group inst insts e = ap (λ (b : Bool). flat_map (λ (i : InstInfo). i.items) (cond b (inst ∷ filter (λ i. i.group == group) insts) (filter (λ i. i.group == group) insts))) (ne_eqb inst.group group e)

group_append : (group : ℕ) (xs ys : List InstInfo) → items_of_group (xs ++ ys) group ≡ items_of_group xs group ++ items_of_group ys group
group_append group xs ys = ap (flat_map (λ (i : InstInfo). i.items)) (filter-append (λ (i : InstInfo). i.group == group) xs ys) ∙ flat_map-append (λ (i : InstInfo). i.items) (filter (λ i. i.group == group) xs) (filter (λ i. i.group == group) ys)

module _ (group : ℕ) (insts : List InstInfo) (i : ℕ) (inst : InstInfo) (lt : i < length insts) (at : inst ≡ get_or insts i inst) where
  from_here : drop i insts ≡ inst ∷ drop (i + 1) insts
  from_here = drop_more insts i inst lt ∙ ap (λ (x : InstInfo). x ∷ drop (i + 1) insts) (sym at)

  to_here : take (i + 1) insts ≡ take i insts ++ inst ∷ []
  to_here = take_more insts i inst lt ∙ ap (λ (x : InstInfo). take i insts ++ x ∷ []) (sym at)

  pub rest_then : inst.group ≡ group → items_of_group (drop i insts) group ≡ inst.items ++ items_of_group (drop (i + 1) insts) group
  rest_then e = ap (λ (xs : List InstInfo). items_of_group xs group) from_here ∙ group_then group inst (drop (i + 1) insts) e

  pub rest_else : (inst.group ≡ group → ⊥) → items_of_group (drop i insts) group ≡ items_of_group (drop (i + 1) insts) group
  rest_else e = ap (λ (xs : List InstInfo). items_of_group xs group) from_here ∙ group_else group inst (drop (i + 1) insts) e

  pub bins_then : inst.group ≡ group → bins_in (items_of_group (take (i + 1) insts) group) ≡ bins_in (items_of_group (take i insts) group) + bins_in inst.items
  bins_then e =
      ap bins_in (ap (λ (xs : List InstInfo). items_of_group xs group) to_here ∙ group_append group (take i insts) (inst ∷ []) ∙ ap (λ (ys : List ItemInfo). items_of_group (take i insts) group ++ ys) (group_then group inst [] e))
      ∙ bins_in-append (items_of_group (take i insts) group) (inst.items ++ []) ∙ ap (λ (xs : List ItemInfo). bins_in (items_of_group (take i insts) group) + bins_in xs) (append-nil inst.items)

  pub bins_else : (inst.group ≡ group → ⊥) → bins_in (items_of_group (take (i + 1) insts) group) ≡ bins_in (items_of_group (take i insts) group)
  bins_else e =
      ap bins_in (ap (λ (xs : List InstInfo). items_of_group xs group) to_here ∙ group_append group (take i insts) (inst ∷ []) ∙ ap (λ (ys : List ItemInfo). items_of_group (take i insts) group ++ ys) (group_else group inst [] e)
      ∙ append-nil (items_of_group (take i insts) group))

-- the items of the groups from an index on
pub groups_from : (insts : List InstInfo) (groups : List GroupInfo) (g : ℕ) → g < length groups → items_from insts g (drop g groups) ≡ items_of_group insts g ++ items_from insts (g + 1) (drop (g + 1) groups)
groups_from insts groups g lt = by (some_first groups g lt)
  where
    by : (x : GroupInfo) × (drop g groups ≡ x ∷ drop (g + 1) groups) → items_from insts g (drop g groups) ≡ items_of_group insts g ++ items_from insts (g + 1) (drop (g + 1) groups)
    by x = ap (items_from insts g) x.1
