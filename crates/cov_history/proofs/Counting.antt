-- The counts of all bins are the tally.
use Rattle.std.proofs.Common.{◌≡◌, ℕ, zero, suc, ◌+◌, ◌-◌, ◌<◌, ◌≤◌, List, [], ◌∷◌, ◌++◌, length, map, get_or, true, false, refl, sym, ap, subst, ◌∙◌, inl, inr, arith, length-append, eq-eqb}
use Rattle.std.specs.Prelude.{Some, slice_get, ◌==◌, filter}
use Rattle.std.specs.List.{flat_map}
use Rattle.std.proofs.lemmas.Bool.{cases_lt}
use Rattle.std.proofs.lemmas.List.{get_or_append_left, get_or-append-add, length-map}
use Rattle.std.proofs.lemmas.Option.{cond_some, slice_get_within}
use Rattle.design_data.specs.declared.infos.ItemInfo.{ItemInfo}
use Rattle.design_data.specs.declared.infos.InstInfo.{InstInfo}
use Rattle.design_data.specs.declared.infos.GroupInfo.{GroupInfo}
use Rattle.design_data.specs.declared.infos.BinInfo.{BinInfo}
use Rattle.design_data.specs.declared.design.Design.{Design}
use Rattle.design_data.specs.Bins.{bins_in, items_of_group, items_from, IsNumberedFrom}
use Rattle.design_data.specs.Limits.{IsInstance}
use Rattle.record_codec.specs.declared.record.Record.{Record}
use Rattle.record_codec.specs.Samples.{samples_of}
use Rattle.cov_counting.specs.Tallies.{IsCount, IsTally}
use Rattle.cov_counting.proofs.Bins.{Member, each_at, at_member, in_flat, in_append_left, in_append_right, one}
use Rattle.cov_counting.proofs.Done.{numbered_front, numbered_back}
use Rattle.cov_history.specs.Tallies.{count, instance_counts, group_counts, counts_from, tally}
use Rattle.cov_history.specs.Laws.{TallyIs}
use Rattle.cov_history.proofs.Bools.{by_bool}
use Rattle.cov_history.proofs.Hits.{count_is}

-- ---- an element by its place

head_is : {X : Type 0} (x y : X) (xs : List X) → slice_get (x ∷ xs) 0 ≡ Some y → x ≡ y
head_is x y xs e = (cond_some true x y e).1

none_at : {X : Type 0} (xs : List X) (k : ℕ) (y : X) → xs ≡ [] → slice_get xs k ≡ Some y → ⊥
none_at [] k y n e = (cc)
none_at (x ∷ xs) k y n e = omega (arith, ap (λ (zs : List _). length zs) n)

none_there : {X : Type 0} (k : ℕ) (y : X) → slice_get [] k ≡ Some y → ⊥
none_there k y e = none_at [] k y refl e

map_at : {X : Type 0} (f : X → ℕ) (xs : List X) (k : ℕ) (x : X) → slice_get xs k ≡ Some x → get_or (map f xs) k 0 ≡ f x
map_at f [] k x e = absurd (none_there k x e)
map_at f (y ∷ xs) zero x e = ap f (head_is y x xs e)
map_at f (y ∷ xs) (suc k) x e = map_at f xs k x e

-- ---- numbers

least : (low : ℕ) (items : List ItemInfo) (item : ItemInfo) → IsNumberedFrom low items → Member items item → low ≤ item.first_bin
least low [] item n m = absurd m
least low (x ∷ items) item n (inl e) = omega (arith, n.0, ap (λ (i : ItemInfo). i.first_bin) e)
least low (x ∷ items) item n (inr m) = omega (arith, least (low + length x.bins) items item n.1 m)

within : (low : ℕ) (items : List ItemInfo) (item : ItemInfo) → IsNumberedFrom low items → Member items item → item.first_bin + length item.bins ≤ low + bins_in items
within low [] item n m = absurd m
within low (x ∷ items) item n (inl e) = omega (arith, n.0, ap (λ (i : ItemInfo). i.first_bin + length i.bins) e)
within low (x ∷ items) item n (inr m) = omega (arith, within (low + length x.bins) items item n.1 m)

in_own : (insts : List InstInfo) (group k : ℕ) (inst : InstInfo) → slice_get insts k ≡ Some inst → (inst.group == group) ≡ true → Member (filter (λ i. i.group == group) insts) inst
in_own [] group k inst e own = absurd (none_there k inst e)
in_own (x ∷ insts) group zero inst e own =
    let same = head_is x inst insts e in
    let yes : (x.group == group) ≡ true = ap (λ (i : InstInfo). i.group == group) same ∙ own in
    rw yes (inl same)
in_own (x ∷ insts) group (suc k) inst e own =
    let rest = in_own insts group k inst e own in
    by_bool (x.group == group) (λ yes. rw yes (inr rest)) (λ no. rw no rest)

in_group : (insts : List InstInfo) (group k j : ℕ) (inst : InstInfo) (item : ItemInfo) → slice_get insts k ≡ Some inst → (inst.group == group) ≡ true → slice_get inst.items j ≡ Some item → Member (items_of_group insts group) item
in_group insts group k j inst item e own i = in_flat (λ (x : InstInfo). x.items) (filter (λ (x : InstInfo). x.group == group) insts) inst item (in_own insts group k inst e own) (at_member inst.items j item i)

in_groups : (insts : List InstInfo) (first : ℕ) (groups : List GroupInfo) (k j : ℕ) (inst : InstInfo) (item : ItemInfo) → slice_get insts k ≡ Some inst → slice_get inst.items j ≡ Some item → first ≤ inst.group → inst.group < first + length groups
    → Member (items_from insts first groups) item
in_groups insts first [] k j inst item e i le lt = absurd (omega (arith, le, lt))
in_groups insts first (info ∷ groups) k j inst item e i le lt = elim (cases_lt first inst.group) [
  | inl more ↦ in_append_right (items_of_group insts first) (items_from insts (first + 1) groups) item (in_groups insts (first + 1) groups k j inst item e i (omega (arith, more)) (omega (arith, lt)))
  | inr less ↦
      let same : inst.group ≡ first = omega (arith, le, less) in
      in_append_left (items_of_group insts first) (items_from insts (first + 1) groups) item (in_group insts first k j inst item e (eq-eqb inst.group first same) i)
]

-- ---- items

module _ (f : ItemInfo → BinInfo → ℕ) where
  abbrev flat : List ItemInfo → List ℕ
  flat items = flat_map (λ item. map (f item) item.bins) items

  flat_length : (items : List ItemInfo) → length (flat items) ≡ bins_in items
  flat_length [] = refl
  flat_length (item ∷ items) = length-append (map (f item) item.bins) (flat items) ∙ (λ i. length-map item.bins (f item) i + flat_length items i)

  flat_at : (first place : ℕ) (items : List ItemInfo) (j b : ℕ) (item : ItemInfo) (bin : BinInfo) → IsNumberedFrom first items → slice_get items j ≡ Some item → slice_get item.bins b ≡ Some bin
      → first + place ≡ item.first_bin + b → get_or (flat items) place 0 ≡ f item bin
  flat_at first place [] j b item bin n e g is = absurd (none_there j item e)
  flat_at first place (x ∷ items) zero b item bin n e g is =
      let same : x ≡ item = head_is x item items e in
      let own : slice_get x.bins b ≡ Some bin = subst (λ (i : ItemInfo). slice_get i.bins b ≡ Some bin) (sym same) g in
      let here : place ≡ b = omega (arith, is, n.0, ap (λ (i : ItemInfo). i.first_bin) same) in
      let lt : b < length (map (f x) x.bins) = omega (arith, slice_get_within x.bins b bin own, length-map x.bins (f x)) in
      ap (λ (k : ℕ). get_or (flat (x ∷ items)) k 0) here ∙ get_or_append_left (map (f x) x.bins) (flat items) 0 b lt ∙ map_at (f x) x.bins b bin own ∙ ap (λ (i : ItemInfo). f i bin) same
  flat_at first place (x ∷ items) (suc j) b item bin n e g is =
      let low = least (first + length x.bins) items item n.1 (at_member items j item e) in
      let rest = place - length x.bins in
      let split : place ≡ length (map (f x) x.bins) + rest = omega (arith, is, low, length-map x.bins (f x)) in
      ap (λ (k : ℕ). get_or (flat (x ∷ items)) k 0) split ∙ get_or-append-add (map (f x) x.bins) (flat items) rest 0
      ∙ flat_at (first + length x.bins) rest items j b item bin n.1 e g (omega (arith, is, low))

-- ---- instances of a group, and groups

group_split : (x : InstInfo) (insts : List InstInfo) (group : ℕ) → (x.group == group) ≡ true → items_of_group (x ∷ insts) group ≡ x.items ++ items_of_group insts group
group_split x insts group e = rw e refl

group_skip : (x : InstInfo) (insts : List InstInfo) (group : ℕ) → (x.group == group) ≡ false → items_of_group (x ∷ insts) group ≡ items_of_group insts group
group_skip x insts group e = rw e refl

bins_split : (xs ys : List ItemInfo) → bins_in (xs ++ ys) ≡ bins_in xs + bins_in ys
bins_split [] ys = omega arith
bins_split (x ∷ xs) ys = let h = bins_split xs ys in omega (arith, h)

module _ (r : Record) where
  abbrev counted : List ItemInfo → ℕ → ItemInfo → BinInfo → ℕ
  counted items place item bin = count items item (samples_of r place) bin

  one_length : (place : ℕ) (inst : InstInfo) → length (instance_counts r place inst) ≡ bins_in inst.items
  one_length place inst = flat_length (counted inst.items place) inst.items

  own_yes : (place : ℕ) (x : InstInfo) (insts : List InstInfo) (group : ℕ) → (x.group == group) ≡ true → group_counts r place (x ∷ insts) group ≡ instance_counts r place x ++ group_counts r (place + 1) insts group
  own_yes place x insts group e = rw e refl

  own_no : (place : ℕ) (x : InstInfo) (insts : List InstInfo) (group : ℕ) → (x.group == group) ≡ false → group_counts r place (x ∷ insts) group ≡ group_counts r (place + 1) insts group
  own_no place x insts group e = rw e refl

  group_length : (place : ℕ) (insts : List InstInfo) (group : ℕ) → length (group_counts r place insts group) ≡ bins_in (items_of_group insts group)
  group_length place [] group = refl
  group_length place (x ∷ insts) group =
      let rest = group_length (place + 1) insts group in
      by_bool (x.group == group)
      (λ yes.
      ap (λ (ns : List ℕ). length ns) (own_yes place x insts group yes)
      ∙ length-append (instance_counts r place x) (group_counts r (place + 1) insts group)
      ∙ (λ i. one_length place x i + rest i)
      ∙ sym (bins_split x.items (items_of_group insts group))
      ∙ ap bins_in (sym (group_split x insts group yes)))
      (λ no. ap (λ (ns : List ℕ). length ns) (own_no place x insts group no) ∙ rest ∙ ap bins_in (sym (group_skip x insts group no)))

  -- the counts of the group's bins in the order of their numbers
  group_at : (place first at : ℕ) (insts : List InstInfo) (group k j b : ℕ) (inst : InstInfo) (item : ItemInfo) (bin : BinInfo) → IsNumberedFrom first (items_of_group insts group)
      → slice_get insts k ≡ Some inst → (inst.group == group) ≡ true → slice_get inst.items j ≡ Some item → slice_get item.bins b ≡ Some bin → first + at ≡ item.first_bin + b
      → get_or (group_counts r place insts group) at 0 ≡ counted inst.items (place + k) item bin
  group_at place first at [] group k j b inst item bin n e own i g is = absurd (none_there k inst e)
  group_at place first at (x ∷ insts) group zero j b inst item bin n e own i g is =
      let same : x ≡ inst = head_is x inst insts e in
      let yes : (x.group == group) ≡ true = ap (λ (y : InstInfo). y.group == group) same ∙ own in
      let n' = numbered_front first x.items (items_of_group insts group) (subst (IsNumberedFrom first) (group_split x insts group yes) n) in
      let i' : slice_get x.items j ≡ Some item = subst (λ (y : InstInfo). slice_get y.items j ≡ Some item) (sym same) i in
      let value = flat_at (counted x.items place) first at x.items j b item bin n' i' g is in
      let top = within first x.items item n' (at_member x.items j item i') in
      let inside : at < length (instance_counts r place x) = omega (arith, top, slice_get_within item.bins b bin g, is, one_length place x) in
      let zero_is : place ≡ place + 0 = omega arith in
      ap (λ (ns : List ℕ). get_or ns at 0) (own_yes place x insts group yes)
      ∙ get_or_append_left (instance_counts r place x) (group_counts r (place + 1) insts group) 0 at inside
      ∙ value ∙ (λ q. counted ((same q).items) (zero_is q) item bin)
  group_at place first at (x ∷ insts) group (suc k) j b inst item bin n e own i g is =
      let later : (place + 1) + k ≡ place + suc k = omega arith in
      by_bool (x.group == group)
      (λ yes.
      let n' = numbered_back first x.items (items_of_group insts group) (subst (IsNumberedFrom first) (group_split x insts group yes) n) in
      let low = least (first + bins_in x.items) (items_of_group insts group) item n' (in_group insts group k j inst item e own i) in
      let rest = at - bins_in x.items in
      let split : at ≡ length (instance_counts r place x) + rest = omega (arith, is, low, one_length place x) in
      ap (λ (ns : List ℕ). get_or ns at 0) (own_yes place x insts group yes)
      ∙ ap (λ (m : ℕ). get_or (instance_counts r place x ++ group_counts r (place + 1) insts group) m 0) split
      ∙ get_or-append-add (instance_counts r place x) (group_counts r (place + 1) insts group) rest 0
      ∙ group_at (place + 1) (first + bins_in x.items) rest insts group k j b inst item bin n' e own i g (omega (arith, is, low))
      ∙ ap (λ (m : ℕ). counted inst.items m item bin) later)
      (λ no.
      ap (λ (ns : List ℕ). get_or ns at 0) (own_no place x insts group no)
      ∙ group_at (place + 1) first at insts group k j b inst item bin (subst (IsNumberedFrom first) (group_skip x insts group no) n) e own i g is
      ∙ ap (λ (m : ℕ). counted inst.items m item bin) later)

  all_length : (insts : List InstInfo) (first : ℕ) (groups : List GroupInfo) → length (counts_from r insts first groups) ≡ bins_in (items_from insts first groups)
  all_length insts first [] = refl
  all_length insts first (info ∷ groups) =
      length-append (group_counts r 0 insts first) (counts_from r insts (first + 1) groups) ∙ (λ i. group_length 0 insts first i + all_length insts (first + 1) groups i) ∙ sym (bins_split (items_of_group insts first) (items_from insts (first + 1) groups))

  all_at : (low at first : ℕ) (insts : List InstInfo) (groups : List GroupInfo) (k j b : ℕ) (inst : InstInfo) (item : ItemInfo) (bin : BinInfo) → IsNumberedFrom low (items_from insts first groups)
      → slice_get insts k ≡ Some inst → slice_get inst.items j ≡ Some item → slice_get item.bins b ≡ Some bin → first ≤ inst.group → inst.group < first + length groups → low + at ≡ item.first_bin + b
      → get_or (counts_from r insts first groups) at 0 ≡ counted inst.items k item bin
  all_at low at first insts [] k j b inst item bin n e i g le lt is = absurd (omega (arith, le, lt))
  all_at low at first insts (info ∷ groups) k j b inst item bin n e i g le lt is = elim (cases_lt first inst.group) [
    | inl more ↦
        let n' = numbered_back low (items_of_group insts first) (items_from insts (first + 1) groups) n in
        let m = in_groups insts (first + 1) groups k j inst item e i (omega (arith, more)) (omega (arith, lt)) in
        let bottom = least (low + bins_in (items_of_group insts first)) (items_from insts (first + 1) groups) item n' m in
        let rest = at - bins_in (items_of_group insts first) in
        let split : at ≡ length (group_counts r 0 insts first) + rest = omega (arith, is, bottom, group_length 0 insts first) in
        ap (λ (p : ℕ). get_or (counts_from r insts first (info ∷ groups)) p 0) split
        ∙ get_or-append-add (group_counts r 0 insts first) (counts_from r insts (first + 1) groups) rest 0
        ∙ all_at (low + bins_in (items_of_group insts first)) rest (first + 1) insts groups k j b inst item bin n' e i g (omega (arith, more)) (omega (arith, lt)) (omega (arith, is, bottom))
    | inr less ↦
        let same : inst.group ≡ first = omega (arith, le, less) in
        let own = eq-eqb inst.group first same in
        let n' = numbered_front low (items_of_group insts first) (items_from insts (first + 1) groups) n in
        let top = within low (items_of_group insts first) item n' (in_group insts first k j inst item e own i) in
        let inside : at < length (group_counts r 0 insts first) = omega (arith, top, slice_get_within item.bins b bin g, is, group_length 0 insts first) in
        let zero_is : 0 + k ≡ k = omega arith in
        get_or_append_left (group_counts r 0 insts first) (counts_from r insts (first + 1) groups) 0 at inside
        ∙ group_at 0 low at insts first k j b inst item bin n' e own i g is
        ∙ ap (λ (m : ℕ). counted inst.items m item bin) zero_is
  ]

pub tally_of : (d : Design) (r : Record) → IsTally d r (tally d r)
unfolding tally
tally_of d r = record {
  same = all_length r d.instances 0 d.groups ∙ sym d.within.count;
  «at» = λ instance inst item bin number b.
      let valid = each_at (IsInstance (length d.groups)) d.instances instance inst d.within.each b.is_instance in
      let value = all_at r 0 number 0 d.instances d.groups instance b.item_index b.bin_index inst item bin d.within.numbered b.is_instance b.is_item b.is_bin (omega arith) (omega (arith, valid.group)) (omega (arith, b.is_number)) in
      subst (IsCount inst.items item bin (samples_of r instance)) (sym value) (count_is inst.items item (samples_of r instance) bin);
}

pub tally_is : TallyIs
tally_is d r = record { is = tally_of d r; only = λ counts t. one d r counts (tally d r) t (tally_of d r) }
