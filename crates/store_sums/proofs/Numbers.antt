-- The bins of a design are numbered in the order of their nodes.
use Rattle.std.proofs.Common.{◌≡◌, ℕ, zero, suc, ◌+◌, ◌<◌, Bool, true, false, List, [], ◌∷◌, ◌++◌, length, map, refl, sym, ap, subst, ◌∙◌, arith}
use Rattle.std.specs.Prelude.{filter, slice_index, slice_index_or}
use Rattle.std.specs.List.{range_with_len}
use Rattle.std.proofs.Math.ListN.{get_or-append}
use Rattle.std.proofs.lemmas.List.{map-append, append-nil, length_push}
use Rattle.std.proofs.lemmas.List.Elements.{filter-append}
use Rattle.design_data.specs.declared.infos.BinInfo.{BinInfo}
use Rattle.design_data.specs.declared.infos.ItemInfo.{ItemInfo}
use Rattle.design_data.specs.declared.infos.ItemShape.{ItemShape}
use Rattle.design_data.specs.declared.infos.ItemShape.TheVariants.{Point, Cross}
use Rattle.design_data.specs.declared.infos.InstInfo.{InstInfo}
use Rattle.design_data.specs.declared.infos.GroupInfo.{GroupInfo}
use Rattle.design_data.specs.declared.design.Design.{Design}
use Rattle.design_data.specs.Bins.{bins_in}
use Rattle.ucis_model.specs.declared.node.Node.{Node}
use Rattle.ucis_model.specs.Nodes.{bins_of, own_of, kind_of, root_node, bin_node, item_node, instance_node, group_node, with_bins, with_item, with_items, with_instance, with_instances, with_group, with_groups, nodes_of}
use Rattle.ucis_model.specs.Paths.{node_at}
use Rattle.cov_history.specs.Nodes.{is_bin, bin_nodes}
use Rattle.cov_history.proofs.Bools.{by_bool}
use Rattle.store_sums.proofs.Ranges.{range_more}

-- ---- the numbers of the bins among nodes

numbers_in : List Node → List ℕ
numbers_in nodes = map (λ (n : Node). n.first_bin) (filter (λ (n : Node). is_bin n.kind) nodes)

-- so many bins, numbered from 0, behind a node that is none
Numbered : List Node → (next : ℕ) → Type 0
Numbered nodes next = (numbers_in nodes ≡ range_with_len 0 next) × (0 < length nodes) × (is_bin (node_at nodes 0).kind ≡ false)

root_stays : (before : List Node) (node : Node) → 0 < length before → is_bin (node_at before 0).kind ≡ false → is_bin (node_at (before ++ node ∷ []) 0).kind ≡ false
root_stays before node some isnt = ap (λ (n : Node). is_bin n.kind) (get_or-append before (node ∷ []) (root_node 0) 0 some) ∙ isnt

longer : (before : List Node) (node : Node) → 0 < length (before ++ node ∷ [])
longer before node = let e = length_push before node in omega (arith, e)

bin_last : (before : List Node) (next : ℕ) (node : Node) → is_bin node.kind ≡ true → node.first_bin ≡ next → Numbered before next → Numbered (before ++ node ∷ []) (next + 1)
unfolding numbers_in Numbered
bin_last before next node is first n =
    let one : filter (λ (n : Node). is_bin n.kind) (node ∷ []) ≡ node ∷ [] = rw is refl in (
      ap (map (λ (n : Node). n.first_bin)) (filter-append (λ (n : Node). is_bin n.kind) before (node ∷ []) ∙ ap (λ ns. filter (λ (n : Node). is_bin n.kind) before ++ ns) one)
          ∙ map-append (λ (n : Node). n.first_bin) (filter (λ (n : Node). is_bin n.kind) before) (node ∷ [])
          ∙ (λ i. n.0 i ++ first i ∷ []) ∙ sym (range_more next),
      longer before node,
      root_stays before node n.1 n.2,
    )

other_last : (before : List Node) (next : ℕ) (node : Node) → is_bin node.kind ≡ false → Numbered before next → Numbered (before ++ node ∷ []) next
unfolding numbers_in Numbered
other_last before next node isnt n =
    let none : filter (λ (n : Node). is_bin n.kind) (node ∷ []) ≡ [] = rw isnt refl in
    (ap (map (λ (n : Node). n.first_bin)) (filter-append (λ (n : Node). is_bin n.kind) before (node ∷ []) ∙ ap (λ ns. filter (λ (n : Node). is_bin n.kind) before ++ ns) none ∙ append-nil (filter (λ (n : Node). is_bin n.kind) before)) ∙ n.0, longer before node, root_stays before node n.1 n.2)

more : (nodes : List Node) {a b : ℕ} → a ≡ b → Numbered nodes a → Numbered nodes b
more nodes e n = subst (Numbered nodes) e n

bins_numbered : (parent at_least next : ℕ) (bins : List BinInfo) (before : List Node) → Numbered before next → Numbered (with_bins parent at_least next bins before) (next + length bins)
bins_numbered parent at_least next [] before n = more before (omega arith) n
bins_numbered parent at_least next (bin ∷ bins) before n =
    let node = bin_node parent at_least next bin in
    more (with_bins parent at_least (next + 1) bins (before ++ node ∷ [])) (omega arith) (bins_numbered parent at_least (next + 1) bins (before ++ node ∷ []) (bin_last before next node refl refl n))

no_bin : (shape : ItemShape) → is_bin (kind_of shape) ≡ false
no_bin (Point expr) = refl
no_bin (Cross axes) = refl

item_numbered : (parent next : ℕ) (item : ItemInfo) (before : List Node) → Numbered before next → Numbered (with_item parent next item before) (next + length item.bins)
unfolding with_item
item_numbered parent next item before n =
    bins_numbered (length before) item.at_least next item.bins (before ++ item_node parent next item ∷ []) (other_last before next (item_node parent next item) (no_bin item.shape) n)

items_numbered : (parent next : ℕ) (items : List ItemInfo) (before : List Node) → Numbered before next → Numbered (with_items parent next items before) (next + bins_in items)
items_numbered parent next [] before n = more before (omega arith) n
items_numbered parent next (item ∷ items) before n =
    more (with_items parent next (item ∷ items) before) (omega arith) (items_numbered parent (next + length item.bins) items (with_item parent next item before) (item_numbered parent next item before n))

instance_numbered : (parent next : ℕ) (inst : InstInfo) (before : List Node) → Numbered before next → Numbered (with_instance parent next inst before) (next + bins_in inst.items)
unfolding with_instance
instance_numbered parent next inst before n = items_numbered (length before) next inst.items (before ++ instance_node parent next inst ∷ []) (other_last before next (instance_node parent next inst) refl n)

instances_numbered : (parent next : ℕ) (insts : List InstInfo) (before : List Node) → Numbered before next → Numbered (with_instances parent next insts before) (next + bins_of insts)
instances_numbered parent next [] before n = more before (omega arith) n
instances_numbered parent next (inst ∷ insts) before n =
    more (with_instances parent next (inst ∷ insts) before) (omega arith) (instances_numbered parent (next + bins_in inst.items) insts (with_instance parent next inst before) (instance_numbered parent next inst before n))

group_numbered : (next : ℕ) (group : GroupInfo) (own : List InstInfo) (before : List Node) → Numbered before next → Numbered (with_group next group own before) (next + bins_of own)
unfolding with_group
group_numbered next group [] before n = more before (omega arith) n
group_numbered next group (inst ∷ insts) before n =
    instances_numbered (length before) next (inst ∷ insts) (before ++ group_node next group (inst ∷ insts) ∷ []) (other_last before next (group_node next group (inst ∷ insts)) refl n)

groups_numbered : (next : ℕ) (instances : List InstInfo) (place : ℕ) (groups : List GroupInfo) (before : List Node) → Numbered before next → (last : ℕ) × Numbered (with_groups next instances place groups before) last
groups_numbered next instances place [] before n = (next, n)
groups_numbered next instances place (group ∷ groups) before n =
    let own = own_of instances place in
    groups_numbered (next + bins_of own) instances (place + 1) groups (with_group next group own before) (group_numbered next group own before n)

-- ---- by place

-- nodes by their places, from one on
by_place : (nodes xs : List Node) (a : ℕ) → ((i : ℕ) → i < length xs → node_at nodes (a + i) ≡ slice_index_or xs i (root_node 0))
    → map (λ (p : ℕ). (node_at nodes p).first_bin) (filter (λ (p : ℕ). is_bin (node_at nodes p).kind) (range_with_len a (length xs))) ≡ numbers_in xs
unfolding numbers_in
by_place nodes [] a at = refl
by_place nodes (x ∷ xs) a at =
    let zero_is : a + 0 ≡ a = omega arith in
    let here : node_at nodes a ≡ x = ap (node_at nodes) (sym zero_is) ∙ at 0 (omega arith) in
    let rest = by_place nodes xs (a + 1) (λ i less. let e : (a + 1) + i ≡ a + suc i = omega arith in ap (node_at nodes) e ∙ at (suc i) (omega (arith, less))) in
    by_bool (is_bin x.kind)
    (λ k. let j : is_bin (node_at nodes a).kind ≡ true = ap (λ (n : Node). is_bin n.kind) here ∙ k in rw (j, k) (λ i. (here i).first_bin ∷ rest i))
    (λ k. let j : is_bin (node_at nodes a).kind ≡ false = ap (λ (n : Node). is_bin n.kind) here ∙ k in rw (j, k) rest)

pub map_at : (f : ℕ → ℕ) (xs : List ℕ) (j : ℕ) → j < length xs → slice_index (map f xs) j ≡ f (slice_index xs j)
map_at f [] j less = absurd (omega (arith, less))
map_at f (x ∷ xs) zero less = refl
map_at f (x ∷ xs) (suc j) less = map_at f xs j (omega (arith, less))

range_at : (a n j : ℕ) → j < n → slice_index (range_with_len a n) j ≡ a + j
range_at a zero j less = absurd (omega (arith, less))
range_at a (suc n) zero less = omega arith
range_at a (suc n) (suc j) less = let e = range_at (a + 1) n j (omega (arith, less)) in e ∙ omega arith

length_range : (a n : ℕ) → length (range_with_len a n) ≡ n
length_range a zero = refl
length_range a (suc n) = ap (λ m. suc m) (length_range (a + 1) n)

length_map : (f : ℕ → ℕ) (xs : List ℕ) → length (map f xs) ≡ length xs
length_map f [] = refl
length_map f (x ∷ xs) = ap (λ m. suc m) (length_map f xs)

-- the first bin of a bin's node is the bin itself
pub bin_number : (d : Design) (j : ℕ) → j < length (bin_nodes (nodes_of d)) → (node_at (nodes_of d) (slice_index (bin_nodes (nodes_of d)) j)).first_bin ≡ j
unfolding nodes_of Numbered numbers_in
bin_number d j less =
    let nodes = nodes_of d in
    let first : ℕ → ℕ = λ p. (node_at nodes p).first_bin in
    let n = groups_numbered 0 d.instances 0 d.groups (root_node d.bin_count ∷ []) (refl, omega arith, refl) in
    let whole : map first (bin_nodes nodes) ≡ range_with_len 0 n.0 = by_place nodes nodes 0 (λ i inside. let e : 0 + i ≡ i = omega arith in ap (node_at nodes) e) ∙ n.1.0 in
    let l : length (bin_nodes nodes) ≡ n.0 = sym (length_map first (bin_nodes nodes)) ∙ ap (λ (xs : List ℕ). length xs) whole ∙ length_range 0 n.0 in
    sym (map_at first (bin_nodes nodes) j less) ∙ ap (λ (xs : List ℕ). slice_index xs j) whole ∙ range_at 0 n.0 j (omega (arith, less, l)) ∙ omega arith

-- the root is no bin
pub no_root : (d : Design) → is_bin (node_at (nodes_of d) 0).kind ≡ false
unfolding nodes_of Numbered numbers_in
no_root d = let n = groups_numbered 0 d.instances 0 d.groups (root_node d.bin_count ∷ []) (refl, omega arith, refl) in n.1.2

first_passes : (p : ℕ → Bool) (x : ℕ) (ys : List ℕ) → p x ≡ true → ((j : ℕ) → j < length ys → p (slice_index ys j) ≡ true) → (j : ℕ) → j < length (x ∷ ys) → p (slice_index (x ∷ ys) j) ≡ true
first_passes p x ys k rest zero less = k
first_passes p x ys k rest (suc j) less = rest j (omega (arith, less))

-- a bin's node is a bin
pub passes : (p : ℕ → Bool) (xs : List ℕ) (j : ℕ) → j < length (filter p xs) → p (slice_index (filter p xs) j) ≡ true
passes p [] j less = absurd (omega (arith, less))
passes p (x ∷ xs) j less =
    let rest = passes p xs in
    by_bool (p x)
    (λ k. let e : filter p (x ∷ xs) ≡ x ∷ filter p xs = rw k refl in subst (λ (ys : List ℕ). j < length ys → p (slice_index ys j) ≡ true) (sym e) (first_passes p x (filter p xs) k rest j) less)
    (λ k. let e : filter p (x ∷ xs) ≡ filter p xs = rw k refl in subst (λ (ys : List ℕ). j < length ys → p (slice_index ys j) ≡ true) (sym e) (rest j) less)
