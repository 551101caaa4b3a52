-- The lines along a design are those of its bin nodes, with their paths.
use Rattle.std.proofs.Common.{◌≡◌, ◌∙◌, ℕ, zero, suc, ◌+◌, ◌<◌, ◌≤◌, List, [], ◌∷◌, ◌++◌, length, Bool, true, false, refl, sym, ap, subst, arith}
use Rattle.std.specs.Prelude.{◌==◌, Option}
use Rattle.std.specs.List.{flat_map, range_with_len}
use Rattle.std.proofs.Math.ListN.{get_or-append}
use Rattle.std.proofs.Math.Seq.{get_or-append_seam}
use Rattle.std.proofs.lemmas.List.{append_assoc, append-nil, length_push}
use Rattle.design_data.specs.declared.design.Design.{Design}
use Rattle.design_data.specs.declared.infos.BinInfo.{BinInfo}
use Rattle.design_data.specs.declared.infos.GroupInfo.{GroupInfo}
use Rattle.design_data.specs.declared.infos.InstInfo.{InstInfo}
use Rattle.design_data.specs.declared.infos.ItemInfo.{ItemInfo}
use Rattle.design_data.specs.declared.infos.ItemShape.{ItemShape}
use Rattle.design_data.specs.declared.infos.ItemShape.TheVariants.{Point, Cross}
use Rattle.design_data.specs.Bins.{bins_in, items_of_group, items_from, IsNumberedFrom}
use Rattle.ucis_model.specs.declared.node.Node.{Node}
use Rattle.ucis_model.specs.Nodes.{root_node, bins_of, own_of, kind_of, bin_node, item_node, instance_node, group_node, with_bins, with_item, with_items, with_instance, with_instances, with_group, with_groups, nodes_of}
use Rattle.ucis_model.specs.Paths.{node_at, below, path_of, HasSmallerParents}
use Rattle.cov_counting.proofs.Done.{numbered_front, numbered_back}
use Rattle.ucis_model.proofs.Parents.{parents_more, one_has_none}
use Rattle.ucis_model.proofs.Steps.{own_bins}
use Rattle.covd_commands.specs.Lines.{line_of, node_line, node_lines, design_lines}
use Rattle.covd_commands.specs.Walks.{bin_lines, item_lines, instance_lines, lines_of_instance, group_lines, lines_from}
use Rattle.covd_commands.proofs.Standing.{path_stays, path_pushed, root_path}

-- ---- lists of lines

same_lines : (f g : ℕ → List ℕ) (a n : ℕ) → ((p : ℕ) → p < a + n → f p ≡ g p) → flat_map f (range_with_len a n) ≡ flat_map g (range_with_len a n)
same_lines f g a zero h = refl
same_lines f g a (suc n) h = λ i. h a (omega arith) i ++ same_lines f g (a + 1) n (λ p lt. h p (omega (arith, lt))) i

one_more : (f : ℕ → List ℕ) (a n : ℕ) → flat_map f (range_with_len a (suc n)) ≡ flat_map f (range_with_len a n) ++ f (a + n)
one_more f a zero = append-nil (f a) ∙ ap f (omega arith)
one_more f a (suc n) =
    let e : (a + 1) + n ≡ a + suc n = omega arith in
    ap (λ (lines : List ℕ). f a ++ lines) (one_more f (a + 1) n ∙ ap (λ (p : ℕ). flat_map f (range_with_len (a + 1) n) ++ f p) e)
    ∙ sym (append_assoc (f a) (flat_map f (range_with_len (a + 1) n)) (f (a + suc n)))

module _ (counts : Option (List ℕ)) where
  abbrev line_at : Node → (path : List ℕ) → List ℕ
  line_at node path = line_of counts node.kind node.first_bin path

  -- ---- what is known of the nodes so far, and of the one below which further ones are put

  record Ready (nodes : List Node) (parent : ℕ) (path : List ℕ) : Type 0 where
    pub small : HasSmallerParents nodes
    pub inside : parent < length nodes
    pub has : path_of nodes parent ≡ path

  -- these nodes are put behind those, and have these lines
  record Adds (old new : List Node) (lines : List ℕ) : Type 0 where
    pub more : List Node
    pub are : new ≡ old ++ more
    pub small : HasSmallerParents new
    pub longer : length old ≤ length new
    pub shows : node_lines counts new ≡ node_lines counts old ++ lines

  adds_none : (nodes : List Node) → HasSmallerParents nodes → Adds nodes nodes []
  adds_none nodes small = record { more = []; are = sym (append-nil nodes); small = small; longer = omega arith; shows = sym (append-nil (node_lines counts nodes)) }

  adds_both : (a b c : List Node) (x y : List ℕ) → Adds a b x → Adds b c y → Adds a c (x ++ y)
  adds_both a b c x y p q = record {
    more = p.more ++ q.more;
    are = q.are ∙ ap (λ (ns : List Node). ns ++ q.more) p.are ∙ append_assoc a p.more q.more;
    small = q.small;
    longer = omega (arith, p.longer, q.longer);
    shows = q.shows ∙ ap (λ (lines : List ℕ). lines ++ y) p.shows ∙ append_assoc (node_lines counts a) x y;
  }

  still_ready : (a b : List Node) (lines : List ℕ) (parent : ℕ) (path : List ℕ) → Adds a b lines → Ready a parent path → Ready b parent path
  still_ready a b lines parent path p r = record {
    small = p.small;
    inside = omega (arith, p.longer, r.inside);
    has = ap (λ (ns : List Node). path_of ns parent) p.are ∙ path_stays a p.more parent r.small r.inside ∙ r.has;
  }

  -- ---- one node more

  module _ (nodes : List Node) (node : Node) (path : List ℕ) (r : Ready nodes node.parent path) where
    pushed : List Node
    pushed = nodes ++ node ∷ []

    own_path : List ℕ
    own_path = below path node.name

    some : 0 < length nodes
    some = let h = r.inside in omega (arith, h)

    has_path : path_of (nodes ++ node ∷ []) (length nodes) ≡ below path node.name
    has_path = path_pushed nodes node r.small some r.inside ∙ ap (λ (above : List ℕ). below above node.name) r.has

    small_more : HasSmallerParents (nodes ++ node ∷ [])
    small_more = parents_more nodes node r.small r.inside

    last_ready : Ready (nodes ++ node ∷ []) (length nodes) (below path node.name)
    last_ready = record { small = small_more; inside = (let e = length_push nodes node in omega (arith, e)); has = has_path }

    line_stays : (p : ℕ) → p < length nodes → node_line counts (nodes ++ node ∷ []) p ≡ node_line counts nodes p
    line_stays p lt =
        let same : node_at (nodes ++ node ∷ []) p ≡ node_at nodes p = get_or-append nodes (node ∷ []) (root_node 0) p lt in
        let stays = path_stays nodes (node ∷ []) p r.small lt in
        λ i. line_at (same i) (stays i)

    last_line : node_line counts (nodes ++ node ∷ []) (length nodes) ≡ line_at node (below path node.name)
    last_line =
        let last : node_at (nodes ++ node ∷ []) (length nodes) ≡ node = get_or-append_seam nodes node [] (root_node 0) in
        λ i. line_at (last i) (has_path i)

    adds_one : Adds nodes (nodes ++ node ∷ []) (line_at node (below path node.name))
    adds_one =
        let n = length nodes in
        let f = node_line counts (nodes ++ node ∷ []) in
        let len : length (nodes ++ node ∷ []) ≡ suc n = length_push nodes node ∙ (omega arith) in
        record {
          more = node ∷ [];
          are = refl;
          small = small_more;
          longer = omega (arith, len);
          shows =
              ap (λ (k : ℕ). flat_map f (range_with_len 0 k)) len
              ∙ one_more f 0 n
              ∙ ap (λ (p : ℕ). flat_map f (range_with_len 0 n) ++ f p) (omega arith)
              ∙ (λ i. same_lines f (node_line counts nodes) 0 n (λ p lt. line_stays p (omega (arith, lt))) i ++ last_line i);
        }

  -- ---- bins

  bins_add : (parent at_least next : ℕ) (bins : List BinInfo) (nodes : List Node) (path : List ℕ) → Ready nodes parent path → Adds nodes (with_bins parent at_least next bins nodes) (bin_lines counts next path bins)
  bins_add parent at_least next [] nodes path r = adds_none nodes r.small
  bins_add parent at_least next (bin ∷ bins) nodes path r =
      let node = bin_node parent at_least next bin in
      let one = adds_one nodes node path r in
      let rest = bins_add parent at_least (next + 1) bins (nodes ++ node ∷ []) path (still_ready nodes (nodes ++ node ∷ []) (line_at node (below path node.name)) parent path one r) in
      adds_both nodes (nodes ++ node ∷ []) (with_bins parent at_least (next + 1) bins (nodes ++ node ∷ [])) (line_at node (below path bin.name)) (bin_lines counts (next + 1) path bins) one rest

  -- ---- items

  no_line : (shape : ItemShape) (number : ℕ) (path : List ℕ) → line_of counts (kind_of shape) number path ≡ []
  no_line (Point expr) number path = refl
  no_line (Cross axes) number path = refl

  item_adds : (parent next : ℕ) (item : ItemInfo) (nodes : List Node) (path : List ℕ) → Ready nodes parent path → item.first_bin ≡ next → Adds nodes (with_item parent next item nodes) (item_lines counts path item)
  unfolding with_item
  item_adds parent next item nodes path r is =
      let node = item_node parent next item in
      let ns = nodes ++ node ∷ [] in
      let own = below path item.name in
      let one : Adds nodes ns [] = subst (λ (lines : List ℕ). Adds nodes ns lines) (no_line item.shape next own) (adds_one nodes node path r) in
      let rest = bins_add (length nodes) item.at_least next item.bins ns own (last_ready nodes node path r) in
      let all = adds_both nodes ns (with_bins (length nodes) item.at_least next item.bins ns) [] (bin_lines counts next own item.bins) one rest in
      subst (λ (n : ℕ). Adds nodes (with_bins (length nodes) item.at_least next item.bins ns) (bin_lines counts n own item.bins)) (sym is) all

  items_add : (parent next : ℕ) (items : List ItemInfo) (nodes : List Node) (path : List ℕ) → Ready nodes parent path → IsNumberedFrom next items → Adds nodes (with_items parent next items nodes) (flat_map (item_lines counts path) items)
  items_add parent next [] nodes path r h = adds_none nodes r.small
  items_add parent next (item ∷ items) nodes path r h =
      let ns = with_item parent next item nodes in
      let one = item_adds parent next item nodes path r h.0 in
      let rest = items_add parent (next + length item.bins) items ns path (still_ready nodes ns (item_lines counts path item) parent path one r) h.1 in
      adds_both nodes ns (with_items parent (next + length item.bins) items ns) (item_lines counts path item) (flat_map (item_lines counts path) items) one rest

  -- ---- instances

  instance_adds : (parent next : ℕ) (inst : InstInfo) (nodes : List Node) (path : List ℕ) → Ready nodes parent path → IsNumberedFrom next inst.items → Adds nodes (with_instance parent next inst nodes) (instance_lines counts path inst)
  unfolding with_instance
  instance_adds parent next inst nodes path r h =
      let node = instance_node parent next inst in
      let ns = nodes ++ node ∷ [] in
      let own = below path inst.name in
      adds_both nodes ns (with_items (length nodes) next inst.items ns) [] (flat_map (item_lines counts own) inst.items) (adds_one nodes node path r) (items_add (length nodes) next inst.items ns own (last_ready nodes node path r) h)

  instances_add : (parent next : ℕ) (insts : List InstInfo) (nodes : List Node) (path : List ℕ) → Ready nodes parent path → IsNumberedFrom next (flat_map (λ inst. inst.items) insts) → Adds nodes (with_instances parent next insts nodes) (flat_map (instance_lines counts path) insts)
  instances_add parent next [] nodes path r h = adds_none nodes r.small
  instances_add parent next (inst ∷ insts) nodes path r h =
      let later = flat_map (λ (x : InstInfo). x.items) insts in
      let ns = with_instance parent next inst nodes in
      let one = instance_adds parent next inst nodes path r (numbered_front next inst.items later h) in
      let rest = instances_add parent (next + bins_in inst.items) insts ns path (still_ready nodes ns (instance_lines counts path inst) parent path one r) (numbered_back next inst.items later h) in
      adds_both nodes ns (with_instances parent (next + bins_in inst.items) insts ns) (instance_lines counts path inst) (flat_map (instance_lines counts path) insts) one rest

  -- ---- groups

  group_adds : (next : ℕ) (group : GroupInfo) (own : List InstInfo) (nodes : List Node) → Ready nodes 0 [] → IsNumberedFrom next (flat_map (λ inst. inst.items) own) → Adds nodes (with_group next group own nodes) (flat_map (instance_lines counts group.name) own)
  unfolding with_group
  group_adds next group [] nodes r h = adds_none nodes r.small
  group_adds next group (inst ∷ insts) nodes r h =
      let node = group_node next group (inst ∷ insts) in
      let ns = nodes ++ node ∷ [] in
      let lines = flat_map (instance_lines counts group.name) (inst ∷ insts) in
      adds_both nodes ns (with_instances (length nodes) next (inst ∷ insts) ns) [] lines (adds_one nodes node [] r) (instances_add (length nodes) next (inst ∷ insts) ns group.name (last_ready nodes node [] r) h)

  own_first : (group : List ℕ) (place : ℕ) (inst : InstInfo) (insts : List InstInfo) (b : Bool) → (inst.group == place) ≡ b
      → flat_map (instance_lines counts group) (own_of (inst ∷ insts) place) ≡ lines_of_instance counts group place inst ++ flat_map (instance_lines counts group) (own_of insts place)
  own_first group place inst insts true e = rw e refl
  own_first group place inst insts false e = rw e refl

  own_lines : (group : List ℕ) (place : ℕ) (insts : List InstInfo) → flat_map (instance_lines counts group) (own_of insts place) ≡ flat_map (lines_of_instance counts group place) insts
  own_lines group place [] = refl
  own_lines group place (inst ∷ insts) = own_first group place inst insts (inst.group == place) refl ∙ ap (λ (lines : List ℕ). lines_of_instance counts group place inst ++ lines) (own_lines group place insts)

  groups_add : (next : ℕ) (insts : List InstInfo) (place : ℕ) (groups : List GroupInfo) (nodes : List Node) → Ready nodes 0 [] → IsNumberedFrom next (items_from insts place groups)
      → Adds nodes (with_groups next insts place groups nodes) (lines_from counts insts place groups)
  groups_add next insts place [] nodes r h = adds_none nodes r.small
  groups_add next insts place (group ∷ groups) nodes r h =
      let here = items_of_group insts place in
      let later = items_from insts (place + 1) groups in
      let ns = with_group next group (own_of insts place) nodes in
      let lines = group_lines counts insts place group in
      let one : Adds nodes ns lines = subst (λ (xs : List ℕ). Adds nodes ns xs) (own_lines group.name place insts) (group_adds next group (own_of insts place) nodes r (numbered_front next here later h)) in
      let n = next + bins_of (own_of insts place) in
      let behind : IsNumberedFrom n later = subst (λ (k : ℕ). IsNumberedFrom (next + k) later) (own_bins insts place) (numbered_back next here later h) in
      let rest = groups_add n insts (place + 1) groups ns (still_ready nodes ns lines 0 [] one r) behind in
      adds_both nodes ns (with_groups n insts (place + 1) groups ns) lines (lines_from counts insts (place + 1) groups) one rest

  -- a line for each bin along a design is a line for each of its bin nodes
  pub lines_are : (d : Design) → lines_from counts d.instances 0 d.groups ≡ design_lines counts d
  unfolding nodes_of design_lines
  lines_are d =
      let root = root_node d.bin_count ∷ [] in
      let r : Ready root 0 [] = record { small = one_has_none (root_node d.bin_count); inside = omega arith; has = root_path root } in
      sym ((groups_add 0 d.instances 0 d.groups root r d.within.numbered).shows)
