-- The path of a node doesn't change as further nodes are put behind those that are there.
use Rattle.std.proofs.Common.{◌≡◌, ◌∙◌, ℕ, zero, suc, ◌<◌, ◌≤◌, List, [], ◌∷◌, ◌++◌, length, Bool, true, false, refl, sym, ap, subst, arith}
use Rattle.std.specs.Prelude.{◌==◌, if◌then◌else◌}
use Rattle.std.proofs.Math.ListN.{get_or-append}
use Rattle.std.proofs.Math.Seq.{get_or-append_seam}
use Rattle.ucis_model.specs.declared.node.Node.{Node}
use Rattle.ucis_model.specs.Nodes.{root_node}
use Rattle.ucis_model.specs.Paths.{node_at, below, path_up, path_of, HasSmallerParents}

-- with more nodes behind
up_stays : (most : ℕ) (nodes more : List Node) (place : ℕ) → HasSmallerParents nodes → place < length nodes → path_up most (nodes ++ more) place ≡ path_up most nodes place
up_stays zero nodes more place small lt = refl
up_stays (suc most) nodes more place small lt = by (λ parent less. up_stays most nodes more parent small less) (place == 0) refl
  where
    step : List Node → Bool → List ℕ
    step ns b = if b then [] else below (path_up most ns (node_at ns place).parent) (node_at ns place).name

    by : ((parent : ℕ) → parent < length nodes → path_up most (nodes ++ more) parent ≡ path_up most nodes parent) → (b : Bool) → (place == 0) ≡ b → step (nodes ++ more) (place == 0) ≡ step nodes (place == 0)
    by above true e = ap (step (nodes ++ more)) e ∙ sym (ap (step nodes) e)
    by above false e =
        let some : 0 < place = grind (arith, e) in
        let parent = (node_at nodes place).parent in
        let less : parent < place = small place some lt in
        let same : node_at (nodes ++ more) place ≡ node_at nodes place = get_or-append nodes more (root_node 0) place lt in
        let up = above parent (omega (arith, less, lt)) in
        ap (step (nodes ++ more)) e
        ∙ ap (λ (n : Node). below (path_up most (nodes ++ more) n.parent) n.name) same
        ∙ ap (λ (path : List ℕ). below path (node_at nodes place).name) up
        ∙ sym (ap (step nodes) e)

pub path_stays : (nodes more : List Node) (place : ℕ) → HasSmallerParents nodes → place < length nodes → path_of (nodes ++ more) place ≡ path_of nodes place
unfolding path_of
path_stays nodes more place small lt = up_stays place nodes more place small lt

up_root : (most : ℕ) (nodes : List Node) (place : ℕ) → place ≡ 0 → path_up most nodes place ≡ []
up_root zero nodes place e = refl
up_root (suc most) nodes place e = rw e refl

-- as many nodes above as there may be are enough
up_enough : (a b : ℕ) (nodes : List Node) (place : ℕ) → HasSmallerParents nodes → place < length nodes → place ≤ a → place ≤ b → path_up a nodes place ≡ path_up b nodes place
up_enough zero b nodes place small lt la lb = let e : place ≡ 0 = omega (arith, la) in up_root zero nodes place e ∙ sym (up_root b nodes place e)
up_enough (suc a) zero nodes place small lt la lb = let e : place ≡ 0 = omega (arith, lb) in up_root (suc a) nodes place e ∙ sym (up_root zero nodes place e)
up_enough (suc a) (suc b) nodes place small lt la lb = by (λ parent inside below_a below_b. up_enough a b nodes parent small inside below_a below_b) (place == 0) refl
  where
    step : ℕ → Bool → List ℕ
    step most is = if is then [] else below (path_up most nodes (node_at nodes place).parent) (node_at nodes place).name

    by : ((parent : ℕ) → parent < length nodes → parent ≤ a → parent ≤ b → path_up a nodes parent ≡ path_up b nodes parent) → (is : Bool) → (place == 0) ≡ is → step a (place == 0) ≡ step b (place == 0)
    by above true e = ap (step a) e ∙ sym (ap (step b) e)
    by above false e =
        let some : 0 < place = grind (arith, e) in
        let parent = (node_at nodes place).parent in
        let less : parent < place = small place some lt in
        let up = above parent (omega (arith, less, lt)) (omega (arith, less, la)) (omega (arith, less, lb)) in
        ap (step a) e ∙ ap (λ (path : List ℕ). below path (node_at nodes place).name) up ∙ sym (ap (step b) e)

-- the path of a node that is put behind others
pub path_pushed : (nodes : List Node) (node : Node) → HasSmallerParents nodes → 0 < length nodes → node.parent < length nodes → path_of (nodes ++ node ∷ []) (length nodes) ≡ below (path_of nodes node.parent) node.name
unfolding path_of
path_pushed nodes node small some lt = by (length nodes) refl
  where
    ns : List Node
    ns = nodes ++ node ∷ []

    step : ℕ → Bool → List ℕ
    step m is = if is then [] else below (path_up m ns (node_at ns (suc m)).parent) (node_at ns (suc m)).name

    by : (n : ℕ) → length nodes ≡ n → path_up n ns n ≡ below (path_up node.parent nodes node.parent) node.name
    by zero e = absurd (omega (arith, e, some))
    by (suc m) e =
        let last : node_at ns (suc m) ≡ node = subst (λ (k : ℕ). node_at ns k ≡ node) e (get_or-append_seam nodes node [] (root_node 0)) in
        let stays = up_stays m nodes (node ∷ []) node.parent small lt in
        let enough = up_enough m node.parent nodes node.parent small lt (omega (arith, e, lt)) (omega arith) in
        let no : (suc m == 0) ≡ false = grind arith in
        ap (step m) no ∙ ap (λ (n : Node). below (path_up m ns n.parent) n.name) last ∙ ap (λ (path : List ℕ). below path node.name) (stays ∙ enough)

pub root_path : (nodes : List Node) → path_of nodes 0 ≡ []
unfolding path_of
root_path nodes = refl
