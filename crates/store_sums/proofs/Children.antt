-- The nodes right below each.
use Rattle.std.proofs.Common.{◌≡◌, ◌≢◌, ℕ, zero, suc, ◌+◌, ◌<◌, ◌≤◌, Bool, true, false, ◌&&◌, List, [], ◌∷◌, ◌++◌, length, map, replicate, refl, sym, ap, subst, ◌∙◌, arith, true≢false, nat_lt, lt-ltb, if◌then◌else◌}
use Rattle.std.specs.Prelude.{filter, slice_get, slice_index_or, slice_set, ◌==◌, Some, None, Option, IfSome}
use Rattle.std.proofs.lemmas.List.Sums.{length-filter, count_by-le-length}
use Rattle.std.proofs.lemmas.List.FromFn.{length-range_with_len}
use Rattle.std.specs.List.{range_with_len}
use Rattle.std.proofs.lemmas.Bool.{eqb-true, eq-eqb}
use Rattle.std.proofs.lemmas.List.{length-replicate, get_or-replicate, get_or-set_same, get_or-set_other, length-set, append-nil, get_or-map, map-set}
use Rattle.ucis_model.specs.declared.node.Node.{Node}
use Rattle.ucis_model.specs.Nodes.{root_node}
use Rattle.ucis_model.specs.Paths.{node_at, HasSmallerParents}
use Rattle.cov_history.specs.Nodes.{children, bin_nodes, is_bin}
use Rattle.cov_history.proofs.Bools.{by_bool}
use Rattle.store_sums.specs.Branches.{children_before, HasChildren, with_child}
use Rattle.store_sums.proofs.Ranges.{filter_more, filter_none, at_any}

-- no node is below a place behind the last one
pub none_below : (nodes : List Node) (n : ℕ) → HasSmallerParents nodes → length nodes ≤ n → children nodes n ≡ []
none_below nodes n small past = filter_none (λ m. nat_lt 0 m && ((node_at nodes m).parent == n)) 0 (length nodes) (λ m below. other m (omega (arith, below)))
  where
    other : (m : ℕ) → m < length nodes → (nat_lt 0 m && ((node_at nodes m).parent == n)) ≡ false
    other zero below = refl
    other (suc k) below =
        let less = small (suc k) (omega arith) below in
        let some : nat_lt 0 (suc k) ≡ true = lt-ltb 0 (suc k) (omega arith) in
        by_bool ((node_at nodes (suc k)).parent == n)
        (λ yes. let e = eqb-true (node_at nodes (suc k)).parent n yes in absurd (omega (arith, less, below, past, e)))
        (λ no. rw (some, no) refl)

pub no_children : (nodes : List Node) → HasChildren nodes 0 (replicate (length nodes) [])
no_children nodes = record {
  same_len = length-replicate (length nodes) [];
  at = λ n below. get_or-replicate (length nodes) n [] [] below;
}

pub not_none : (k : ℕ) → (suc k == 0) ≡ false
not_none k = by_bool (suc k == 0) (λ yes. absurd (omega (arith, eqb-true (suc k) 0 yes))) (λ no. no)

pub child_more : (nodes : List Node) (place : ℕ) (lists : List (List ℕ)) → HasSmallerParents nodes → place < length nodes → HasChildren nodes place lists → HasChildren nodes (place + 1) (with_child (node_at nodes place).parent place lists)
child_more nodes zero lists small inside h = record { same_len = h.same_len; at = λ n below. h.at n below }
child_more nodes (suc k) lists small inside h =
    let place = suc k in
    let parent = (node_at nodes place).parent in
    let mine = slice_index_or lists parent [] ++ place ∷ [] in
    let less = small place (omega arith) inside in
    let there : parent < length lists = omega (arith, less, inside, h.same_len) in
    let test : ℕ → ℕ → Bool = λ n m. nat_lt 0 m && ((node_at nodes m).parent == n) in
    let some : nat_lt 0 place ≡ true = lt-ltb 0 place (omega arith) in
    let put : with_child parent place lists ≡ slice_set lists parent mine = rw (not_none k) refl in
    subst (HasChildren nodes (place + 1)) (sym put) (record {
      same_len = length-set lists parent mine ∙ h.same_len;
      at = λ n below.
          let more = filter_more (test n) place in
          by_bool (parent == n)
          (λ yes.
          let e = eqb-true parent n yes in
          let one : (if test n place then place ∷ [] else []) ≡ place ∷ [] = rw (some, yes) refl in
          ap (λ x. slice_index_or (slice_set lists parent mine) x []) (sym e) ∙ get_or-set_same lists parent mine [] there
          ∙ ap (λ x. slice_index_or lists x [] ++ place ∷ []) e ∙ ap (λ xs. xs ++ place ∷ []) (h.at n below)
          ∙ sym (more ∙ ap (λ xs. children_before nodes place n ++ xs) one))
          (λ no.
          let ne : n ≢ parent = λ e. true≢false (sym (eq-eqb parent n (sym e)) ∙ no) in
          let none : (if test n place then place ∷ [] else []) ≡ [] = rw (some, no) refl in
          get_or-set_other lists parent n mine [] ne ∙ h.at n below
          ∙ sym (more ∙ ap (λ xs. children_before nodes place n ++ xs) none ∙ append-nil (children_before nodes place n)));
    })

-- the node at a place
pub node_is : (nodes : List Node) (place : ℕ) (node : Node) → place < length nodes → node ≡ slice_index_or nodes place node → node_at nodes place ≡ node
node_is nodes place node inside e = at_any nodes place (root_node 0) node inside ∙ sym e

pub child_step : (nodes : List Node) (place : ℕ) (node : Node) (lists more : List (List ℕ)) → HasSmallerParents nodes → place < length nodes → node ≡ slice_index_or nodes place node → HasChildren nodes place lists → more ≡ with_child node.parent place lists → HasChildren nodes (place + 1) more
child_step nodes place node lists more small inside e h m =
    subst (HasChildren nodes (place + 1)) (ap (λ (n : Node). with_child n.parent place lists) (node_is nodes place node inside e) ∙ sym m) (child_more nodes place lists small inside h)

pub child_inside : (nodes : List Node) (place : ℕ) (node : Node) (lists : List (List ℕ)) → HasSmallerParents nodes → place < length nodes → node ≡ slice_index_or nodes place node → HasChildren nodes place lists → 0 < place → node.parent < length lists
child_inside nodes place node lists small inside e h some =
    let less = small place some inside in
    let same = ap (λ (n : Node). n.parent) (node_is nodes place node inside e) in
    omega (arith, less, same, inside, h.same_len)

pub bins_more : (nodes : List Node) (place : ℕ) (node : Node) (bins more : List ℕ) → place < length nodes → node ≡ slice_index_or nodes place node → bins ≡ filter (λ n. is_bin (node_at nodes n).kind) (range_with_len 0 place) → more ≡ bins ++ (if is_bin node.kind then place ∷ [] else []) → more ≡ filter (λ n. is_bin (node_at nodes n).kind) (range_with_len 0 (place + 1))
bins_more nodes place node bins more inside at e m =
    m ∙ ap (λ xs. xs ++ (if is_bin node.kind then place ∷ [] else [])) e
    ∙ ap (λ (n : Node). filter (λ n. is_bin (node_at nodes n).kind) (range_with_len 0 place) ++ (if is_bin n.kind then place ∷ [] else [])) (sym (node_is nodes place node inside at))
    ∙ sym (filter_more (λ n. is_bin (node_at nodes n).kind) place)

-- one node more in a list that is there
pub put_child : {A : Type 0} (f : A → List ℕ) (lists : List A) (parent child : ℕ) (old new : A) → 0 < child → parent < length lists → old ≡ slice_index_or lists parent old → f new ≡ f old ++ child ∷ [] → map f (slice_set lists parent new) ≡ with_child parent child (map f lists)
put_child f lists parent zero old new some inside at e = absurd (omega (arith, some))
put_child f lists parent (suc k) old new some inside at e =
    let there : slice_index_or (map f lists) parent [] ≡ f old = get_or-map f lists parent old [] inside ∙ ap f (sym at) in
    map-set f lists parent new ∙ ap (slice_set (map f lists) parent) (e ∙ ap (λ xs. xs ++ suc k ∷ []) (sym there)) ∙ sym (rw (not_none k) refl)

-- ---- bins

pub bins_few : (nodes : List Node) → length (bin_nodes nodes) ≤ length nodes
bins_few nodes =
    let p : ℕ → Bool = λ n. is_bin (node_at nodes n).kind in
    let a = length-filter p (range_with_len 0 (length nodes)) in
    let b = count_by-le-length p (range_with_len 0 (length nodes)) in
    let c = length-range_with_len 0 (length nodes) in
    omega (arith, a, b, c)

at_or_after : (a n m : ℕ) (xs : List ℕ) → ((j : ℕ) → slice_get xs j ≡ Some m → m < a + suc n) → (i : ℕ) → slice_get (a ∷ xs) i ≡ Some m → m < a + suc n
at_or_after a n m xs later zero e = let same : a ≡ m = cc in omega (arith, same)
at_or_after a n m xs later (suc j) e = later j e

kept_below : (p : ℕ → Bool) (a n i m : ℕ) → slice_get (filter p (range_with_len a n)) i ≡ Some m → m < a + n
kept_below p a zero i m e = absurd (cc)
kept_below p a (suc n) i m e =
    by_bool (p a)
    (λ k. at_or_after a n m (filter p (range_with_len (a + 1) n)) (λ j f. omega (arith, kept_below p (a + 1) n j m f)) i (sym (rw k refl) ∙ e))
    (λ k. omega (arith, kept_below p (a + 1) n i m (sym (rw k refl) ∙ e)))

-- the node of a bin is one
pub bin_inside : (nodes : List Node) (bin n : ℕ) → slice_get (bin_nodes nodes) bin ≡ Some n → n < length nodes
bin_inside nodes bin n e = let b = kept_below (λ n. is_bin (node_at nodes n).kind) 0 (length nodes) bin n e in omega (arith, b)

pub some_inside : (nodes : List Node) (bin : ℕ) (o : Option ℕ) → o ≡ slice_get (bin_nodes nodes) bin → IfSome o (λ n. n < length nodes)
some_inside nodes bin None e = tt
some_inside nodes bin (Some n) e = bin_inside nodes bin n (sym e)
