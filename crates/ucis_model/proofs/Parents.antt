-- Each node but the root is below one of a smaller place; and nodes behind it change nothing above it.
use Rattle.std.proofs.Common.{◌≡◌, ◌∙◌, ℕ, ◌+◌, ◌<◌, List, [], ◌∷◌, ◌++◌, length, map, Bool, true, false, refl, sym, ap, subst, arith}
use Rattle.std.specs.Prelude.{nat_lt}
use Rattle.std.proofs.Math.ListN.{get_or-append}
use Rattle.std.proofs.Math.Seq.{get_or-append_seam}
use Rattle.std.proofs.lemmas.List.{length_push}
use Rattle.std.proofs.lemmas.List.FromFn.{map-range_with_len_more}
use Rattle.std.specs.List.{range_with_len}
use Rattle.name_map.specs.Names.{Pairs}
use Rattle.ucis_model.specs.declared.node.Node.{Node}
use Rattle.ucis_model.specs.Nodes.{root_node}
use Rattle.ucis_model.specs.Paths.{node_at, HasSmallerParents, path_of}

pub parents_more : (nodes : List Node) (node : Node) → HasSmallerParents nodes → node.parent < length nodes → HasSmallerParents (nodes ++ node ∷ [])
parents_more nodes node small lt place some within = by (nat_lt place (length nodes)) refl
  where
    by : (b : Bool) → nat_lt place (length nodes) ≡ b → (node_at (nodes ++ node ∷ []) place).parent < place
    by true e =
        let inside : place < length nodes = grind (arith, e) in
        let same = get_or-append nodes (node ∷ []) (root_node 0) place inside in
        subst (λ (n : Node). n.parent < place) (sym same) (small place some inside)
    by false e =
        let more = length_push nodes node in
        let is : length nodes ≡ place = grind (arith, e, within, more) in
        let last = get_or-append_seam nodes node [] (root_node 0) in
        subst (λ (p : ℕ). (node_at (nodes ++ node ∷ []) p).parent < p) is (subst (λ (n : Node). n.parent < length nodes) (sym last) lt)

pub one_has_none : (node : Node) → HasSmallerParents (node ∷ [])
one_has_none node place some within = absurd (grind (arith, some, within))

pub places_more : (nodes : List Node) (place : ℕ) (path : List ℕ) (done new : Pairs ℕ) → done ≡ map (λ p. (path_of nodes p, p)) (range_with_len 0 place) → path ≡ path_of nodes place → new ≡ done ++ (path, place) ∷ []
    → new ≡ map (λ p. (path_of nodes p, p)) (range_with_len 0 (place + 1))
places_more nodes place path done new was is made =
    made ∙ (ap (λ (ps : Pairs ℕ). ps ++ (path, place) ∷ []) was ∙ (ap (λ (text : List ℕ). map (λ p. (path_of nodes p, p)) (range_with_len 0 place) ++ (text, place) ∷ []) is ∙ sym (map-range_with_len_more (λ p. (path_of nodes p, p)) 0 place place (omega arith))))
