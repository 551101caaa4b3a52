-- What is filtered of nodes are nodes.
use Rattle.std.proofs.Common.{◌≡◌, ℕ, ◌<◌, List, Bool, Option, Some, None, not, length, sym, subst}
use Rattle.std.specs.Prelude.{All, filter}
use Rattle.std.proofs.lemmas.List.Elements.{All-filter}
use Rattle.design_data.specs.declared.infos.ItemInfo.{ItemInfo}
use Rattle.ucis_model.specs.declared.node.Node.{Node}
use Rattle.cross_holes.specs.Projected.{cross_of, is_said, alone}

pub filtered_inside : (p : ℕ → Bool) (most : ℕ) (all kept : List ℕ) → All (λ k. k < most) all → kept ≡ filter p all → All (λ k. k < most) kept
filtered_inside p most all kept inside e = subst (λ (ns : List ℕ). All (λ k. k < most) ns) (sym e) (All-filter p (λ k. k < most) all inside)

pub alone_inside : (nodes : List Node) (items : List ItemInfo) (item : Option ItemInfo) (most : ℕ) (live holes : List ℕ) → All (λ k. k < most) holes → All (λ k. k < most) (alone (cross_of nodes items item live holes))
alone_inside nodes items None most live holes inside = All-filter (λ n. not (is_said (cross_of nodes items None live holes) (length (cross_of nodes items None live holes).axes) n)) (λ k. k < most) holes inside
alone_inside nodes items (Some item) most live holes inside = All-filter (λ n. not (is_said (cross_of nodes items (Some item) live holes) (length (cross_of nodes items (Some item) live holes).axes) n)) (λ k. k < most) holes inside
