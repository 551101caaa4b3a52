-- The nodes below a node, and its bins, are nodes.
use Rattle.std.proofs.Common.{ℕ, zero, suc, ◌+◌, ◌<◌, ◌≤◌, List, length, arith}
use Rattle.std.specs.Prelude.{All}
use Rattle.std.specs.List.{range_with_len}
use Rattle.std.proofs.lemmas.List.Elements.{All-nil, All-cons, All-filter, All-take, All-drop}
use Rattle.ucis_model.specs.declared.node.Node.{Node}
use Rattle.cov_history.specs.Nodes.{children, bin_nodes, bins_under}

range_inside : (a n most : ℕ) → a + n ≤ most → All (λ k. k < most) (range_with_len a n)
range_inside a zero most le = All-nil (λ k. k < most)
range_inside a (suc n) most le = All-cons (λ k. k < most) a (range_with_len (a + 1) n) (omega (arith, le)) (range_inside (a + 1) n most (omega (arith, le)))

module _ (nodes : List Node) where
  abbrev AreNodes : List ℕ → Type 0
  AreNodes ns = All (λ k. k < length nodes) ns

  all_nodes : AreNodes (range_with_len 0 (length nodes))
  all_nodes = range_inside 0 (length nodes) (length nodes) (omega arith)

  pub children_inside : (n : ℕ) → All (λ k. k < length nodes) (children nodes n)
  children_inside n = All-filter _ (λ k. k < length nodes) (range_with_len 0 (length nodes)) all_nodes

  pub bins_inside : (n : ℕ) → All (λ k. k < length nodes) (bins_under nodes n)
  bins_inside n = All-take (λ k. k < length nodes) _ _ (All-drop (λ k. k < length nodes) _ (bin_nodes nodes) (All-filter _ (λ k. k < length nodes) (range_with_len 0 (length nodes)) all_nodes))
