use Rattle.std.proofs.Common.{◌∙◌, ap, map, length, not, List, ℕ, ◌≤◌, arith}
use Rattle.std.specs.Prelude.{filter}
use Rattle.percent.specs.Millionths.{sums}
use Rattle.ucis_model.specs.Paths.{node_at}
use Rattle.cov_history.specs.Nodes.{children}
use Rattle.cov_history.specs.Coverage as cover
use Rattle.store_sums.specs.Now.{nodes_now, count_now, excluded_now}
use Rattle.store_sums.proofs.Walks.{take_all, plain_is}
use Rattle.store_sums.proofs.sums.Sums.plain.Goals as goal

pub returns : goal.returns
returns c =
    let s = c.args.self.now in
    let xs = children (nodes_now s) c.args.node in
    let parts : List ℕ → List (ℕ × ℕ) = λ ys. map (λ m. ((node_at (nodes_now s) m).weight, cover.instance_coverage (nodes_now s) (count_now s) (excluded_now s) m)) (filter (λ m. not (excluded_now s m)) ys) in
    let len = ap (λ (ys : List ℕ). length ys) c.children-child-items.ensures in
    let end : length xs ≤ c.loop-child.child-index = omega (arith, len, c.loop-child-test.false) in
    c.get.ensures (parts xs) (c.loop-child.invariant.sums ∙ ap (λ ys. sums (parts ys)) (take_all xs c.loop-child.child-index end)) ∙ plain_is (nodes_now s) (count_now s) (excluded_now s) c.args.node
