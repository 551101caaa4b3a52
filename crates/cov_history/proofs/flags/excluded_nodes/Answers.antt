use Rattle.std.proofs.Common.{List, length, ap, arith}
use Rattle.ucis_model.specs.declared.node.Node.{Node}
use Rattle.cov_history.specs.Coverage as meant
use Rattle.cov_history.proofs.Summing.{map_more}
use Rattle.cov_history.proofs.flags.excluded_nodes.Goals as goal

pub loop-place-preserved : goal.loop-place-preserved
loop-place-preserved c =
    let inv = c.loop-place.invariant in
    (map_more (meant.is_excluded c.args.tree.now c.args.out.now) c.loop-place.place c.loop-place.flags.items c.push.new.self.items c.is_excluded.result inv.0 c.is_excluded.ensures c.in_ok-push.ensures.items, omega (arith, inv.1, inv.2, c.loop-place-test.true), inv.2)

pub overflow_cast-place-end : goal.overflow_cast-place-end
overflow_cast-place-end c =
    let n = ap (λ (ns : List Node). length ns) c.nodes.ensures in
    let most = c.requires in
    omega (arith, n, most)
