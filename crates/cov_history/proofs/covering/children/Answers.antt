use Rattle.std.proofs.Common.{arith, nat_lt, ◌&&◌, ◌==◌}
use Rattle.ucis_model.specs.Paths.{node_at}
use Rattle.cov_history.proofs.Ranges.{range_more}
use Rattle.cov_history.proofs.covering.children.Goals as goal

pub loop-place-preserved : goal.loop-place-preserved
loop-place-preserved c =
    let inv = c.loop-place.invariant in
    (range_more (λ m. nat_lt 0 m && ((node_at c.args.nodes.now m).parent == c.args.above)) c.loop-place.place c.loop-place.below.items c.push_if.new.places.items c.is_below.result inv.0 c.is_below.ensures c.in_ok-push_if.ensures, omega (arith, inv.1, inv.2, c.loop-place-test.true), inv.2)
