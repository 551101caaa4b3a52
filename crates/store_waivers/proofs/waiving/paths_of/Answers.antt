use Rattle.std.proofs.Common.{◌≤◌, arith}
use Rattle.ucis_model.specs.Paths.{path_of}
use Rattle.merge_store.specs.Now.{nodes_now}
use Rattle.store_waivers.proofs.Among.{path_more, paths_few}
use Rattle.store_waivers.proofs.waiving.paths_of.Goals as goal

pub loop-node-preserved : goal.loop-node-preserved
loop-node-preserved c =
    path_more (path_of (nodes_now c.args.store.now)) c.loop-node.node c.loop-node.paths.items c.push.new.self.items c.in_ok-path_text.field-0
    c.loop-node.invariant c.in_ok-path_text.ensures c.in_ok-push.ensures.items

pub returns-clause-few : goal.returns-clause-few
returns-clause-few c =
    let most : c.loop-node.node ≤ 4294967295 = omega (arith, c.loop-node.auto.node-end, c.if-nodes.false) in
    let few = paths_few (path_of (nodes_now c.args.store.now)) c.loop-node.node 4294967295 c.loop-node.paths.items c.loop-node.invariant most in
    omega (arith, few)
