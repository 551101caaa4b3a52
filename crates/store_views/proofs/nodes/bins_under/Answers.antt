use Rattle.std.proofs.Common.{ℕ, ◌<◌, List, length, sym, subst}
use Rattle.std.specs.Prelude.{All}
use Rattle.merge_store.specs.Now.{nodes_now}
use Rattle.store_views.proofs.Inside.{bins_inside}
use Rattle.store_views.proofs.nodes.bins_under.Goals as goal

pub returns-clause-inside : goal.returns-clause-inside
returns-clause-inside c = subst (λ (ns : List ℕ). All (λ n. n < length (nodes_now c.args.store.now)) ns) (sym c.bins_under.ensures.bins) (bins_inside (nodes_now c.args.store.now) c.args.node)
