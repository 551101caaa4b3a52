use Rattle.std.proofs.Common.{subst, map, List, ℕ, is_some, Option, true}
use Rattle.std.specs.Prelude.{filter, option_map}
use Rattle.std.specs.Arc.{arc_value}
use Rattle.std.specs.declared.sync.Arc.{Arc}
use Rattle.std.specs.declared.alloc.Global.{Global}
use Rattle.cov_tree.specs.declared.name.Name.{Name}
use Rattle.ucis_model.specs.declared.node.Node.{Node}
use Rattle.ucis_model.specs.Nodes.{nodes_of}
use Rattle.ucis_model.specs.Paths.{find_in}
use Rattle.cov_history.specs.Sums.{all_hits}
use Rattle.store_parts.specs.Keeps.{HasOut}
use Rattle.store_sums.specs.Runs.{HasMarks}
use Rattle.merge_store.specs.Now.{outs_now}
use Rattle.merge_store.proofs.store.Store.remade.Goals as goal

pub returns-clause-is : goal.returns-clause-is
returns-clause-is c =
    let path : Option (Arc Name Global) → Option (List ℕ) = λ p. option_map (λ (a : Arc Name Global). arc_value a) p in
    subst (λ (ns : List Node). HasOut ns (filter (λ p. is_some (find_in ns p)) (outs_now c.args.self.now)) (map path c.in_ok-out.out.items) c.in_ok-out.outs) c.branches-branches.ensures c.in_ok-out.ensures

pub returns-clause-marked : goal.returns-clause-marked
returns-clause-marked c =
    let seen : List (Option (Arc Name Global)) → List (Option (List ℕ)) = λ xs. map (λ (p : Option (Arc Name Global)). option_map arc_value p) xs in
    let d = c.args.rebinned.now.design in
    let nodes = subst (λ (ns : List Node). HasMarks ns c.counts.result.now (seen c.as_slice.result.now) (λ p. true) c.in_ok-runs.runs) c.branches-branches.ensures c.in_ok-runs.ensures in
    let counts = subst (λ (xs : List ℕ). HasMarks (nodes_of d) xs (seen c.as_slice.result.now) (λ p. true) c.in_ok-runs.runs) c.counts.ensures nodes in
    subst (λ (xs : List (Option (Arc Name Global))). HasMarks (nodes_of d) (all_hits d c.args.rebinned.now.records) (seen xs) (λ p. true) c.in_ok-runs.runs) c.as_slice.ensures.value counts
