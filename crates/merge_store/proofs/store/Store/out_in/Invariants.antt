use Rattle.std.proofs.Common.{◌≤◌, map, take, is_some}
use Rattle.std.specs.Prelude.{filter, option_map}
use Rattle.std.specs.Arc.{arc_value}
use Rattle.ucis_model.specs.Paths.{find_in}
use Rattle.store_parts.specs.Keeps.{HasOut}
use Rattle.store_parts.proofs.Places.{paths_in}
use Rattle.merge_store.proofs.store.Store.out_in.Given as goal

abbrev pub invariant-loop-path : goal.invariant-loop-path
invariant-loop-path l = HasOut l.branches (filter (λ p. is_some (find_in l.branches p)) (paths_in (take l.path-index (map (λ p. option_map arc_value p) l.self.sums.out.items)))) (map (λ p. option_map arc_value p) l.out.items) l.outs
    × (l.outs ≤ l.path-index)
