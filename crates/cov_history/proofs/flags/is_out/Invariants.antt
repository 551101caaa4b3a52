use Rattle.std.proofs.Common.{◌≡◌, ◌==◌, take, false}
use Rattle.std.specs.List.{list_any}
use Rattle.std.specs.Option.{option_map_or}
use Rattle.ucis_model.specs.Paths.{find_in}
use Rattle.cov_history.proofs.flags.is_out.Given as goal

abbrev pub invariant-loop-path : goal.invariant-loop-path
invariant-loop-path l = list_any (λ path. option_map_or (λ m. m == l.place) (find_in l.tree path) false) (take l.path-index l.out) ≡ false
