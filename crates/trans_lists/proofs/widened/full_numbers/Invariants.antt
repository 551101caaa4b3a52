use Rattle.std.proofs.Common.{◌≡◌, List}
use Rattle.std.specs.Prelude.{ℤ}
use Rattle.cov_base.specs.Sets.{written}
use Rattle.trans_found.specs.Held.{begun_by, HasAll, AreHeld}
use Rattle.trans_lists.proofs.widened.full_numbers.Given as goal

abbrev pub invariant-loop-k : goal.invariant-loop-k
invariant-loop-k l = record {
  first : l.first.items ≡ l.initial.first.items;
  full : (lists : List (List ℤ)) → AreHeld l.known lists → HasAll lists (begun_by l.initial.first.items (written l.full.items) l.items);
}
