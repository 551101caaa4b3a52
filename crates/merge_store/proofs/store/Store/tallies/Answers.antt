use Rattle.std.proofs.Common.{arith}
use Rattle.cov_history.specs.History.{tests_of, design_of}
use Rattle.store_parts.specs.Keeps.{rows_of}
use Rattle.merge_store.specs.Stores.{opening_of, entries_of}
use Rattle.store_sums.proofs.Walks.{taken_more}
use Rattle.merge_store.proofs.store.Store.tallies.Goals as goal

pub loop-place-preserved : goal.loop-place-preserved
loop-place-preserved c =
    let s = c.args.self.now in
    taken_more (rows_of (design_of (opening_of s) (entries_of s))) (tests_of (entries_of s)) 0 c.loop-place.place _ _ (omega arith) c.loop-place.invariant c.in_ok-push_tally.ensures
