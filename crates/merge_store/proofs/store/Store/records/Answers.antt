use Rattle.std.proofs.Common.{arith}
use Rattle.cov_history.specs.History.{Test, tests_of}
use Rattle.merge_store.specs.Stores.{entries_of}
use Rattle.store_sums.proofs.Walks.{taken_more}
use Rattle.merge_store.proofs.store.Store.records.Goals as goal

pub loop-place-preserved : goal.loop-place-preserved
loop-place-preserved c =
    let s = c.args.self.now in
    taken_more (λ (t : Test). t.content) (tests_of (entries_of s)) 0 c.loop-place.place _ _ (omega arith) c.loop-place.invariant c.in_ok-push_record.ensures
