use Rattle.std.proofs.Common.{arith}
use Rattle.cov_history.specs.History.{tests_of}
use Rattle.cov_history.specs.Answers.{test_row}
use Rattle.merge_store.specs.Stores.{entries_of}
use Rattle.store_sums.proofs.Walks.{taken_more}
use Rattle.merge_store.proofs.store.Store.tests_between.Goals as goal

pub loop-place-preserved : goal.loop-place-preserved
loop-place-preserved c =
    let i = c.loop-place.invariant in
    record {
      rows = taken_more test_row (tests_of (entries_of c.args.self.now)) c.args.from c.loop-place.place c.loop-place.list.items c.push_test.new.list.items i.low i.rows c.in_ok-push_test.ensures;
      low = omega (arith, i.low);
    }
