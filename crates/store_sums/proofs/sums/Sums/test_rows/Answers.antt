use Rattle.cov_history.specs.Answers.{count_row}
use Rattle.store_sums.specs.Branches.{part}
use Rattle.tally.specs.Rows.{count_in}
use Rattle.store_sums.specs.Now.{nodes_now, excluded_now}
use Rattle.store_sums.proofs.Walks.{page_row}
use Rattle.store_sums.proofs.sums.Sums.test_rows.Goals as goal

pub loop-bin-preserved : goal.loop-bin-preserved
loop-bin-preserved c =
    let s = c.args.self.now in
    page_row (count_row (nodes_now s) (count_in c.args.tally.now) (excluded_now s)) c.part_of-bin-items.result.now (part c.args.first 65536 c.args.bins.now) c.loop-bin.bin-index _ c.loop-bin.list.items c.push_test_row.new.list.items c.part_of-bin-items.ensures.part c.loop-bin-test.true c.loop-bin.invariant c.in_ok-push_test_row.ensures
