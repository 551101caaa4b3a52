use Rattle.std.proofs.Common.{◌≡◌, ◌+◌, ◌-◌, ◌∙◌, ap, arith}
use Rattle.store_sums.specs.Runs.{begin_of}
use Rattle.store_sums.proofs.Running.{next_runs}
use Rattle.store_sums.proofs.runs.runs_of.Goals as goal

pub loop-place-preserved : goal.loop-place-preserved
loop-place-preserved c =
    let i = c.loop-place.place in
    let e : i ≡ (i + 1) - 1 = omega arith in
    record {
      runs = next_runs c.args.parents.now c.loop-place.begins.items c.loop-place.ends.items i c.next_begin-begin.result c.push_begin.new.begins.items c.push_begin.new.ends.items c.loop-place.invariant.runs c.loop-place-test.true c.next_begin-begin.ensures c.in_ok-push_begin.ensures.begins c.in_ok-push_begin.ensures.ends;
      begin = λ some. c.next_begin-begin.ensures ∙ ap (begin_of c.args.parents.now) e;
    }
