use Rattle.std.proofs.Common.{◌∙◌, arith}
use Rattle.sampler_threads.proofs.Merged.{join_more, join_end}
use Rattle.sampler_threads.proofs.parallel.join_all.Goals as goal

pub loop-number-preserved : goal.loop-number-preserved
loop-number-preserved c =
    let inv = c.loop-number.invariant in
    let old = c.args.total.now.items in
    let now = c.loop-number.total.items in
    let new = c.join_at.new.total.items in
    let n = c.loop-number.number in
    record {
      same = c.join_at.ensures.same ∙ inv.same;
      done = join_more old c.args.counts.now now new n inv.done inv.left c.join_at.ensures.here c.join_at.ensures.others;
      left = λ k le. c.join_at.ensures.others k (λ same. absurd (omega (arith, same, le))) ∙ inv.left k (omega (arith, le));
    }

pub returns : goal.returns
returns c =
    let inv = c.loop-number.invariant in
    join_end c.args.total.now.items c.args.counts.now c.loop-number.total.items c.loop-number.total.items c.loop-number.number inv.same c.requires c.loop-number-test.false inv.done inv.left
