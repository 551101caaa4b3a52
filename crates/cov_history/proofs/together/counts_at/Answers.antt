use Rattle.std.proofs.Common.{◌∙◌, ℕ, List, length, take, ap, sym, arith}
use Rattle.cov_history.specs.History.{contents}
use Rattle.cov_history.specs.Sums.{with_change, all_hits}
use Rattle.cov_history.proofs.Along.{contents_more}
use Rattle.cov_history.proofs.Weighing.{length_take}
use Rattle.cov_history.proofs.Summing.{change_hits, all_hits_length, few_contents, has_room}
use Rattle.cov_history.proofs.together.counts_at.Goals as goal

pub loop-entry-preserved : goal.loop-entry-preserved
loop-entry-preserved c =
    let d = c.args.design.now in
    let h = c.args.entries.now in
    let i = c.loop-entry.entry-index in
    let e = c.entry-item.result in
    c.in_ok-after.ensures ∙ ap (λ (ns : List ℕ). with_change d ns e.event) c.loop-entry.invariant ∙ change_hits d (contents (take i h)) e.event ∙ ap (all_hits d) (sym (contents_more h i e c.loop-entry-test.true c.entry-item.is))

pub counts_after-requires-clause-few : goal.counts_after-requires-clause-few
counts_after-requires-clause-few c =
    let d = c.args.design.now in
    let n = ap (λ (ns : List ℕ). length ns) c.loop-entry.invariant ∙ all_hits_length d (contents (take c.loop-entry.entry-index c.args.entries.now)) in
    omega (arith, n, d.within.few_bins)

pub counts_after-requires-clause-room : goal.counts_after-requires-clause-room
counts_after-requires-clause-room c =
    let h = take c.loop-entry.entry-index c.args.entries.now in
    let few = few_contents h in
    let short = length_take c.loop-entry.entry-index c.args.entries.now in
    let most = c.requires in
    has_room c.args.design.now (contents h) c.loop-entry.counts.items c.loop-entry.invariant (omega (arith, few, short, most))
