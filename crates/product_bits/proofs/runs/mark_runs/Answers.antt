use Rattle.std.proofs.Common.{◌≡◌, ◌+◌, ◌*◌, ◌&&◌, ◌||◌, ℕ, ltb, leb, ap, ◌∙◌, arith}
use Rattle.product_bits.specs.Marks.{is_marked, in_run}
use Rattle.product_bits.proofs.RunLemmas.{run_more}
use Rattle.product_bits.proofs.runs.mark_runs.Goals as goal

pub loop-run-preserved : goal.loop-run-preserved
loop-run-preserved c n =
    let run = c.loop-run.run in
    let stride = c.args.stride in
    let next : run * stride + stride ≡ (run + 1) * stride = omega arith in
    let step = c.mark_if.ensures n ∙ ap (λ (k : ℕ). is_marked c.loop-run.words n || (c.is_chosen.result && (leb (run * stride) n && ltb n k))) c.min-to.ensures in
    run_more (is_marked c.loop-run.words n) (is_marked c.mark_if.new.words n) c.is_chosen.result c.args.chosen.now stride c.args.size run c.args.end n (c.loop-run.invariant n) step c.is_chosen.ensures
    ∙ ap (λ (k : ℕ). ltb n c.args.end && (ltb n k && in_run stride c.args.size c.args.chosen.now n)) next
