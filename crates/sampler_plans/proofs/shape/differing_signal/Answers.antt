use Rattle.std.proofs.Common.{ℕ, take, map, length, arith, ◌≡◌, ◌∙◌, refl, sym, subst}
use Rattle.cov_counting.specs.Tables.{signal_row}
use Rattle.sampler_plans.proofs.Tables.{row_more, goes_on}
use Rattle.sampler_plans.proofs.shape.differing_signal.Goals as goal

pub loop-at-preserved : goal.loop-at-preserved
loop-at-preserved c = record {
  same = row_more signal_row c.args.signals.now c.args.rows.now c.loop-at.at c.index-signals-at.result c.index-rows-at.result c.loop-at-test.true (omega arith) c.index-signals-at.is (sym c.index-rows-at.is ∙ c.if-not-is_signal.ensures.0 refl) c.loop-at.invariant.same;
  within = omega arith;
}

pub returns-then-rows-signals-clause-place : goal.returns-then-rows-signals-clause-place
returns-then-rows-signals-clause-place c =
    let all : c.loop-at.at ≡ length c.args.signals.now = omega arith in
    goes_on signal_row c.args.signals.now c.args.rows.now (omega arith) (subst (λ (n : ℕ). take n c.args.rows.now ≡ take n (map signal_row c.args.signals.now)) all c.loop-at.invariant.same)
