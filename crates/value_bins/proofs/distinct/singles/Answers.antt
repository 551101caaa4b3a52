use Rattle.std.proofs.Common.{◌≡◌, ◌∙◌, ap, arith, length}
use Rattle.cov_base.specs.Sets.{written, ascending}
use Rattle.value_bins.proofs.Runs.{distinct_are}
use Rattle.value_bins.proofs.distinct.singles.Goals as goal

pub returns-then-count-clause-too_many : goal.returns-then-count-clause-too_many
returns-then-count-clause-too_many c =
    let numbers = distinct_are c.args.elems.now c.as_slice.result.now c.in_ok-set.set c.as_slice.ensures c.in_ok-set.ensures.set in
    let many : c.count-count.result ≡ length (ascending (written c.args.elems.now)) = c.count-count.ensures.value ∙ ap length numbers in
    λ wanted e. let same : c.min.result ≡ wanted = cc in (omega (arith, many, c.if-count.true), omega (arith, many, same, c.min.ensures))

pub returns-clause-numbers : goal.returns-clause-numbers
returns-clause-numbers c =
    let numbers = distinct_are c.args.elems.now c.as_slice.result.now c.in_ok-set.set c.as_slice.ensures c.in_ok-set.ensures.set in
    c.in_ok-numbers.ensures ∙ (ap written c.intervals.ensures.value ∙ numbers)

pub returns-clause-most : goal.returns-clause-most
returns-clause-most c =
    let numbers = distinct_are c.args.elems.now c.as_slice.result.now c.in_ok-set.set c.as_slice.ensures c.in_ok-set.ensures.set in
    let many : c.count-count.result ≡ length (ascending (written c.args.elems.now)) = c.count-count.ensures.value ∙ ap length numbers in
    omega (arith, many, c.if-count.false)
