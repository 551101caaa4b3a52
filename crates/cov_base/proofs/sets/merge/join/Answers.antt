use Rattle.std.proofs.Common.{◌≡◌, ◌∙◌, arith, rules, ◌≤ℤ◌, ◌<ℤ◌, ◌+ℤ◌, pos, length}
use Rattle.std.proofs.lemmas.Int.{ints}
use Rattle.cov_base.proofs.Steps.{joined_grows, joined_pushes, joined_first}
use Rattle.cov_base.proofs.sets.merge.join.Goals as goal
use Rattle.cov_base.proofs.sets.merge.join.Goals.{then-count-gt0+else-get, else-count-gt0}

pub returns-then-get : goal.returns-then-get
returns-then-get c =
    let near : c.args.range.0 ≤ℤ (c.index-last.result.now.1 +ℤ pos 1) = omega (arith, ints, c.get.ensures.value, c.get-then-count-gt0.ensures.value) in
    let count : c.len-count.result ≡ length c.args.out.now.items = search rules in
    joined_grows _ _ _ _ _ count c.if-count-gt0.true c.index-last.ensures near c.larger.ensures

pub returns : goal.returns
returns c =
    let count : c.len-count.result ≡ length c.args.out.now.items = search rules in
    elim c.if-count-gt0.branch [
      | then-count-gt0+else-get w ↦
          let far : (w.index-last.result.now.1 +ℤ pos 1) <ℤ c.args.range.0 = omega (arith, ints, w.get.ensures.value, w.get-then-count-gt0.ensures.value) in
          c.in_ok-push.ensures.items ∙ joined_pushes _ _ _ _ count w.if-count-gt0.true w.index-last.ensures far
      | else-count-gt0 w ↦ c.in_ok-push.ensures.items ∙ joined_first _ _ (omega (arith, count, w.if-count-gt0.false))
    ]
