use Rattle.std.proofs.Common.{◌≡◌, ◌∙◌, arith, ◌≤ℤ◌, ◌<ℤ◌, ◌+ℤ◌, pos, ap}
use Rattle.std.specs.Int.{int_max}
use Rattle.std.proofs.lemmas.Int.{ints}
use Rattle.cov_base.proofs.Steps.{drop_at, take_rest, cut_next, cut_next_rest, cut_end, cut_end_rest}
use Rattle.cov_base.proofs.sets.merge.cut.Goals as goal

pub returns-then-get-2-clause-pieces : goal.returns-then-get-2-clause-pieces
returns-then-get-2-clause-pieces c =
    let at = drop_at c.args.holes.now c.loop-i.i c.index-holes-i.result (omega arith) c.index-holes-i.is in
    let starts : c.index-holes-i.result.0 ≤ℤ c.args.piece.1 = omega (arith, ints, c.get.ensures.value, c.get-in-loop-i.ensures.value) in
    let ends : c.args.piece.1 ≤ℤ c.index-holes-i.result.1 = omega (arith, ints, c.get-in-loop-i-2.ensures.value, c.get-in-loop-i-3.ensures.value) in
    cut_end _ _ _ _ _ _ _ _ at c.in_ok-add_front.ensures c.loop-i.invariant.pieces starts ends

pub returns-then-get-2-clause-rest : goal.returns-then-get-2-clause-rest
returns-then-get-2-clause-rest c =
    let at = drop_at c.args.holes.now c.loop-i.i c.index-holes-i.result (omega arith) c.index-holes-i.is in
    let starts : c.index-holes-i.result.0 ≤ℤ c.args.piece.1 = omega (arith, ints, c.get.ensures.value, c.get-in-loop-i.ensures.value) in
    let ends : c.args.piece.1 ≤ℤ c.index-holes-i.result.1 = omega (arith, ints, c.get-in-loop-i-2.ensures.value, c.get-in-loop-i-3.ensures.value) in
    take_rest c.args.holes.now c.loop-i.i ∙ cut_end_rest _ _ _ _ _ at c.loop-i.invariant.rest starts ends

pub loop-i-preserved : goal.loop-i-preserved
loop-i-preserved c =
    let at = drop_at c.args.holes.now c.loop-i.i c.index-holes-i.result (omega arith) c.index-holes-i.is in
    let starts : c.index-holes-i.result.0 ≤ℤ c.args.piece.1 = omega (arith, ints, c.get.ensures.value, c.get-in-loop-i.ensures.value) in
    let ends : c.index-holes-i.result.1 <ℤ c.args.piece.1 = omega (arith, ints, c.get-in-loop-i-2.ensures.value, c.get-in-loop-i-3.ensures.value) in
    let next : c.larger-low.result ≡ int_max c.loop-i.low (c.index-holes-i.result.1 +ℤ pos 1) = c.larger-low.ensures ∙ ap (int_max c.loop-i.low) c.next.ensures in
    record {
      pieces = cut_next _ _ _ _ _ _ _ _ _ at c.in_ok-add_front.ensures c.loop-i.invariant.pieces starts ends next;
      rest = cut_next_rest _ _ _ _ _ at c.loop-i.invariant.rest starts ends;
    }
