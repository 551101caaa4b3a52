use Rattle.std.proofs.Common.{ap, ◌∙◌, ℕ, ◌+◌}
use Rattle.std.proofs.lemmas.Result.{err_from_is_err_and}
use Rattle.record_codec.proofs.Loops.{puts_on, put_ends, is_done}
use Rattle.record_codec.proofs.tables.counted.Goals as goal

pub returns-in_err-rest : goal.returns-in_err-rest
returns-in_err-rest g c =
    let p = err_from_is_err_and c.from_residual-in_err-rest.result c.from_residual-in_err-rest.ensures.1 in
    rw (p.1, p.2) (put_ends c.in_err-rest.field-0.0 c.loop-test.true c.in_err-rest.ensures.row c.loop.invariant.so_far)

pub loop-preserved : goal.loop-preserved
loop-preserved g c = record {
  so_far = puts_on c.append.new.rows.items c.in_ok-rest.rest.now c.loop-test.true c.in_ok-rest.ensures.row c.loop.invariant.so_far;
  room = c.in_ok-rest.ensures.room ∙ c.loop.invariant.room;
  long = c.in_ok-rest.ensures.long ∙ ap (λ (n : ℕ). n + 1) c.loop.invariant.long;
}

pub returns : goal.returns
returns g c = rw c.of.ensures (is_done c.loop-test.false c.loop.invariant.so_far)
