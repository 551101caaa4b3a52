use Rattle.std.proofs.Common.{ap, ◌∙◌, ℕ, ◌+◌}
use Rattle.std.proofs.lemmas.Result.{err_from_is_err_and}
use Rattle.record_codec.proofs.Under.{value_rest}
use Rattle.record_codec.proofs.ValueLoops.{value_goes_on, value_ends, values_done}
use Rattle.record_codec.proofs.events.listed_values.Goals as goal

pub returns-in_err-value : goal.returns-in_err-value
returns-in_err-value c =
    let p = err_from_is_err_and c.from_residual-in_err-value.result c.from_residual-in_err-value.ensures.1 in
    let h = rw c.most_of.ensures at c.in_err-value.ensures in
    rw (p.1, p.2) (value_ends _ c.in_err-value.field-0.0 c.loop-arg-test.true c.loop-arg.invariant.fits h c.loop-arg.invariant.so_far)

pub loop-arg-preserved : goal.loop-arg-preserved
loop-arg-preserved c =
    let h = rw c.most_of.ensures at c.in_ok-value.ensures in
    record {
      so_far = rw c.push_reserved.ensures.items (value_goes_on _ c.in_ok-value.value c.in_ok-value.after.now c.loop-arg-test.true c.loop-arg.invariant.fits h c.loop-arg.invariant.so_far);
      fits = value_rest c.most_of.result c.loop-arg.rest.now (c.in_ok-value.value, c.in_ok-value.after.now) c.loop-arg.invariant.fits c.in_ok-value.ensures;
      room = c.push_reserved.ensures.capacity ∙ c.loop-arg.invariant.room;
      long = c.push_reserved.ensures.len ∙ ap (λ (n : ℕ). n + 1) c.loop-arg.invariant.long;
    }

pub returns : goal.returns
returns c = rw c.of.ensures (values_done c.loop-arg-test.false c.loop-arg.invariant.so_far)
