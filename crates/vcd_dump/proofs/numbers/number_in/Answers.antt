use Rattle.std.proofs.Common.{◌≡◌, length, false, sym, ◌∙◌}
use Rattle.std.specs.Prelude.{◌==◌}
use Rattle.vcd_dump.specs.Numbers.{number_in}
use Rattle.vcd_dump.proofs.Found.{all_read}
use Rattle.vcd_dump.proofs.numbers.number_in.Goals as goal

pub returns : goal.returns
unfolding number_in
returns c =
    let some : (length c.args.digits.now == 0) ≡ false = sym c.is_empty.ensures ∙ c.if-is_empty.false in
    let h = c.loop-digit.invariant in
    rw some (sym (all_read c.args.base c.loop-digit.number c.loop-digit.rest.now c.in_default.ensures.cases h.fits) ∙ h.same)
