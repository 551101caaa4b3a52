use Rattle.std.proofs.Common.{◌≡◌, ◌∙◌, sym, nat_eq, false}
use Rattle.std.specs.List.{starts_with}
use Rattle.waivers.proofs.Meaning.{may_not}
use Rattle.waivers.proofs.patterns.may_fit.Goals as goal

pub returns-in-Some-Literal : goal.returns-in-Some-Literal
returns-in-Some-Literal c = λ off.
    let e : starts_with nat_eq c.args.path.now c.in-Some-Literal.front ≡ false = rw c.as_slice.ensures at (sym c.starts_with.ensures.value ∙ off) in
    may_not c.args.pieces.now c.args.path.now c.in-Some-Literal.front c.in-Some-Literal.field-0.now c.in-Some-Literal.ensures.value c.in-Some-Literal.field-0-is e
