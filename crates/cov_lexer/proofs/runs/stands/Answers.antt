use Rattle.std.proofs.Common.{arith, length-drop, ◌∙◌, ap, drop, length, ◌-◌, ◌≡◌, take, nat_eq}
use Rattle.std.proofs.lemmas.List.{take_all}
use Rattle.std.specs.List.{starts_with}
use Rattle.cov_lexer.specs.Operators.{stands}
use Rattle.cov_lexer.proofs.runs.stands.Goals as goal

pub returns : goal.returns
unfolding stands
returns c =
    let e : take (length c.args.text.now - c.args.«at») (drop c.args.«at» c.args.text.now) ≡ drop c.args.«at» c.args.text.now = take_all _ _ (omega (arith, length-drop c.args.«at» c.args.text.now)) in
    c.starts_with.ensures.value ∙ ap (λ xs. starts_with nat_eq xs c.args.bytes.now) e
