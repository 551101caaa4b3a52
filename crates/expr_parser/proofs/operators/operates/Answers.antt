use Rattle.std.proofs.Common.{nat_le}
use Rattle.std.proofs.lemmas.Bool.{and_parts}
use Rattle.cov_lexer.specs.declared.kind.Kind.TheVariants.{PlusSign, SignedRight}
use Rattle.cov_lexer.specs.Kinds.{code}
use Rattle.expr_parser.proofs.Operating.{one_operates}
use Rattle.expr_parser.proofs.operators.operates.Goals as goal

pub returns-then-code-found : goal.returns-then-code-found
returns-then-code-found c = λ kinds a h.
    let p = and_parts (nat_le (code PlusSign) (code c.args.kind)) (nat_le (code c.args.kind) (code SignedRight)) (one_operates kinds c.args.kind a h) in
    rw (c.code-found.ensures, c.code-then-code-found.ensures) p.1

pub returns-else-code-found : goal.returns-else-code-found
returns-else-code-found c = λ kinds a h.
    let p = and_parts (nat_le (code PlusSign) (code c.args.kind)) (nat_le (code c.args.kind) (code SignedRight)) (one_operates kinds c.args.kind a h) in
    rw (c.code-found.ensures, c.code.ensures) p.0
