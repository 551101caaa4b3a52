use Rattle.expr_text.proofs.Sizes.{size}
use Rattle.expr_text.proofs.walk.+append_parts.Given as goal

abbrev pub decreases-append_parts : goal.decreases-append_parts
decreases-append_parts l = size l.expr
