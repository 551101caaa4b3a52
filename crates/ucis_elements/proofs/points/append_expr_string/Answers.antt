use Rattle.std.proofs.Common.{ℕ, List, ◌++◌, codes, ap, ◌∙◌}
use Rattle.expr_text.specs.Expressions.{expr_text}
use Rattle.markup.specs.Trees.{attribute, attribute_text}
use Rattle.ucis_elements.proofs.points.append_expr_string.Goals as goal

pub returns : goal.returns
returns c =
    c.in_ok-value.ensures
    ∙ ap (λ (bytes : List ℕ). c.args.text.now.items ++ attribute_text (attribute (codes "exprString") bytes))
    (c.as_slice.ensures.value ∙ c.in_ok-append_expr.ensures
    ∙ (λ i. c.new-string.ensures.items i ++ expr_text c.args.names.now.signals.now c.args.names.now.arguments.now (c.look.ensures i)))
