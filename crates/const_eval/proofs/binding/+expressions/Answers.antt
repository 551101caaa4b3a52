use Rattle.std.proofs.Common.{◌≡◌, None, sym, subst, ◌∙◌, Bool}
use Rattle.std.specs.Prelude.{map}
use Rattle.cov_tree.specs.declared.expr.Expr.TheOpen as expr
use Rattle.cov_tree.specs.declared.expr.Expr.TheViews.{out-Expr, out-roll-Expr}
use Rattle.cov_tree.specs.declared.expr.Expr.TheVariants.{outs-Concat}
use Rattle.const_eval.specs.Scopes.{names_with}
use Rattle.const_eval.specs.Binding.{Gives, concatenation, parts_behind, seen}
use Rattle.const_eval.proofs.Equations.{any_is, whole_gives, concat_gives}
use Rattle.const_eval.proofs.binding.+expressions.Goals as goal

pub bind_within-returns-in-Concat : goal.bind_within-returns-in-Concat
bind_within-returns-in-Concat t c =
    let parts = c.in-Concat.parts in
    let out : out-Expr c.args.expr.now ≡ expr.Concat parts c.in-Concat.at = cc (outs-Concat parts c.in-Concat.at, out-roll-Expr (expr.Concat parts c.in-Concat.at)) in
    concat_gives (names_with c.args.item.now c.args.scope.now) c.args.expr.now parts c.as_slice.result.now c.in-Concat.at c.bind_concat.result out c.as_slice.ensures c.bind_concat.ensures

pub bind_concat-returns : goal.bind_concat-returns
bind_concat-returns t c =
    let names = names_with c.args.item.now c.args.scope.now in
    let parts = c.args.parts.now in
    let all = parts_behind None (map (seen names) parts) in
    subst (λ (b : Bool). Gives c.concatenate.result (concatenation all b c.args.at)) (c.has_unsized.ensures ∙ sym (any_is names parts)) (whole_gives c.in_ok-front.front all c.has_unsized.result c.args.at c.concatenate.result c.in_ok-front.ensures c.concatenate.ensures)
