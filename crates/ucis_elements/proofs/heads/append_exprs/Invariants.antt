use Rattle.std.proofs.Common.{◌≡◌, ◌++◌, take, drop, ◌<◌, ◌^◌, ℕ}
use Rattle.markup.specs.Trees.{each, markup_text}
use Rattle.ucis_elements.specs.Items.{expr_element}
use Rattle.ucis_elements.proofs.heads.append_exprs.Given as goal

abbrev pub invariant-loop-axis : goal.invariant-loop-axis
invariant-loop-axis l = l.text.items ++ markup_text (each (expr_element l.items) (drop l.axis-index l.axes)) ≡ l.fn.text.items ++ markup_text (each (expr_element l.items) l.axes)
