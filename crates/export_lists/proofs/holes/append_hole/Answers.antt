use Rattle.std.proofs.Common.{◌++◌, ◌∙◌}
use Rattle.export_lists.specs.Lines.{hole_line}
use Rattle.export_lists.proofs.holes.append_hole.Goals as goal

pub returns : goal.returns
returns c =
    c.in_ok-append_hole.ensures
    ∙ (λ i. c.args.text.now.items ++ hole_line (c.count-hits.ensures i) (c.least_of-least.ensures i) ((c.as_slice.ensures ∙ c.in_ok-path.ensures) i))
