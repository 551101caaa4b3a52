use Rattle.std.proofs.Common.{ℕ, List, ◌++◌, ap, ◌∙◌}
use Rattle.covd_commands.specs.Columns.{counts_of}
use Rattle.covd_commands.specs.Walks.{lines_from}
use Rattle.covd_commands.proofs.Printed.{lines_are}
use Rattle.covd_commands.proofs.lines.append_design.Goals as goal

pub returns : goal.returns
returns c =
    let counts = counts_of c.args.column.now in
    c.in_ok-append_groups.ensures
    ∙ ap (λ (lines : List ℕ). c.args.text.now.items ++ lines) ((λ i. lines_from counts (c.instances.ensures i) 0 (c.groups.ensures i)) ∙ lines_are counts c.args.design.now)
