use Rattle.std.proofs.Common.{rules, ◌≡◌, length}
use Rattle.elab_points.proofs.Unremoved.{none_removed}
use Rattle.elab_points.proofs.left.set_left.Goals as goal

pub returns-then-is_empty-2 : goal.returns-then-is_empty-2
returns-then-is_empty-2 c =
    let none : length c.args.removed.now ≡ 0 = search rules in
    none_removed c.args.removed.now c.args.set c.intervals.ensures.set_of_written none
