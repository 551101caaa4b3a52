use Rattle.std.proofs.Common.{ap, sym, ◌∙◌, List, ◌++◌}
use Rattle.elab_values.specs.declared.made.Made.{Made}
use Rattle.elab_bins.specs.Left.{bins_left, left_of}
use Rattle.elab_points.proofs.Removal.{left_more}
use Rattle.elab_points.proofs.left.bins_left.Goals as goal

pub loop-made-init : goal.loop-made-init
unfolding bins_left
loop-made-init c = c.new-kept.ensures

pub loop-made-preserved : goal.loop-made-preserved
loop-made-preserved c =
    let all = c.args.all.now in
    let illegal = c.args.illegal.now in
    c.in_ok-keep_left.ensures
    ∙ (ap (λ (bs : List Made). bs ++ left_of all illegal c.in-Some.made) c.loop-made.invariant ∙ sym (left_more all illegal c.loop-made.yielded c.in-Some.made))
