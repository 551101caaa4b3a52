use Rattle.std.proofs.Common.{◌+◌, ◌*◌, ◌^◌, ◌<◌, ap, sym, subst}
use Rattle.const_eval.proofs.Words.{joined_below, shifted_whole}
use Rattle.const_eval.proofs.values.beside.Goals as goal

pub overflow_add-result : goal.overflow_add-result
overflow_add-result c =
    let below = joined_below c.args.front c.args.last c.args.left c.args.right c.requires.most c.requires.left_below c.requires.right_below in
    record { fits = rw c.get.ensures.value (subst (λ k. k + c.args.right < 2 ^ 64) (sym (shifted_whole (c.args.left * 2 ^ c.args.last) c.args.right below)) below) }

pub returns : goal.returns
returns c =
    let below = joined_below c.args.front c.args.last c.args.left c.args.right c.requires.most c.requires.left_below c.requires.right_below in
    rw c.get.ensures.value (ap (λ k. k + c.args.right) (shifted_whole (c.args.left * 2 ^ c.args.last) c.args.right below))
