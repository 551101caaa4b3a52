use Rattle.std.proofs.Common.{◌≡◌, ℕ, List, length, filter, ap, ◌∙◌}
use Rattle.std.specs.Prelude.{ℤ, not, eqb}
use Rattle.cov_base.specs.Sets.{written, is_in}
use Rattle.elab_crosses.proofs.Lists.{some_kept}
use Rattle.elab_crosses.proofs.selections.meets.Goals as goal

pub returns : goal.returns
returns c =
    let listed = is_in (written c.args.listed.now) in
    let items : c.of-numbers.result ≡ c.args.set.now = c.of-numbers.ensures ∙ (c.in_ok-from_slice.ensures.items ∙ c.intervals.ensures.value) in
    ap (λ (n : ℕ). not (eqb n 0)) (c.count.ensures ∙ ap length (c.in_ok-common.ensures ∙ ap (λ (set : List (ℤ × ℤ)). filter listed (written set)) items))
    ∙ some_kept listed (written c.args.set.now)
