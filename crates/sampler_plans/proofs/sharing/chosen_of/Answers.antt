use Rattle.std.proofs.Common.{◌≡◌, ◌∙◌, ℕ, ap, arith}
use Rattle.std.specs.Prelude.{slice_index, ◌%◌, ◌==◌}
use Rattle.sampler_plans.specs.Shares.{chosen_items}
use Rattle.sampler_plans.proofs.Chosen.{passing_more}
use Rattle.sampler_plans.proofs.sharing.chosen_of.Goals as goal

pub loop-index-preserved : goal.loop-index-preserved
loop-index-preserved c =
    passing_more (λ index. slice_index c.args.labels.now index % c.args.parts == c.args.part) c.loop-index.index c.loop-index.chosen.items c.push_if.new.out.items c.is_own.result c.loop-index.invariant c.is_own.ensures c.in_ok-push_if.ensures

pub returns : goal.returns
returns c =
    let all : c.loop-index.index ≡ c.args.count = omega arith in
    c.of.ensures ∙ c.loop-index.invariant ∙ ap (λ (n : ℕ). chosen_items c.args.labels.now c.args.parts c.args.part n) all
