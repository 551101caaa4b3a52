use Rattle.std.proofs.Common.{◌≡◌, ℕ, subst, arith}
use Rattle.sampler_threads.specs.Merging.{IsMerged}
use Rattle.sampler_threads.proofs.Merged.{merged_all}
use Rattle.sampler_threads.proofs.parallel.merged.Goals as goal

pub returns : goal.returns
returns c =
    let all : c.loop-part.part ≡ c.args.parts = omega arith in
    merged_all c.args.design.now c.args.rec.now c.args.labels.now c.args.parts c.loop-part.total.items c.requires.some
    (subst (λ (n : ℕ). IsMerged c.args.design.now c.args.rec.now c.args.labels.now c.args.parts n c.loop-part.total.items) all c.loop-part.invariant)
