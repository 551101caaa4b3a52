use Rattle.std.proofs.Common.{ℕ, refl, arith}
use Rattle.std.proofs.lemmas.Option.{slice_get_within}
use Rattle.design_data.specs.declared.infos.ItemInfo.{ItemInfo}
use Rattle.sampler.specs.Shares.{IsTogether}
use Rattle.sampler.proofs.Items.{each_more, read_at}
use Rattle.sampler_threads.proofs.labels.are_items_together.Goals as goal

pub loop-index-init : goal.loop-index-init
loop-index-init c = λ k item lt. absurd (omega (arith, lt))

pub loop-index-preserved : goal.loop-index-preserved
loop-index-preserved c =
    let item = c.index-items-index.result in
    each_more (λ (k : ℕ) (x : ItemInfo). IsTogether c.args.labels.now k x.shape) c.args.items.now c.loop-index.index item (read_at c.args.items.now c.loop-index.index item c.loop-index-test.true c.index-items-index.is)
    (c.if-not-is_together.ensures refl) c.loop-index.invariant

pub returns : goal.returns
returns c = λ yes k item e. c.loop-index.invariant k item (omega (arith, slice_get_within c.args.items.now k item e, c.loop-index-test.false)) e
