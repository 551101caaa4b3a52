use Rattle.std.proofs.Common.{◌≡◌, ℕ, List, refl, subst, arith}
use Rattle.std.proofs.lemmas.Option.{slice_get_within}
use Rattle.design_data.specs.declared.infos.InstInfo.{InstInfo}
use Rattle.design_data.specs.declared.infos.ItemInfo.{ItemInfo}
use Rattle.sampler.specs.Shares.{labels_at, AreItemsTogether}
use Rattle.sampler.proofs.Items.{each_more, read_at}
use Rattle.sampler_threads.proofs.labels.are_together.Goals as goal

pub loop-index-init : goal.loop-index-init
loop-index-init c = λ k inst lt. absurd (omega (arith, lt))

pub loop-index-preserved : goal.loop-index-preserved
loop-index-preserved c =
    let inst = c.index-instances-index.result in
    let labels = c.args.labels.now in
    let items : c.as_slice-items.result.now ≡ inst.items = cc in
    let together = subst (AreItemsTogether c.as_slice-items.result.now) c.labels_at-own.ensures (c.if-not-are_items_together.ensures refl) in
    each_more (λ (k : ℕ) (x : InstInfo). AreItemsTogether x.items (labels_at labels k)) c.args.instances.now c.loop-index.index inst (read_at c.args.instances.now c.loop-index.index inst c.loop-index-test.true c.index-instances-index.is)
    (subst (λ (xs : List ItemInfo). AreItemsTogether xs (labels_at labels c.loop-index.index)) items together) c.loop-index.invariant

pub returns : goal.returns
returns c = λ yes k inst e. c.loop-index.invariant k inst (omega (arith, slice_get_within c.args.instances.now k inst e, c.loop-index-test.false)) e
