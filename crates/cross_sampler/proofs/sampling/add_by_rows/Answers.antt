use Rattle.std.proofs.Common.{◌≡◌, ◌∙◌, ◌<◌, List, ℕ, [], get_or, length, arith}
use Rattle.cross_sampler.specs.Numbers.{product_at}
use Rattle.cross_sampler.specs.Plans.{bins_with, AreRows}
use Rattle.cross_sampler.proofs.Hits.{raises_more, inside}
use Rattle.cross_sampler.proofs.sampling.add_by_rows.Goals as goal
use Rattle.design_data.specs.declared.infos.BinInfo.{BinInfo}
use Rattle.cross_select.specs.Products.{product_of}

row : (sizes : List ℕ) (bins : List BinInfo) (table : List (List ℕ)) (n : ℕ) (hit : List ℕ) → AreRows sizes bins (length bins) table → n < product_of sizes → hit ≡ get_or table n [] → hit ≡ bins_with bins (product_at sizes n) (length bins)
row sizes bins table n hit h lt is = is ∙ h.at n (omega (arith, lt, h.all))

pub add_once-requires-clause-inside : goal.add_once-requires-clause-inside
add_once-requires-clause-inside c =
    let bins = c.args.bins.now in
    let sizes = c.args.sizes.now in
    let n = get_or c.args.numbers.now c.loop-number.number-index 0 in
    inside bins (product_at sizes n) c.row-hit.result.now (length c.loop-number.stamps) (c.loop-number.invariant.stamps ∙ c.requires.bins)
    (row sizes bins c.args.table.now n c.row-hit.result.now c.requires.table (c.requires.numbers c.loop-number.number-index 0 c.loop-number-test.true) c.row-hit.ensures)

pub loop-number-preserved : goal.loop-number-preserved
loop-number-preserved c =
    let bins = c.args.bins.now in
    let sizes = c.args.sizes.now in
    let i = c.loop-number.number-index in
    let n = get_or c.args.numbers.now i 0 in
    record {
      stamps = c.add_once.auto.stamps ∙ c.loop-number.invariant.stamps;
      counts = c.add_once.auto.counts ∙ c.loop-number.invariant.counts;
      raises = raises_more bins c.args.first c.args.env.now c.args.mark sizes c.args.numbers.now i c.row-hit.result.now c.args.stamps.now c.args.counts.now c.loop-number.stamps c.loop-number.counts c.add_once.new.stamps c.add_once.new.counts c.loop-number-test.true
          (row sizes bins c.args.table.now n c.row-hit.result.now c.requires.table (c.requires.numbers i 0 c.loop-number-test.true) c.row-hit.ensures)
          c.loop-number.invariant.raises c.add_once.ensures;
    }
