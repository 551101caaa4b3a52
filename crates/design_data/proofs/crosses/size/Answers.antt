use Rattle.std.proofs.Common.{◌<◌, ◌^◌, ◌∙◌, rules}
use Rattle.design_data.proofs.Lookups.{few_at, size_at}
use Rattle.design_data.proofs.crosses.size.Goals as goal

pub overflow_cast-result : goal.overflow_cast-result
overflow_cast-result c =
    let few : c.coverage_count.result < 2 ^ 32 = few_at c.args.items.now c.args.index c.coverage_count.result c.index-items-index.result c.requires c.if-index-items.true c.index-items-index.is c.coverage_count.ensures.few in
    search rules

pub returns-then-index-items : goal.returns-then-index-items
returns-then-index-items c = c.coverage_count.ensures.value ∙ size_at c.args.items.now c.args.index c.index-items-index.result c.if-index-items.true c.index-items-index.is
