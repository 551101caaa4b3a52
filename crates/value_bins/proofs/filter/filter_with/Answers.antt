use Rattle.std.proofs.Common.{◌∙◌, ap, arith, []}
use Rattle.cov_base.specs.Sets.{written}
use Rattle.value_bins.proofs.Keeping.{keeps_start, keeps_range, keeps_all, keeps_what_passes}
use Rattle.value_bins.proofs.filter.filter_with.Goals as goal

pub loop-range-init : goal.loop-range-init
loop-range-init g c = keeps_start _ _ c.new-kept.ensures.items

pub loop-range-preserved : goal.loop-range-preserved
loop-range-preserved g c = keeps_range _ c.as_slice-range-items.result.now c.loop-range.range-index c.range-item.result _ _ _ (omega arith) c.range-item.is c.loop-range.invariant c.in_ok-keep_numbers.ensures

pub returns-clause-kept : goal.returns-clause-kept
returns-clause-kept g c = λ test same.
    ap written c.of.ensures ∙ keeps_what_passes _ test (written c.args.elems.now) (written c.loop-range.kept.items) (keeps_all _ c.args.elems.now c.as_slice-range-items.result.now c.loop-range.range-index [] _ c.as_slice-range-items.ensures c.loop-range-test.false c.loop-range.invariant) (λ v b told. same v b told.0 told.1)
