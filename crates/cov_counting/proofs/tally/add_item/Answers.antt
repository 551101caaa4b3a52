use Rattle.std.proofs.Common.{◌≡◌, ◌+◌, ◌≤◌, List, [], ◌∷◌, length, get_or, refl, ap, subst, ◌∙◌, arith}
use Rattle.std.proofs.lemmas.Option.{slice_get_within}
use Rattle.design_data.specs.declared.infos.BinInfo.{BinInfo}
use Rattle.cov_counting.specs.Steps.{Extends}
use Rattle.cov_counting.proofs.Done.{extends_none, extends_more, length_more, bin_next}
use Rattle.cov_counting.proofs.tally.add_item.Goals as goal

pub loop-bin-init : goal.loop-bin-init
loop-bin-init c = record { extends = extends_none c.args.counts.now; done = λ k bin lt is. absurd (omega (arith, lt)) }

pub loop-bin-preserved : goal.loop-bin-preserved
loop-bin-preserved c =
    let inv = c.loop-bin.invariant in
    let count = c.in_ok-count_of.field-0 in
    let one : Extends c.loop-bin.counts c.push.new.self 1 = (count ∷ [], c.in_ok-push.ensures, refl) in
    let len : length c.loop-bin.counts ≡ c.args.item.now.first_bin + c.loop-bin.bin-index = omega (arith, c.requires.next, length_more c.args.counts.now c.loop-bin.counts c.loop-bin.bin-index inv.extends) in
    record {
      extends = extends_more c.args.counts.now c.loop-bin.counts c.push.new.self c.loop-bin.bin-index 1 inv.extends one;
      done = bin_next c.args.items.now c.args.item.now c.args.samples.now c.loop-bin.counts c.push.new.self c.loop-bin.bin-index c.bin-item.result count len c.in_ok-push.ensures (omega (arith, c.loop-bin-test.true, ap length c.as_slice-bin-items.ensures)) (c.bin-item.is ∙ ap (λ (xs : List BinInfo). get_or xs c.loop-bin.bin-index c.bin-item.result) c.as_slice-bin-items.ensures) c.in_ok-count_of.ensures inv.done;
    }

pub returns-clause-extends : goal.returns-clause-extends
returns-clause-extends c =
    let all : c.loop-bin.bin-index ≡ length c.args.item.now.bins = omega (arith, c.loop-bin-test.false, c.loop-bin.auto.bin-index-end, ap length c.as_slice-bin-items.ensures) in
    subst (Extends c.args.counts.now c.loop-bin.counts) all c.loop-bin.invariant.extends

pub returns-clause-done : goal.returns-clause-done
returns-clause-done c =
    let len = length_more c.args.counts.now c.loop-bin.counts c.loop-bin.bin-index c.loop-bin.invariant.extends in
    let all : length c.args.item.now.bins ≤ c.loop-bin.bin-index = omega (arith, c.loop-bin-test.false, ap length c.as_slice-bin-items.ensures) in
    record {
      within = omega (arith, len, all, c.requires.next);
      at = λ k bin is. c.loop-bin.invariant.done k bin (omega (arith, slice_get_within c.args.item.now.bins k bin is, all)) is;
    }
