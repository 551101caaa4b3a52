use Rattle.std.proofs.Common.{◌≡◌, List, length, sym, subst}
use Rattle.std.proofs.lemmas.Bool.{eqb-false}
use Rattle.const_eval.specs.Terms.{Term}
use Rattle.sampler.specs.Quick.{AreQuick, AreReady}
use Rattle.sampler.proofs.Ready.{parts_of, inst_work, found, quick_walk, ready}
use Rattle.sampler.proofs.walking.take_quick.Goals as goal

pub count_items-requires : goal.count_items-requires
count_items-requires c =
    let instances = c.args.instances.now in
    let plans = c.args.plans.now in
    let share = c.args.share.now in
    let kept = c.args.kept.now.items in
    let n = length c.args.counts.now in
    let parts = parts_of instances plans share kept n c.args.index c.requires.work c.requires.fits c.if-index-instances.false in
    let quick = found c.args.rec.now instances plans share kept n c.args.index c.requires.work c.requires.fits parts c.args.table.now.exprs.items c.args.table.now.lists c.list-list.result.now c.requires.table c.list-list.ensures
    (eqb-false (length c.list-list.result.now) 0 (sym c.if-is_empty.ensures)) in
    let exprs : c.args.table.now.exprs.items ≡ c.as_slice.result.now = sym c.as_slice.ensures.value in
    subst (λ (es : List Term). AreReady es n c.list-list.result.now) exprs
    (ready c.args.table.now.exprs.items n parts.inst.items parts.p.items parts.chosen c.list-list.result.now
    (inst_work c.args.rec.now instances plans share kept n c.args.index c.requires.work c.requires.fits parts) quick.are)

pub returns-clause-at : goal.returns-clause-at
returns-clause-at c = λ yes start args before events few h.
    let r = c.args.rec.now in
    let instances = c.args.instances.now in
    let plans = c.args.plans.now in
    let share = c.args.share.now in
    let kept = c.args.kept.now.items in
    let n = length c.args.counts.now in
    let j = c.args.index in
    let exprs = c.args.table.now.exprs.items in
    let list = c.list-list.result.now in
    let parts = parts_of instances plans share kept n j c.requires.work c.requires.fits c.if-index-instances.false in
    let quick = found r instances plans share kept n j c.requires.work c.requires.fits parts exprs c.args.table.now.lists list c.requires.table c.list-list.ensures
    (eqb-false (length list) 0 (sym c.if-is_empty.ensures)) in
    let work = inst_work r instances plans share kept n j c.requires.work c.requires.fits parts in
    quick_walk r instances plans share kept n j c.requires.work c.requires.fits parts exprs list c.args.values.now args before events start c.args.counts.now c.count_items.new.counts quick few
    (λ states all m len sample stand. c.count_items.ensures parts.inst.items parts.p.items parts.chosen states all m work
    (subst (λ (es : List Term). AreQuick es parts.inst.items parts.p.items parts.chosen list) (sym c.as_slice.ensures.value) quick.are) len sample stand) h
