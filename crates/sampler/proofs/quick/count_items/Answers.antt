use Rattle.std.proofs.Common.{◌≡◌, ◌+◌, ◌<◌, ◌≤◌, ◌∙◌, ℕ, length, Some, sym, subst, arith}
use Rattle.std.specs.Prelude.{slice_get}
use Rattle.std.proofs.lemmas.Option.{slice_get_within, get_or_from_slice_get}
use Rattle.const_eval.specs.Terms.{Term, typ_of}
use Rattle.point_sampler.specs.declared.plan.PointPlan.{PointPlan}
use Rattle.point_sampler.specs.Plans as points
use Rattle.point_sampler.specs.Points as points_stand
use Rattle.point_sampler.specs.Quick.{IsQuick, HasRoom}
use Rattle.sampler.proofs.Items.{read_at, some_last}
use Rattle.sampler.proofs.Ready.{quick_more}
use Rattle.sampler.proofs.quick.count_items.Goals as goal

pub bounds-exprs-quick : goal.bounds-exprs-quick
bounds-exprs-quick c =
    let list = c.args.list.now in
    let i = c.loop-quick.quick-index in
    let quick = c.quick-item.result in
    let lt : i < length list = omega arith in
    let here = c.requires i quick (read_at list i quick lt c.quick-item.is) in
    slice_get_within c.args.exprs.now quick.expr here.expr here.is_expr

pub count-requires-clause-quick : goal.count-requires-clause-quick
count-requires-clause-quick c =
    let exprs = c.args.exprs.now in
    let list = c.args.list.now in
    let i = c.loop-quick.quick-index in
    let quick = c.quick-item.result in
    let e = c.index-exprs-quick.result in
    let lt : i < length list = omega arith in
    let here = c.requires i quick (read_at list i quick lt c.quick-item.is) in
    let same : e ≡ here.expr = c.index-exprs-quick.is ∙ get_or_from_slice_get exprs quick.expr here.expr e here.is_expr in
    let plan_is : c.get-plan.result.now ≡ quick.plan = cc in
    subst (λ (q : PointPlan). IsQuick q (typ_of e)) (sym plan_is) (subst (λ (x : Term). IsQuick quick.plan (typ_of x)) (sym same) here.is_quick)

pub count-requires-clause-room : goal.count-requires-clause-room
count-requires-clause-room c =
    let list = c.args.list.now in
    let i = c.loop-quick.quick-index in
    let quick = c.quick-item.result in
    let lt : i < length list = omega arith in
    let here = c.requires i quick (read_at list i quick lt c.quick-item.is) in
    let plan_is : c.get-plan.result.now ≡ quick.plan = cc in
    subst (λ (q : PointPlan). HasRoom q quick.first_bin (length c.loop-quick.counts)) (sym plan_is) (subst (λ (n : ℕ). HasRoom quick.plan quick.first_bin n) (sym c.loop-quick.invariant.same) here.room)

pub loop-quick-preserved : goal.loop-quick-preserved
loop-quick-preserved c =
    let exprs = c.args.exprs.now in
    let list = c.args.list.now in
    let i = c.loop-quick.quick-index in
    let quick = c.quick-item.result in
    let e = c.index-exprs-quick.result in
    let got = c.get-plan.result.now in
    let start = c.args.counts.now in
    let old = c.loop-quick.counts in
    let new = c.count.new.counts in
    let lt : i < length list = omega arith in
    let at : slice_get list i ≡ Some quick = read_at list i quick lt c.quick-item.is in
    let plan_is : got ≡ quick.plan = cc in
    record {
      same = omega arith;
      taken = λ items plans chosen states all m work are len sample stand.
          quick_more exprs (length start) items plans chosen list work are i quick states all m start old new at len
          (λ item expr state is_expr own first unguarded h.
          let same : e ≡ expr = c.index-exprs-quick.is ∙ get_or_from_slice_get exprs quick.expr expr e is_expr in
          let before : points_stand.PointStands item e got all m state old = subst (λ (x : Term). points_stand.PointStands item x got all m state old) (sym same) (subst (λ (q : PointPlan). points_stand.PointStands item expr q all m state old) (sym plan_is) h) in
          let after : points_stand.PointStands item e got all (m + 1) state new = c.count.ensures.stands item all m state (subst (λ (q : PointPlan). points.IsPlanOf item q) (sym plan_is) own) first unguarded (record { within = sample.within; few = omega (arith, sample.few); is = sample.is }) before in
          subst (λ (q : PointPlan). points_stand.PointStands item expr q all (m + 1) state new) plan_is (subst (λ (x : Term). points_stand.PointStands item x got all (m + 1) state new) same after))
          (λ item own first. c.count.ensures.others item (subst (λ (q : PointPlan). points.IsPlanOf item q) (sym plan_is) own) first)
          (c.loop-quick.invariant.taken items plans chosen states all m work are len sample stand);
    }

pub returns : goal.returns
returns c = λ items plans chosen states all m work are len sample stand.
    let past : length chosen ≤ c.loop-quick.quick-index = omega (arith, are.same) in
    some_last items plans chosen all (λ shape. m) (λ shape. m + 1) c.loop-quick.quick-index c.args.counts.now states c.loop-quick.counts past
    (c.loop-quick.invariant.taken items plans chosen states all m work are len sample stand)
