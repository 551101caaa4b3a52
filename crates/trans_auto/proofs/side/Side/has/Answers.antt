use Rattle.std.proofs.Common.{◌<◌, length, map, take, Some, subst, arith}
use Rattle.std.specs.Prelude.{nat_eq}
use Rattle.std.proofs.lemmas.List.{take_all}
use Rattle.trans_auto.specs.Masks.{SeqsHold}
use Rattle.trans_auto.proofs.Languages.{seqs-start, seqs-step, some_accepts-means, known-empty, known-front, known-more}
use Rattle.trans_auto.proofs.side.Side.has.Goals as goal

pub loop-k-init : goal.loop-k-init
loop-k-init c = seqs-start 0 c.args.self.now

pub loop-k-preserved : goal.loop-k-preserved
loop-k-preserved c =
    let seqs = c.args.self.now in
    let list = c.args.list.now in
    let k = c.loop-k.k in
    let x = c.index-list-k.result in
    let lt : k < length list = omega arith in
    let step = c.step-mask.ensures (Some x) c.inside-inside.ensures in
    subst (λ w. SeqsHold 0 c.step-mask.result w seqs) (known-more list k x lt c.index-list-k.is)
    (seqs-step (nat_eq k 0) 0 c.loop-k.mask c.step-mask.result (map Some (take k list)) (Some x) seqs (known-front list k lt) c.loop-k.invariant step)

pub returns : goal.returns
returns c =
    let seqs = c.args.self.now in
    let list = c.args.list.now in
    let all = subst (λ l. SeqsHold 0 c.loop-k.mask (map Some l) seqs) (take_all c.loop-k.k list (omega arith)) c.loop-k.invariant in
    some_accepts-means c.is_empty.result 0 c.loop-k.mask (map Some list) seqs c.accepts.result (known-empty list c.is_empty.result c.is_empty.ensures) all c.accepts.ensures
