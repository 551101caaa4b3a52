use Rattle.std.proofs.Common.{◌+◌, ◌||◌, take, not}
use Rattle.std.specs.List.{list_any}
use Rattle.design_data.specs.Crosses.{is_left}
use Rattle.product_bits.specs.Numbers.{product_at}
use Rattle.product_bits.proofs.SetLemmas.{marks_as}
use Rattle.elab_crosses.specs.Removal.{infos, takes}
use Rattle.elab_crosses.proofs.Removing.{any_next, all_taken}
use Rattle.elab_crosses.proofs.left.free_for.Goals as goal

pub loop-made-preserved : goal.loop-made-preserved
loop-made-preserved c =
    let sizes = c.args.sizes.now in
    let bins = c.args.bins.now in
    let i = c.loop-made.made-index in
    let made = c.made-item.result in
    marks_as sizes c.add_taken.new.taken (λ product. list_any (takes c.args.kind product) (infos (take i bins)) || takes c.args.kind product made.bin) (λ product. list_any (takes c.args.kind product) (infos (take (i + 1) bins)))
    (λ n. any_next (takes c.args.kind (product_at sizes n)) bins i made c.loop-made-test.true c.made-item.is)
    (c.in_ok-add_taken.ensures (λ product. list_any (takes c.args.kind product) (infos (take i bins))) c.loop-made.invariant)

pub returns : goal.returns
returns c =
    let sizes = c.args.sizes.now in
    let bins = c.args.bins.now in
    let i = c.loop-made.made-index in
    marks_as sizes c.flip.new.self (λ product. not (list_any (takes c.args.kind product) (infos (take i bins)))) (is_left (infos bins) c.args.kind)
    (λ n. all_taken c.args.kind (product_at sizes n) bins i c.loop-made-test.false)
    (c.flip.ensures.marks sizes (λ product. list_any (takes c.args.kind product) (infos (take i bins))) c.loop-made.invariant)
