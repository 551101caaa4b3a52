use Rattle.std.proofs.Common.{ap, ◌∙◌, arith, length, ℕ, List, Bool}
use Rattle.std.specs.List.{range_with_len}
use Rattle.std.proofs.lemmas.List.Sums.{length-filter, count_by-le-length}
use Rattle.std.proofs.lemmas.List.FromFn.{length-range_with_len}
use Rattle.ucis_model.specs.Paths.{node_at}
use Rattle.cov_history.specs.Nodes.{is_bin}
use Rattle.cov_history.proofs.Ranges.{range_more}
use Rattle.cov_history.proofs.covering.bin_nodes.Goals as goal

pub loop-place-preserved : goal.loop-place-preserved
loop-place-preserved c =
    let inv = c.loop-place.invariant in
    (range_more (λ n. is_bin (node_at c.args.nodes.now n).kind) c.loop-place.place c.loop-place.bins.items c.push_if.new.places.items c.is_bin-is_bin.result inv.0 (c.is_bin-is_bin.ensures ∙ ap is_bin c.said.ensures.kind) c.in_ok-push_if.ensures, omega (arith, inv.1, inv.2, c.loop-place-test.true), inv.2)

pub returns-clause-few : goal.returns-clause-few
returns-clause-few c =
    let inv = c.loop-place.invariant in
    let p : ℕ → Bool = λ n. is_bin (node_at c.args.nodes.now n).kind in
    let e = ap (λ (ns : List ℕ). length ns) inv.0 in
    let a = length-filter p (range_with_len 0 c.loop-place.place) in
    let b = count_by-le-length p (range_with_len 0 c.loop-place.place) in
    let l = length-range_with_len 0 c.loop-place.place in
    let most = c.requires in
    omega (arith, e, a, b, l, inv.1, inv.2, most)
