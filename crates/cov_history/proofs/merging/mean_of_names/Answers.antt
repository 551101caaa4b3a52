use Rattle.std.proofs.Common.{◌∙◌, ℕ, true, refl, ap, arith, List, map}
use Rattle.std.specs.Prelude.{slice_index}
use Rattle.percent.specs.Millionths.{mean}
use Rattle.cov_history.specs.Coverage as meant
use Rattle.cov_history.proofs.Naming.{filter_none}
use Rattle.cov_history.proofs.Weighing.{mean_more, mean_done}
use Rattle.cov_history.proofs.merging.mean_of_names.Goals as goal

pub loop-name-preserved : goal.loop-name-preserved
loop-name-preserved c =
    let a = c.args in
    let w : List ℕ → ℕ = (λ (name : List ℕ). meant.type_weight a.nodes.now (meant.named (meant.item_name a.nodes.now) name a.bins.now)) in
    let f : List ℕ → ℕ = (λ (name : List ℕ). meant.merged_item a.nodes.now (slice_index a.counts.now) (meant.named (meant.item_name a.nodes.now) name a.bins.now)) in
    let inv = c.loop-name.invariant in
    let pairs = c.add_if.ensures.pairs in (
      mean_more w f (λ name. true) a.names.now c.loop-name.name-index c.name-item.result true c.in_ok-pair.pair.0 c.in_ok-pair.pair.1 c.loop-name.mean c.add_if.new.mean c.loop-name-test.true c.name-item.is refl
          (c.in_ok-pair.ensures.weight ∙ ap (λ (name : List ℕ). meant.type_weight a.nodes.now (meant.named (meant.item_name a.nodes.now) name a.bins.now)) c.as_slice.ensures)
          (c.in_ok-pair.ensures.part ∙ ap (λ (name : List ℕ). meant.merged_item a.nodes.now (slice_index a.counts.now) (meant.named (meant.item_name a.nodes.now) name a.bins.now)) c.as_slice.ensures)
          inv.0 c.add_if.ensures.sums,
      omega (arith, pairs, inv.1),
    )

pub returns : goal.returns
returns c =
    let a = c.args in
    let w : List ℕ → ℕ = (λ (name : List ℕ). meant.type_weight a.nodes.now (meant.named (meant.item_name a.nodes.now) name a.bins.now)) in
    let f : List ℕ → ℕ = (λ (name : List ℕ). meant.merged_item a.nodes.now (slice_index a.counts.now) (meant.named (meant.item_name a.nodes.now) name a.bins.now)) in
    mean_done w f (λ name. true) a.names.now c.loop-name.name-index c.loop-name.mean c.get.result (omega (arith, c.loop-name-test.false)) c.loop-name.invariant.0 c.get.ensures
    ∙ ap (λ (names : List (List ℕ)). mean (map {B = ℕ × ℕ} (λ name. (w name, f name)) names)) (filter_none a.names.now)
