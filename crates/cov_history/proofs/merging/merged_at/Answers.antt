use Rattle.std.proofs.Common.{◌∙◌, ℕ, ap, arith, length, List, map}
use Rattle.std.specs.Prelude.{slice_index}
use Rattle.cov_history.specs.Coverage as meant
use Rattle.cov_history.specs.Flags.{flagged}
use Rattle.cov_history.proofs.Naming.{merged_is}
use Rattle.cov_history.proofs.Weighing.{few_live}
use Rattle.cov_history.proofs.merging.merged_at.Goals as goal

pub mean_of_names-requires : goal.mean_of_names-requires
mean_of_names-requires c =
    let e = ap (λ (bins : List ℕ). length bins) (c.as_slice-3.ensures.value ∙ c.in_ok-live.ensures) in
    let f = few_live c.args.nodes.now (flagged c.args.excluded.now) c.args.place in
    let g = ap (λ (bins : List ℕ). length bins) c.requires.bins in
    omega (arith, e, f, g, c.requires.few)

pub returns : goal.returns
returns c =
    let nodes = c.args.nodes.now in
    let live = c.as_slice-3.ensures.value ∙ c.in_ok-live.ensures in
    let first = c.as_slice.ensures.value ∙ c.in_ok-live.ensures in
    let names = c.as_slice-4.ensures.value ∙ c.in_ok-names.ensures ∙ ap meant.once (c.as_slice-2.ensures.value ∙ c.in_ok-all.ensures ∙ ap (map (meant.item_name nodes)) first) in
    merged_is nodes (slice_index c.args.counts.now) (flagged c.args.excluded.now) c.args.place c.as_slice-3.result.now c.as_slice-4.result.now c.in_ok-part.part live names c.in_ok-part.ensures
