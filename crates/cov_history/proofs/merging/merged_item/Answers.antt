use Rattle.std.proofs.Common.{◌∙◌, ℕ, ap, arith, length, List}
use Rattle.cov_history.specs.Coverage as meant
use Rattle.cov_history.proofs.Naming.{few_names}
use Rattle.cov_history.proofs.merging.merged_item.Goals as goal

pub names_covered-requires-clause-names : goal.names_covered-requires-clause-names
names_covered-requires-clause-names c =
    let few = few_names (meant.bin_name c.args.nodes.now) c.args.bins.now c.in_ok-names.names.items c.as_slice.result.now c.as_slice-2.result.now (c.as_slice.ensures.value ∙ c.in_ok-all.ensures) c.in_ok-names.ensures c.as_slice-2.ensures.value in
    let most = c.requires in
    omega (arith, few, most)

pub overflow_cast-len : goal.overflow_cast-len
overflow_cast-len c =
    let few = few_names (meant.bin_name c.args.nodes.now) c.args.bins.now c.in_ok-names.names.items c.as_slice.result.now c.as_slice-2.result.now (c.as_slice.ensures.value ∙ c.in_ok-all.ensures) c.in_ok-names.ensures c.as_slice-2.ensures.value in
    let same = ap (λ (names : List (List ℕ)). length names) c.as_slice-2.ensures.value in
    let most = c.requires in
    let len = c.len.ensures in
    omega (arith, few, most, same, len)
