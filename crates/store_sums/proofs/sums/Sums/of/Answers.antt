use Rattle.std.proofs.Common.{◌∙◌, ap, sym, List, ℕ, map, Option, None, length, replicate, subst, true}
use Rattle.std.specs.Prelude.{option_map}
use Rattle.std.specs.Arc.{arc_value}
use Rattle.std.specs.declared.sync.Arc.{Arc}
use Rattle.std.specs.declared.alloc.Global.{Global}
use Rattle.cov_tree.specs.declared.name.Name.{Name}
use Rattle.design_data.specs.declared.design.Design.{Design}
use Rattle.ucis_model.specs.declared.node.Node.{Node}
use Rattle.ucis_model.specs.Nodes.{nodes_of}
use Rattle.store_sums.specs.Runs.{HasMarks}
use Rattle.store_sums.proofs.sums.Sums.of.Goals as goal

pub invariant_of-result-clause-nodes_are : goal.invariant_of-result-clause-nodes_are
invariant_of-result-clause-nodes_are c = c.in_ok-branches.ensures ∙ ap (λ (d : Design). nodes_of d) (c.deref.ensures ∙ sym c.in_ok-again.ensures)

pub invariant_of-result-clause-marked : goal.invariant_of-result-clause-marked
invariant_of-result-clause-marked c =
    let seen : List (Option (Arc Name Global)) → List (Option (List ℕ)) = λ xs. map (λ (p : Option (Arc Name Global)). option_map arc_value p) xs in
    let nodes = c.in_ok-branches.branches in
    subst (λ (xs : List (Option (Arc Name Global))). HasMarks nodes c.in_ok-counts.counts.items (seen xs) (λ p. true) c.in_ok-runs.runs) c.as_slice-2.ensures.value
    (subst (λ (xs : List ℕ). HasMarks nodes xs (seen c.as_slice-2.result.now) (λ p. true) c.in_ok-runs.runs) c.as_slice.ensures.value c.in_ok-runs.ensures)

pub returns-clause-counts : goal.returns-clause-counts
returns-clause-counts c = c.in_ok-counts.ensures ∙ ap (λ (n : ℕ). replicate n 0) (c.bin_count.ensures ∙ ap (λ (d : Design). d.bin_count) (c.deref-2.ensures ∙ sym c.in_ok-again.ensures))

pub returns-clause-out : goal.returns-clause-out
returns-clause-out c = c.in_ok-out.ensures ∙ ap (λ (n : ℕ). replicate n None) (c.len.ensures ∙ ap (λ (ns : List Node). length ns) (c.in_ok-branches.ensures ∙ ap (λ (d : Design). nodes_of d) (c.deref.ensures ∙ sym c.in_ok-again.ensures)))
