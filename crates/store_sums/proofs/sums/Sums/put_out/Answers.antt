use Rattle.std.proofs.Common.{◌≡◌, List, ℕ, map, Option, Some, ap, refl, ◌∙◌}
use Rattle.std.specs.Prelude.{option_map, slice_set}
use Rattle.std.specs.Arc.{arc_value}
use Rattle.std.specs.declared.sync.Arc.{Arc}
use Rattle.std.specs.declared.alloc.Global.{Global}
use Rattle.cov_tree.specs.declared.name.Name.{Name}
use Rattle.store_sums.specs.declared.branches.Facts.{Facts}
use Rattle.store_sums.specs.Runs.{remarked}
use Rattle.store_sums.proofs.Marking.{changed_marks}
use Rattle.store_sums.proofs.Stored.{set_option}
use Rattle.store_sums.proofs.sums.Sums.put_out.Goals as goal

pub invariant_of-self-clause-marked : goal.invariant_of-self-clause-marked
invariant_of-self-clause-marked c =
    let s = c.args.self.now in
    let path = arc_value c.args.path in
    let seen : List (Option (Arc Name Global)) → List (Option (List ℕ)) = λ xs. map (λ (p : Option (Arc Name Global)). option_map arc_value p) xs in
    let out : seen c.put_at.new.out.items ≡ slice_set (seen s.out.items) c.args.node (Some path) = set_option arc_value s.out.items c.put_at.new.out.items c.args.node c.args.path path c.put_at.ensures refl in
    let first = c.facts-first.result.first_bin in
    let made : c.mark_bin.new.runs ≡ remarked s.branches s.counts.items (seen c.put_at.new.out.items) first s.runs = c.mark_bin.ensures ∙ (λ i. remarked s.branches (c.as_slice.ensures.value i) (seen (c.as_slice-2.ensures.value i)) first s.runs) in
    changed_marks s.design s.branches s.counts.items (seen s.out.items) (seen c.put_at.new.out.items) c.args.node first (Some path) s.runs c.mark_bin.new.runs s.nodes_are s.marked out (ap (λ (f : Facts). f.first_bin) c.facts-first.ensures) made
