use Rattle.std.proofs.Common.{◌≡◌, List, ℕ, map, Option, None, ap, ◌∙◌}
use Rattle.std.specs.Prelude.{option_map, slice_set}
use Rattle.std.specs.Arc.{arc_value}
use Rattle.std.specs.declared.sync.Arc.{Arc}
use Rattle.std.specs.declared.alloc.Global.{Global}
use Rattle.cov_tree.specs.declared.name.Name.{Name}
use Rattle.store_sums.specs.declared.branches.Facts.{Facts}
use Rattle.store_sums.specs.Runs.{remarked}
use Rattle.store_sums.proofs.Marking.{changed_marks}
use Rattle.store_sums.proofs.Stored.{unset_option}
use Rattle.store_sums.proofs.sums.Sums.put_back.Goals as goal

pub invariant_of-self-clause-marked : goal.invariant_of-self-clause-marked
invariant_of-self-clause-marked c =
    let s = c.args.self.now in
    let n = c.args.node in
    let seen : List (Option (Arc Name Global)) → List (Option (List ℕ)) = λ xs. map (λ (p : Option (Arc Name Global)). option_map arc_value p) xs in
    let out : seen c.take_at-path.new.out.items ≡ slice_set (seen s.out.items) n None = unset_option arc_value s.out.items c.take_at-path.new.out.items n c.take_at-path.ensures.items in
    let first = c.facts-first.result.first_bin in
    let made : c.mark_bin.new.runs ≡ remarked s.branches s.counts.items (seen c.take_at-path.new.out.items) first s.runs = c.mark_bin.ensures ∙ (λ i. remarked s.branches (c.as_slice.ensures.value i) (seen (c.as_slice-2.ensures.value i)) first s.runs) in
    changed_marks s.design s.branches s.counts.items (seen s.out.items) (seen c.take_at-path.new.out.items) n first None s.runs c.mark_bin.new.runs s.nodes_are s.marked out (ap (λ (f : Facts). f.first_bin) c.facts-first.ensures) made
