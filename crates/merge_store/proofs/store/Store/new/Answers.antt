use Rattle.std.proofs.Common.{◌≡◌, ◌∙◌, ap, List, ℕ, map, length, replicate, Option, None, refl}
use Rattle.std.specs.Prelude.{option_map}
use Rattle.std.specs.Arc.{arc_value}
use Rattle.std.specs.declared.sync.Arc.{Arc}
use Rattle.std.specs.declared.alloc.Global.{Global}
use Rattle.cov_tree.specs.declared.name.Name.{Name}
use Rattle.design_data.specs.declared.design.Design.{Design}
use Rattle.ucis_model.specs.Nodes.{nodes_of}
use Rattle.store_parts.proofs.Beginning.{fresh, map_none}
use Rattle.merge_store.proofs.store.Store.new.Goals as goal

pub invariant_of-result-clause-keeps : goal.invariant_of-result-clause-keeps
invariant_of-result-clause-keeps c =
    let d = arc_value c.args.design in
    let view : Option (Arc Name Global) → Option (List ℕ) = λ p. option_map (λ (a : Arc Name Global). arc_value a) p in
    let sums = c.in_ok-sums.sums in
    let is : sums.design ≡ d = c.in_ok-sums.ensures.design in
    let counts : sums.counts.items ≡ replicate d.bin_count 0 = c.in_ok-sums.ensures.counts ∙ ap (λ (x : Design). replicate x.bin_count 0) is in
    let none : sums.out.items ≡ replicate (length (nodes_of d)) None = c.in_ok-sums.ensures.out ∙ ap (λ (x : Design). replicate (length (nodes_of x)) None) is in
    let out : map view sums.out.items ≡ replicate (length (nodes_of d)) None = ap (map view) none ∙ map_none view (length (nodes_of d)) None refl in
    let kept = fresh d (nodes_of d) sums.counts.items (map view sums.out.items) refl counts out in
    rw (c.new.ensures.items, c.new-2.ensures.empty, is) kept
