use Rattle.std.proofs.Common.{◌≡◌, ◌∙◌, ap, sym, map, List, ℕ, Option, Some}
use Rattle.std.specs.Prelude.{option_map}
use Rattle.std.specs.Arc.{arc_value}
use Rattle.std.specs.declared.sync.Arc.{Arc}
use Rattle.std.specs.declared.alloc.Global.{Global}
use Rattle.cov_tree.specs.declared.name.Name.{Name}
use Rattle.ucis_model.specs.Paths.{find_in}
use Rattle.store_parts.specs.Putting.{put_node, put_path}
use Rattle.store_sums.proofs.Stored.{set_option}
use Rattle.store_parts.proofs.remaking.put_found.Goals as goal

pub returns-clause-out : goal.returns-clause-out
returns-clause-out c =
    let nodes = c.args.branches.now in
    let view : Option (Arc Name Global) → Option (List ℕ) = λ p. option_map (λ (a : Arc Name Global). arc_value a) p in
    let old = map view c.args.out.now.items in
    let p = arc_value c.in-Some.path in
    let n = c.in-Some-find.node in
    let name : c.as_slice.result.now ≡ p = c.as_slice.ensures ∙ c.deref.ensures in
    let found : find_in nodes p ≡ Some n = ap (find_in nodes) (sym name) ∙ sym c.in-Some-find.ensures in
    set_option (λ (a : Arc Name Global). arc_value a) c.args.out.now.items c.put_at.new.out.items n c.in_ok-clone.field-0 p c.put_at.ensures c.in_ok-clone.ensures.cases
    ∙ ap (λ (o : Option ℕ). put_node o p old) (sym found)
    ∙ ap (λ (o : Option (Arc Name Global)). put_path nodes (option_map (λ (a : Arc Name Global). arc_value a) o) old) (sym c.in-Some.is)
