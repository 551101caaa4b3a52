use Rattle.std.proofs.Common.{ℕ, ◌<◌, List, ◌++◌, length, slice_get, sym, ap, subst, ◌∙◌}
use Rattle.std.specs.List.{flat_map}
use Rattle.std.specs.Prelude.{All}
use Rattle.merge_store.specs.Now.{nodes_now, count_now}
use Rattle.cross_holes.specs.declared.holes.ProjectedHole.{ProjectedHole}
use Rattle.cross_holes.specs.Projected.{cross_of, projected, alone}
use Rattle.export_lists.specs.Lines.{all_line}
use Rattle.export_lists.specs.Holes.{line_of_hole}
use Rattle.export_lists.proofs.Growing.{two_more}
use Rattle.export_lists.proofs.Inside.{alone_inside}
use Rattle.export_lists.proofs.holes.append_cross.Goals as goal

pub append_holes-requires : goal.append_holes-requires
append_holes-requires c =
    let nodes = nodes_now c.args.store.now in
    subst (λ (ns : List ℕ). All (λ n. n < length nodes) ns) (sym (c.as_slice-2.ensures ∙ c.in_ok-found.ensures.alone))
    (alone_inside nodes c.args.items.now (slice_get c.args.items.now c.args.place) (length nodes) c.args.live.now c.args.holes.now c.requires)

pub returns : goal.returns
returns c =
    let nodes = nodes_now c.args.store.now in
    let cross = cross_of nodes c.args.items.now (slice_get c.args.items.now c.args.place) c.args.live.now c.args.holes.now in
    two_more c.args.text.now.items c.append_projected.new.text.items c.append_holes.new.text.items
    (flat_map (λ hole. all_line c.args.path.now hole.point hole.member) (projected cross)) (flat_map (line_of_hole nodes (count_now c.args.store.now)) (alone cross))
    (c.in_ok-append_projected.ensures ∙ ap (λ (found : List ProjectedHole). c.args.text.now.items ++ flat_map (λ hole. all_line c.args.path.now hole.point hole.member) found) (c.as_slice.ensures ∙ c.in_ok-found.ensures.projected))
    (c.in_ok-append_holes.ensures ∙ ap (λ (ns : List ℕ). c.append_projected.new.text.items ++ flat_map (line_of_hole nodes (count_now c.args.store.now)) ns) (c.as_slice-2.ensures ∙ c.in_ok-found.ensures.alone))
