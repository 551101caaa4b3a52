use Rattle.std.proofs.Common.{◌≡◌, ℕ, List, ◌++◌, map, length, sym, ap, subst, ◌∙◌}
use Rattle.std.specs.List.{range_with_len}
use Rattle.std.proofs.lemmas.List.FromFn.{length-map-range_with_len}
use Rattle.cross_holes.specs.declared.axes.Axis.{Axis}
use Rattle.cross_holes.specs.declared.holes.ProjectedHole.{ProjectedHole}
use Rattle.cross_holes.specs.Projected.{Cross, cross_with, axis_at, member_on, is_projected}
use Rattle.cross_holes.specs.Counts.{AreCounts}
use Rattle.cross_holes.proofs.Taking.{axis_read, unsaid_more, projected_more}
use Rattle.cross_holes.proofs.holes.take_axis.Goals as goal

pub add_marked-requires-clause-marks : goal.add_marked-requires-clause-marks
add_marked-requires-clause-marks c =
    let cross : Cross = cross_with c.args.axes.now c.args.nodes.now c.args.item.now c.args.live.now c.args.holes.now in
    ap length (c.as_slice-2.ensures.value ∙ c.in_ok-marks.ensures c.args.axes.now) ∙ length-map-range_with_len (is_projected cross c.args.number) 0 _ ∙ ap length c.as_slice-members.ensures

pub returns-clause-projected : goal.returns-clause-projected
returns-clause-projected c =
    let cross : Cross = cross_with c.args.axes.now c.args.nodes.now c.args.item.now c.args.live.now c.args.holes.now in
    let own : Axis = c.index-axes-number.result in
    let own_is : own ≡ axis_at cross c.args.number = axis_read c.args.axes.now c.args.number own c.requires.number c.index-axes-number.is in
    let are = c.as_slice-2.ensures.value ∙ c.in_ok-marks.ensures c.args.axes.now
    ∙ ap (λ (n : ℕ). map (is_projected cross c.args.number) (range_with_len 0 n)) (ap length c.as_slice-members.ensures ∙ ap (λ (x : Axis). length x.members) own_is) in
    let counts = subst (λ (ns : List ℕ). AreCounts (member_on c.args.nodes.now c.args.item.now c.args.number) (length own.members) c.as_slice-unsaid.result.now ns) (sym c.as_slice-3.ensures.value)
    (subst (λ (n : ℕ). AreCounts (member_on c.args.nodes.now c.args.item.now c.args.number) n c.as_slice-unsaid.result.now c.in_ok-counts.counts.items) (ap length c.as_slice-members.ensures) c.in_ok-counts.ensures) in
    c.in_ok-add_marked.ensures
    ∙ ap (λ (more : List ProjectedHole). c.args.found.now.projected ++ more)
    (projected_more cross c.args.number c.as_slice-2.result.now are own c.as_slice-unsaid.result.now c.as_slice-3.result.now own_is (c.as_slice-unsaid.ensures ∙ c.requires.alone) counts)

pub returns-clause-alone : goal.returns-clause-alone
returns-clause-alone c =
    let cross : Cross = cross_with c.args.axes.now c.args.nodes.now c.args.item.now c.args.live.now c.args.holes.now in
    let own : Axis = c.index-axes-number.result in
    let own_is : own ≡ axis_at cross c.args.number = axis_read c.args.axes.now c.args.number own c.requires.number c.index-axes-number.is in
    let are = c.as_slice.ensures.value ∙ c.in_ok-marks.ensures c.args.axes.now
    ∙ ap (λ (n : ℕ). map (is_projected cross c.args.number) (range_with_len 0 n)) (ap length c.as_slice-members.ensures ∙ ap (λ (x : Axis). length x.members) own_is) in
    unsaid_more cross c.args.number c.as_slice.result.now are c.as_slice-unsaid.result.now c.in_ok-rest.rest (c.as_slice-unsaid.ensures ∙ c.requires.alone) c.in_ok-rest.ensures
