use Rattle.std.proofs.Common.{◌≡◌, ◌∙◌, ◌++◌, ◌∷◌, [], ap, sym, subst, ℕ, map, length}
use Rattle.std.proofs.lemmas.List.{map-append, length-map}
use Rattle.std.specs.Prelude.{slice_set}
use Rattle.std.specs.Arc.{arc_value}
use Rattle.std.specs.declared.sync.Arc.{Arc}
use Rattle.std.specs.declared.vec.Vec.{Vec}
use Rattle.std.specs.declared.alloc.Global.{Global}
use Rattle.tally.specs.declared.tally.Tally.{Tally}
use Rattle.store_parts.specs.declared.held.Kept.{Kept}
use Rattle.store_parts.proofs.Setting.{IsSetting, set_one}
use Rattle.store_parts.proofs.remaking.set_tallies.Goals as goal

pub loop-tally-preserved : goal.loop-tally-preserved
loop-tally-preserved c =
    let view : Arc Tally Global → Tally = λ t. arc_value t in
    let seen : (Vec ℕ Global × Kept) → Tally = λ e. arc_value e.1.tally in
    let old = map seen c.args.tests.now.entries in
    let new = map view c.args.tallies.items in
    let before = map seen c.loop-tally.tests.entries in
    let more = map view c.pop.new.self.items in
    let t = arc_value c.in-Some.tally in
    let left : map view c.loop-tally.left.items ≡ more ++ t ∷ [] = ap (map view) c.in-Some.ensures.items ∙ map-append view c.pop.new.self.items (c.in-Some.tally ∷ []) in
    let at : length c.as_slice.result.now ≡ length more = ap length c.as_slice.ensures.value ∙ sym (length-map c.pop.new.self.items view) in
    (subst (IsSetting old new more) (ap (λ (n : ℕ). slice_set before n t) (sym at) ∙ sym c.set_tally.ensures.tallies) (set_one old new (map view c.loop-tally.left.items) more before t c.loop-tally.invariant.0 left), c.set_tally.ensures.tests ∙ c.loop-tally.invariant.1)
