use Rattle.std.proofs.Common.{◌≡◌, ap, sym, ◌∙◌, List, ◌++◌, ◌∷◌, [], length, get_or, Bool, cond, take, ℕ, arith, ◌<◌}
use Rattle.design_data.specs.declared.infos.BinInfo.{BinInfo}
use Rattle.point_tables.specs.Tables.{places_from, has_value}
use Rattle.point_tables.proofs.Places.{places_more, noted_more}
use Rattle.point_tables.proofs.values.walk_values.Goals as goal

pub loop-place-preserved : goal.loop-place-preserved
loop-place-preserved c =
    let bins = c.args.item.now.bins in
    let place = c.loop-place.place in
    let met = c.loop-place.met.items in
    let bin = c.bin-item.result in
    let test : BinInfo → Bool = λ b. has_value bins c.args.value.now b.rule in
    let lt : place < length bins = omega (arith, c.loop-place-test.true, ap (λ (b : List BinInfo). length b) c.as_slice-bin-items.ensures) in
    let is : bin ≡ get_or bins place bin = c.bin-item.is ∙ ap (λ (b : List BinInfo). get_or b place bin) c.as_slice-bin-items.ensures in
    c.in_ok-note.ensures ∙ ap (λ (b : Bool). cond b (met ++ place ∷ []) met) c.is_met.ensures
    ∙ noted_more (test bin) place c.args.met.now.items (places_from test 0 (take place bins)) met c.loop-place.invariant
    ∙ ap (λ (ps : List ℕ). c.args.met.now.items ++ ps) (sym (places_more test bins place bin lt is))
